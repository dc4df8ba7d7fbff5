-- Laws of a list that is cut at ascending places.
use Rattle.std.proofs.Common.{◌≡◌, add-one, ℕ, suc, zero, ◌+◌, ◌-◌, ◌≤◌, ◌<◌, List, [], ◌∷◌, ◌++◌, length, map, get_or, take, drop, refl, ap, sym, ◌∙◌, arith, length-drop}
use Rattle.std.specs.Prelude.{Some}
use Rattle.std.specs.List.{slice_range, slice_get}
use Rattle.std.proofs.lemmas.Option.{slice_get-map, slice_get-get_or}
use Rattle.std.specs.Option.{option_map}
use Rattle.std.proofs.lemmas.List.{length-map, take-map, map-append, length-take-le, take-take, take-append-le, drop-append-le, take_all, drop_at}
use Rattle.std.proofs.lemmas.Slice.{between_is}
use native.Mathlib.Numerals.{unary_clauses}
use Rattle.std.proofs.Common.{◌^◌}
use Rattle.std.proofs.lemmas.List.{append_assoc}
use Rattle.std.proofs.Math.Seq.{drop-append-add, take-suc}
use Rattle.column_parts.specs.Cuts.{cuts, IsCut, Ascends, joined_places}

pub length-cuts : {A : Type 0} (at : List ℕ) (xs : List A) → 0 < length at → length (cuts at xs) + 1 ≡ length at
length-cuts [] xs h = absurd (omega arith)
length-cuts (a ∷ []) xs h = refl
length-cuts (a ∷ b ∷ rest) xs h = omega (arith, length-cuts (b ∷ rest) xs (omega arith))

get_at : {A : Type 0} (at : List ℕ) (xs : List A) (i d e : ℕ) → suc i < length at →
    slice_get (cuts at xs) i ≡ Some (slice_range xs (get_or at i d) (get_or at (suc i) e))
get_at [] xs i d e h = absurd (omega arith)
get_at (a ∷ []) xs i d e h = absurd (omega arith)
get_at (a ∷ b ∷ rest) xs zero d e h = refl
get_at (a ∷ b ∷ rest) xs (suc i) d e h = get_at (b ∷ rest) xs i d e (omega arith)

pub get-cuts : {A : Type 0} (at : List ℕ) (xs : List A) (i d e : ℕ) → i + 1 < length at →
    slice_get (cuts at xs) i ≡ Some (slice_range xs (get_or at i d) (get_or at (i + 1) e))
get-cuts at xs i d e h = rw add-one (get_at at xs i d e (omega arith))

-- each place is at most the next, and that at most the end
pub ascends_at : (a : ℕ) (rest : List ℕ) (end i d e : ℕ) → Ascends a rest end → i < length rest →
    (get_or (a ∷ rest) i d ≤ get_or rest i e) × (get_or rest i e ≤ end)
ascends_at a [] end i d e h l = absurd (omega arith)
ascends_at a (b ∷ []) end zero d e h l = (h.0, omega (arith, h.1))
ascends_at a (b ∷ c ∷ rest) end zero d e h l = (h.0, (let r = ascends_at b (c ∷ rest) end 0 0 0 h.1 (omega arith) in omega (arith, r.0, r.1)))
ascends_at a (b ∷ rest) end (suc i) d e h l = ascends_at b rest end i d e h.1 (omega arith)

pub ascends_last : (a : ℕ) (rest : List ℕ) (end d : ℕ) → Ascends a rest end → get_or (a ∷ rest) (length rest) d ≡ end
ascends_last a [] end d h = h
ascends_last a (b ∷ rest) end d h = ascends_last b rest end d h.1

pub ascends_push : (a : ℕ) (rest : List ℕ) (end e : ℕ) → Ascends a rest end → end ≤ e → Ascends a (rest ++ e ∷ []) e
ascends_push a [] end e h l = (omega (arith, h), refl)
ascends_push a (b ∷ rest) end e h l = (h.0, ascends_push b rest end e h.1 l)

pub ascends_le : (a : ℕ) (rest : List ℕ) (end : ℕ) → Ascends a rest end → a ≤ end
ascends_le a [] end h = omega (arith, h)
ascends_le a (b ∷ rest) end h = omega (arith, h.0, ascends_le b rest end h.1)

-- a part within the first list isn't changed by what comes behind
pub range-append : {A : Type 0} (xs ys : List A) (a b : ℕ) → a ≤ b → b ≤ length xs → slice_range (xs ++ ys) a b ≡ slice_range xs a b
range-append xs ys a b h l =
    ap (take (b - a)) (drop-append-le a xs ys (omega arith)) ∙ take-append-le (b - a) (drop a xs) ys (omega (arith, length-drop a xs))

pub range-end : {A : Type 0} (xs ys : List A) (a e : ℕ) → a ≡ length xs → e ≡ length xs + length ys → slice_range (xs ++ ys) a e ≡ ys
range-end xs ys a e h k = ap (take (e - a)) (drop_at xs ys a (sym h)) ∙ take_all (e - a) ys (omega arith)

pub cuts-push : {A : Type 0} (a : ℕ) (rest : List ℕ) (xs ys : List A) (e : ℕ) → Ascends a rest (length xs) → e ≡ length xs + length ys →
    cuts ((a ∷ rest) ++ e ∷ []) (xs ++ ys) ≡ cuts (a ∷ rest) xs ++ ys ∷ []
cuts-push a [] xs ys e h is = ap (λ part. part ∷ []) (range-end xs ys a e h is)
cuts-push a (b ∷ rest) xs ys e h is =
    λ i. range-append xs ys a b h.0 (ascends_le b rest (length xs) h.1) i ∷ cuts-push b rest xs ys e h.1 is i

-- by index, on the whole list of places
pub cut_from : (at : List ℕ) (end i d : ℕ) → IsCut at end → i + 1 < length at → get_or at i d ≤ get_or at (i + 1) d
cut_from [] end i d h l = absurd h
cut_from (a ∷ rest) end i d h l = simp unary_clauses ((ascends_at a rest end i d d h.1 (omega arith)).0)

pub cut_to : (at : List ℕ) (end i d : ℕ) → IsCut at end → i + 1 < length at → get_or at (i + 1) d ≤ end
cut_to [] end i d h l = absurd h
cut_to (a ∷ rest) end i d h l = simp unary_clauses ((ascends_at a rest end i d d h.1 (omega arith)).1)

pub cut_some : (at : List ℕ) (end : ℕ) → IsCut at end → 0 < length at
cut_some [] end h = absurd h
cut_some (a ∷ rest) end h = omega arith

pub cut_push : (at : List ℕ) (n e m : ℕ) → IsCut at n → n ≤ e → m ≡ e → IsCut (at ++ e ∷ []) m
cut_push [] n e m h l is = absurd h
cut_push (a ∷ rest) n e m h l is = rw is (h.0, ascends_push a rest n e h.1 l)

pub cuts_push : {A : Type 0} (at : List ℕ) (xs ys : List A) (e : ℕ) → IsCut at (length xs) → e ≡ length xs + length ys →
    cuts (at ++ e ∷ []) (xs ++ ys) ≡ cuts at xs ++ ys ∷ []
cuts_push [] xs ys e h is = absurd h
cuts_push (a ∷ rest) xs ys e h is = cuts-push a rest xs ys e h.1 is

ascends_get : (a : ℕ) (rest : List ℕ) (end k d : ℕ) → Ascends a rest end → k < length (a ∷ rest) → a ≤ get_or (a ∷ rest) k d
ascends_get a rest end zero d h l = omega arith
ascends_get a [] end (suc k) d h l = absurd (omega arith)
ascends_get a (b ∷ rest) end (suc k) d h l = omega (arith, h.0, ascends_get b rest end k d h.1 (omega arith))

range_take : {A : Type 0} (xs : List A) (a b e : ℕ) → b ≤ e → slice_range (take e xs) a b ≡ slice_range xs a b
range_take xs a b e h = between_is (take e xs) a b ∙ ap (drop a) (take-take b e xs h) ∙ sym (between_is xs a b)

ascends_take : (a : ℕ) (rest : List ℕ) (end k d : ℕ) → Ascends a rest end → k < length (a ∷ rest) → Ascends a (take k rest) (get_or (a ∷ rest) k d)
ascends_take a rest end zero d h l = refl
ascends_take a [] end (suc k) d h l = absurd (omega arith)
ascends_take a (b ∷ rest) end (suc k) d h l = (h.0, ascends_take b rest end k d h.1 (omega arith))

cuts_front : {A : Type 0} (a : ℕ) (rest : List ℕ) (end : ℕ) (xs : List A) (k d : ℕ) → Ascends a rest end → k < length (a ∷ rest) →
    cuts (a ∷ take k rest) (take (get_or (a ∷ rest) k d) xs) ≡ take k (cuts (a ∷ rest) xs)
cuts_front a rest end xs zero d h l = refl
cuts_front a [] end xs (suc k) d h l = absurd (omega arith)
cuts_front a (b ∷ rest) end xs (suc k) d h l =
    λ i. range_take xs a b (get_or (b ∷ rest) k d) (ascends_get b rest end k d h.1 (omega arith)) i ∷ cuts_front b rest end xs k d h.1 (omega arith) i

pub cut_take : (at : List ℕ) (n k e m : ℕ) → IsCut at n → k < length at → e ≡ get_or at k e → m ≡ e → IsCut (take (k + 1) at) m
cut_take [] n k e m h l is same = absurd h
cut_take (a ∷ rest) n k e m h l is same = rw (same, is, add-one) (h.0, ascends_take a rest n k e h.1 l)

pub cuts_take : {A : Type 0} (at : List ℕ) (n : ℕ) (xs : List A) (k e : ℕ) → IsCut at n → k < length at → e ≡ get_or at k e →
    cuts (take (k + 1) at) (take e xs) ≡ take k (cuts at xs)
cuts_take [] n xs k e h l is = absurd h
cuts_take (a ∷ rest) n xs k e h l is = rw add-one (ap (λ x. cuts (a ∷ take k rest) (take x xs)) is ∙ cuts_front a rest n xs k e h.1 l)

ascends_top : (a : ℕ) (rest : List ℕ) (end k d : ℕ) → Ascends a rest end → k < length (a ∷ rest) → get_or (a ∷ rest) k d ≤ end
ascends_top a rest end zero d h l = ascends_le a rest end h
ascends_top a [] end (suc k) d h l = absurd (omega arith)
ascends_top a (b ∷ rest) end (suc k) d h l = ascends_top b rest end k d h.1 (omega arith)

pub cut_top : (at : List ℕ) (n k d : ℕ) → IsCut at n → k < length at → get_or at k d ≤ n
cut_top [] n k d h l = absurd h
cut_top (a ∷ rest) n k d h l = ascends_top a rest n k d h.1 l

pub cut_back : {A : Type 0} (at : List ℕ) (xs : List A) (k e : ℕ) → IsCut at (length xs) → k < length at → e ≡ get_or at k e → length (take e xs) ≡ e
cut_back at xs k e h l is = length-take-le e xs (omega (arith, is, cut_top at (length xs) k e h l))

pub count_parts : {A B : Type 0} (f : List A → B) (at : List ℕ) (xs : List A) → IsCut at (length xs) → length (map f (cuts at xs)) + 1 ≡ length at
count_parts f at xs h = omega (arith, length-map (cuts at xs) f, length-cuts at xs (cut_some at (length xs) h))

pub part_at : {A B : Type 0} (f : List A → B) (at : List ℕ) (xs : List A) (i : ℕ) → i + 1 < length at →
    slice_get (map f (cuts at xs)) i ≡ Some (f (slice_range xs (get_or at i 0) (get_or at (i + 1) 0)))
part_at f at xs i h = slice_get-map f (cuts at xs) i ∙ ap (option_map f) (get-cuts at xs i 0 0 h)

pub number_at : {B : Type 0} (f : ℕ → B) (xs : List ℕ) (i x : ℕ) → i < length xs → x ≡ get_or xs i x → slice_get (map f xs) i ≡ Some (f x)
number_at f xs i x h is = slice_get-map f xs i ∙ ap (option_map f) (slice_get-get_or xs i x h ∙ ap Some (sym is))

pub take_mapped : {A B : Type 0} (f : A → B) (n : ℕ) (xs ys : List A) → ys ≡ take n xs → map f ys ≡ take n (map f xs)
take_mapped f n xs ys is = ap (map f) is ∙ sym (take-map f n xs)

pub push_mapped : {A B : Type 0} (f : A → B) (xs ys : List A) (x : A) → ys ≡ xs ++ x ∷ [] → map f ys ≡ map f xs ++ f x ∷ []
push_mapped f xs ys x is = ap (map f) is ∙ map-append f xs (x ∷ [])

get-take : {A : Type 0} (n : ℕ) (xs : List A) (i : ℕ) → i < n → slice_get (take n xs) i ≡ slice_get xs i
get-take zero xs i h = absurd (omega arith)
get-take (suc n) [] i h = refl
get-take (suc n) (x ∷ xs) zero h = refl
get-take (suc n) (x ∷ xs) (suc i) h = get-take n xs i (omega arith)

next_place : (n i : ℕ) → suc (n + i) ≡ suc n + i
next_place n i = omega arith

get-drop : {A : Type 0} (n : ℕ) (xs : List A) (i : ℕ) → slice_get (drop n xs) i ≡ slice_get xs (n + i)
get-drop zero xs i = ap (slice_get xs) (omega arith)
get-drop (suc n) [] i = refl
get-drop (suc n) (x ∷ xs) i = get-drop n xs i ∙ ap (slice_get (x ∷ xs)) (next_place n i)

pub get-range : {A : Type 0} (xs : List A) (a b i : ℕ) → i < b - a → slice_get (slice_range xs a b) i ≡ slice_get xs (a + i)
get-range xs a b i h = get-take (b - a) (drop a xs) i h ∙ get-drop a xs i

pub length-range : {A : Type 0} (xs : List A) (a b : ℕ) → a ≤ b → b ≤ length xs → length (slice_range xs a b) ≡ b - a
length-range xs a b h l = length-take-le (b - a) (drop a xs) (omega (arith, length-drop a xs))

-- a second list behind the first: its places move on by the first one's length
pub place_fits : (at : List ℕ) (end base i d : ℕ) → IsCut at end → base + end < 2 ^ 64 → i < length at → base + get_or at i d < 2 ^ 64
place_fits at end base i d cut room h = omega (arith, cut_top at end i d cut h)

pub moved_more : (f : ℕ → ℕ) (old more : List ℕ) (i : ℕ) → 1 ≤ i → i < length more →
    (old ++ map f (take (i - 1) (drop 1 more))) ++ f (get_or more i 0) ∷ [] ≡ old ++ map f (take (i + 1 - 1) (drop 1 more))
moved_more f old [] i from h = absurd (omega arith)
moved_more f old (m ∷ rest) zero from h = absurd (omega arith)
moved_more f old (m ∷ rest) (suc j) from h =
    let before : suc j - 1 ≡ j = omega arith in
    let after : suc j + 1 - 1 ≡ suc j = omega arith in
    let last = map-append f (take j rest) (get_or rest j 0 ∷ []) in
    rw (before, after) (append_assoc old (map f (take j rest)) (f (get_or rest j 0) ∷ [])
    ∙ ap (λ t. old ++ t) (sym last ∙ ap (map f) (sym (take-suc rest j 0 (omega arith)))))

pub moved_all : (more : List ℕ) (i : ℕ) → length more ≤ i → take (i - 1) (drop 1 more) ≡ drop 1 more
moved_all more i h = take_all (i - 1) (drop 1 more) (omega (arith, length-drop 1 more))

range-moved : {A : Type 0} (xs ys : List A) (base b c : ℕ) → base ≡ length xs → slice_range (xs ++ ys) (base + b) (base + c) ≡ slice_range ys b c
range-moved xs ys base b c is =
    let width : (base + c) - (base + b) ≡ c - b = omega arith in
    ap (λ n. take n (drop (base + b) (xs ++ ys))) width ∙ ap (take (c - b)) (ap (λ n. drop (n + b) (xs ++ ys)) is ∙ drop-append-add xs ys b)

ascends_moved : (base b a : ℕ) (more : List ℕ) (end : ℕ) → a ≡ base + b → Ascends b more end → Ascends a (map (λ place. base + place) more) (base + end)
ascends_moved base b a [] end is h = omega (arith, is, h)
ascends_moved base b a (c ∷ more) end is h = (omega (arith, is, h.0), ascends_moved base c (base + c) more end refl h.1)

ascends_joined : (a : ℕ) (rest more : List ℕ) (base b end : ℕ) → Ascends a rest base → b ≡ 0 → Ascends b more end →
    Ascends a (rest ++ map (λ place. base + place) more) (base + end)
ascends_joined a [] more base b end h none l = ascends_moved base b a more end (omega (arith, h, none)) l
ascends_joined a (c ∷ rest) more base b end h none l = (h.0, ascends_joined c rest more base b end h.1 none l)

pub cut_joined : (at more : List ℕ) (base end total : ℕ) → IsCut at base → IsCut more end → total ≡ base + end → IsCut (joined_places base at more) total
cut_joined [] more base end total h l is = absurd h
cut_joined (a ∷ rest) [] base end total h l is = absurd l
cut_joined (a ∷ rest) (b ∷ more) base end total h l is = rw is (h.0, ascends_joined a rest more base b end h.1 l.0 l.1)

cuts_moved : {A : Type 0} (xs ys : List A) (base b a : ℕ) (more : List ℕ) → base ≡ length xs → a ≡ base + b →
    cuts (a ∷ map (λ place. base + place) more) (xs ++ ys) ≡ cuts (b ∷ more) ys
cuts_moved xs ys base b a [] long is = refl
cuts_moved xs ys base b a (c ∷ more) long is =
    λ i. (ap (λ n. slice_range (xs ++ ys) n (base + c)) is ∙ range-moved xs ys base b c long) i ∷ cuts_moved xs ys base c (base + c) more long refl i

cuts-joined : {A : Type 0} (a : ℕ) (rest : List ℕ) (xs ys : List A) (base b : ℕ) (more : List ℕ) → base ≡ length xs → Ascends a rest base → b ≡ 0 →
    cuts (a ∷ (rest ++ map (λ place. base + place) more)) (xs ++ ys) ≡ cuts (a ∷ rest) xs ++ cuts (b ∷ more) ys
cuts-joined a [] xs ys base b more long h none = cuts_moved xs ys base b a more long (omega (arith, h, none))
cuts-joined a (c ∷ rest) xs ys base b more long h none =
    λ i. range-append xs ys a c h.0 (omega (arith, ascends_le c rest base h.1, long)) i ∷ cuts-joined c rest xs ys base b more long h.1 none i

pub cuts_joined : {A : Type 0} (at more : List ℕ) (xs ys : List A) (base : ℕ) → base ≡ length xs → IsCut at base → IsCut more (length ys) →
    cuts (joined_places base at more) (xs ++ ys) ≡ cuts at xs ++ cuts more ys
cuts_joined [] more xs ys base long h l = absurd h
cuts_joined (a ∷ rest) [] xs ys base long h l = absurd l
cuts_joined (a ∷ rest) (b ∷ more) xs ys base long h l = cuts-joined a rest xs ys base b more long h.1 l.0

pub ruleset cut_laws = (get-range, length-range, length-cuts, get-cuts, cut_from, cut_to, cut_some, count_parts, part_at, number_at, take_mapped, push_mapped)
