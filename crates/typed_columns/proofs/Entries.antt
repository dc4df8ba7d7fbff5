-- Laws of the entries of maps: keys and values of one length, side by side, cut at the same places.
use Rattle.std.proofs.Common.{◌≡◌, ℕ, ◌+◌, ◌-◌, ◌≤◌, ◌<◌, List, [], ◌∷◌, ◌++◌, length, map, get_or, take, drop, ap, sym, ◌∙◌, arith, subst}
use Rattle.std.specs.Prelude.{Some}
use Rattle.std.specs.List.{slice_range, slice_get, zip}
use Rattle.std.proofs.lemmas.Slice.Zip.{length-zip, firsts-zip, seconds-zip}
use Rattle.std.proofs.lemmas.List.{length-map, take-map, drop-map, take_more, get_or-map}
use Rattle.std.proofs.lemmas.Option.{slice_get_within, get_or_from_slice_get}
use Rattle.column_parts.specs.Cuts.{cuts, IsCut}
use Rattle.column_parts.proofs.Cuts.{count_parts, length-range}

pub length-entries : {K V : Type 0} (ks : List K) (vs : List V) → length ks ≡ length vs → length (zip ks vs) ≡ length ks
length-entries ks vs same = omega (arith, length-zip ks vs, same)

pub count_maps : {K V B : Type 0} (f : List (K × V) → B) (at : List ℕ) (ks : List K) (vs : List V) → IsCut at (length ks) → length ks ≡ length vs →
    length (map f (cuts at (zip ks vs))) + 1 ≡ length at
count_maps f at ks vs cut same = count_parts f at (zip ks vs) (subst (IsCut at) (sym (length-entries ks vs same)) cut)

map-range : {A B : Type 0} (f : A → B) (xs : List A) (a b : ℕ) → map f (slice_range xs a b) ≡ slice_range (map f xs) a b
map-range f xs a b = sym (take-map f (b - a) (drop a xs)) ∙ ap (take (b - a)) (sym (drop-map f a xs))

pub keys-range : {K V : Type 0} (ks : List K) (vs : List V) (a b : ℕ) → length ks ≡ length vs →
    map (λ (e : K × V). e.0) (slice_range (zip ks vs) a b) ≡ slice_range ks a b
keys-range ks vs a b same = map-range (λ e. e.0) (zip ks vs) a b ∙ ap (λ xs. slice_range xs a b) (firsts-zip ks vs (sym same))

pub values-range : {K V : Type 0} (ks : List K) (vs : List V) (a b : ℕ) → length ks ≡ length vs →
    map (λ (e : K × V). e.1) (slice_range (zip ks vs) a b) ≡ slice_range vs a b
values-range ks vs a b same = map-range (λ e. e.1) (zip ks vs) a b ∙ ap (λ xs. slice_range xs a b) (seconds-zip ks vs (sym same))

pub length-entries-range : {K V : Type 0} (ks : List K) (vs : List V) (a b : ℕ) → length ks ≡ length vs → a ≤ b → b ≤ length ks →
    length (slice_range (zip ks vs) a b) ≡ b - a
length-entries-range ks vs a b same order within = length-range (zip ks vs) a b order (omega (arith, within, length-entries ks vs same))

both-at : {K V : Type 0} (es : List (K × V)) (i : ℕ) (k : K) (v : V) → slice_get (map (λ (e : K × V). e.0) es) i ≡ Some k → slice_get (map (λ (e : K × V). e.1) es) i ≡ Some v →
    get_or es i (k, v) ≡ (k, v)
both-at {K} {V} es i k v key value =
    let keys = map (λ (e : K × V). e.0) es in
    let values = map (λ (e : K × V). e.1) es in
    let within : i < length es = omega (arith, slice_get_within keys i k key, length-map es (λ (e : K × V). e.0)) in
    let first = sym (get_or-map (λ (e : K × V). e.0) es i (k, v) k within) ∙ get_or_from_slice_get keys i k k key in
    let second = sym (get_or-map (λ (e : K × V). e.1) es i (k, v) v within) ∙ get_or_from_slice_get values i v v value in
    λ j. (first j, second j)

-- a list that is copied place by place
pub next-copied : {A : Type 0} (xs ys zs : List A) (i : ℕ) (x y : A) → ys ≡ take i xs → zs ≡ ys ++ y ∷ [] → y ≡ x → slice_get xs i ≡ Some x → zs ≡ take (i + 1) xs
next-copied xs ys zs i x y before push same at =
    push ∙ ap (λ all. all ++ y ∷ []) before
    ∙ ap (λ z. take i xs ++ z ∷ []) (same ∙ sym (get_or_from_slice_get xs i x x at))
    ∙ sym (take_more xs i x (slice_get_within xs i x at))

-- a list of pairs that is copied place by place
pub next-entry-copied : {K V : Type 0} (es ys zs : List (K × V)) (i : ℕ) (k : K) (v : V) (l : K) (w : V) → ys ≡ take i es → zs ≡ ys ++ (l, w) ∷ [] → l ≡ k → w ≡ v →
    slice_get (map (λ (e : K × V). e.0) es) i ≡ Some k → slice_get (map (λ (e : K × V). e.1) es) i ≡ Some v → zs ≡ take (i + 1) es
next-entry-copied {K} {V} es ys zs i k v l w before push same_key same_value key value =
    let within : i < length es = omega (arith, slice_get_within (map (λ (e : K × V). e.0) es) i k key, length-map es (λ (e : K × V). e.0)) in
    push ∙ ap (λ all. all ++ (l, w) ∷ []) before
    ∙ (λ j. take i es ++ (same_key j, same_value j) ∷ [])
    ∙ ap (λ e. take i es ++ e ∷ []) (sym (both-at es i k v key value))
    ∙ sym (take_more es i (k, v) within)

pub ruleset entry_laws = (count_maps, keys-range, values-range, length-entries-range)
