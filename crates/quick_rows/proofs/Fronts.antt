-- The front of a text up to a byte that ends it.
use Rattle.std.proofs.Common.{◌≡◌, add-one, ℕ, zero, suc, ◌+◌, ◌-◌, ◌<◌, ◌≤◌, ◌≢◌, Bool, true, false, not, ◌||◌, ◌&&◌, List, [], ◌∷◌, ◌++◌, length, take, drop, get_or, cond, eqb, None, Some, nat_lt, ◌^◌, refl, sym, ap, subst, ◌∙◌, arith, append_assoc}
use Rattle.std.specs.List.{list_all, slice_split, onto_first, position, position_or_len}
use Rattle.std.specs.Cmp.Derive.{both_true}
use Rattle.std.proofs.lemmas.Bool.{and_parts, ltb-false}
use Rattle.std.proofs.lemmas.Bool.Decides.{nat_tests}
use Rattle.std.proofs.lemmas.Grind.{common_steps}
use Rattle.std.proofs.lemmas.List.Folds.{list_all-append}
use Rattle.std.proofs.Math.Seq.{take-length}
use Rattle.std.proofs.lemmas.List.{append-nil, take-append-drop}
use Rattle.std.proofs.lemmas.List.Quantifiers.{position-Some}
use Rattle.std.proofs.lemmas.List.Splits.{slice_split-cons_no, slice_split-cons_yes}
use Rattle.tsv_text.specs.Lines.{fields_of, is_tab}
use Rattle.scalar_texts.specs.Answer.{is_null_text}
use Rattle.quick_rows.specs.Taking.{AreBytes, Fails, IsFront, is_bare, is_plain, is_quotable}

abbrev pub is_comma : ℕ → Bool
is_comma b = eqb b 44

pub split-front : (p : ℕ → Bool) (front : List ℕ) (y : ℕ) (rest : List ℕ) → Fails p front → p y ≡ true → slice_split p (front ++ y ∷ rest) ≡ front ∷ slice_split p rest
split-front p [] y rest h passes = slice_split-cons_yes p y rest passes
split-front p (x ∷ front) y rest h passes = slice_split-cons_no p x (front ++ y ∷ rest) h.0 ∙ ap (onto_first x) (split-front p front y rest h.1 passes)

pub split-whole : (p : ℕ → Bool) (xs : List ℕ) → Fails p xs → slice_split p xs ≡ xs ∷ []
split-whole p [] h = refl
split-whole p (x ∷ xs) h = slice_split-cons_no p x xs h.0 ∙ ap (onto_first x) (split-whole p xs h.1)

-- a front without a tab is the first field, where a tab or nothing stands behind it
pub field_then_tab : (text field left after : List ℕ) → IsFront text field left → left ≡ 9 ∷ after → fields_of text ≡ field ∷ fields_of after
unfolding fields_of
field_then_tab text field left after h tab = ap fields_of (h.0 ∙ ap (λ t. field ++ t) tab) ∙ split-front is_tab field 9 after h.1 refl

pub field_alone : (text field left : List ℕ) → IsFront text field left → left ≡ [] → fields_of text ≡ field ∷ []
unfolding fields_of
field_alone text field left h none = ap fields_of (h.0 ∙ ap (λ t. field ++ t) none ∙ append-nil field) ∙ split-whole is_tab field h.1

-- neither a comma nor a tab
abbrev pub keeps_on : ℕ → Bool
keeps_on b = not (eqb b 44) && not (eqb b 9)

not_so : (b : Bool) → not b ≡ true → b ≡ false
not_so true h = cc
not_so false h = refl

-- a front of a text, with neither a comma nor a tab in it, and what stands behind it
abbrev pub IsPart : List ℕ → List ℕ → List ℕ → Type 0
IsPart text part behind = (text ≡ part ++ behind) × (0 < length part) × (list_all keeps_on part ≡ true)

pub kept_fails : (xs : List ℕ) → list_all keeps_on xs ≡ true → Fails is_comma xs × Fails is_tab xs
kept_fails [] h = (tt, tt)
kept_fails (x ∷ xs) h =
    let all = and_parts (keeps_on x) (list_all keeps_on xs) h in
    let here = and_parts (not (eqb x 44)) (not (eqb x 9)) all.0 in
    let more = kept_fails xs all.1 in
    ((not_so (eqb x 44) here.0, more.0), (not_so (eqb x 9) here.1, more.1))

pub part_front : (text part left : List ℕ) → IsPart text part left → IsFront text part left
part_front text part left h = (h.0, (kept_fails part h.2).1)

pub Fails-append : (p : ℕ → Bool) (xs ys : List ℕ) → Fails p xs → Fails p ys → Fails p (xs ++ ys)
Fails-append p [] ys f g = g
Fails-append p (x ∷ xs) ys f g = (f.0, Fails-append p xs ys f.1 g)

-- what stands before the first byte that passes
pub fails_by : (p : ℕ → Bool) (xs : List ℕ) (i : ℕ) → i ≤ length xs → ((k : ℕ) → k < i → p (get_or xs k 0) ≡ false) → Fails p (take i xs)
fails_by p xs zero h f = tt
fails_by p [] (suc i) h f = absurd (omega arith)
fails_by p (x ∷ xs) (suc i) h f = (f 0 (omega arith), fails_by p xs i (omega arith) (λ k less. f (suc k) (omega arith)))

split_next : (xs : List ℕ) (i : ℕ) → i < length xs → xs ≡ take i xs ++ (get_or xs i 0 ∷ drop (suc i) xs)
split_next [] i h = absurd (omega arith)
split_next (x ∷ xs) zero h = refl
split_next (x ∷ xs) (suc i) h = ap (λ t. x ∷ t) (split_next xs i (omega arith))

pub split_here : (xs : List ℕ) (i : ℕ) → i < length xs → xs ≡ take i xs ++ (get_or xs i 0 ∷ drop (i + 1) xs)
split_here xs i h = rw add-one (split_next xs i h)

fails_all : (p : ℕ → Bool) (xs : List ℕ) → length xs ≤ position_or_len p xs → Fails p xs
fails_all p [] h = tt
fails_all p (x ∷ xs) h =
    elim (p x) as (λ b. suc (length xs) ≤ cond (not b) (1 + position_or_len p xs) 0 → (b ≡ false) × Fails p xs) [
      | true ↦ λ h. absurd (omega (arith, h))
      | false ↦ λ h. (refl, fails_all p xs (omega (arith, h)))
    ] h

nowhere : (b : Bool) (x : ℕ) → cond b (Some x) None ≡ None → b ≡ false
nowhere true x e = cc
nowhere false x e = refl

pub fails_everywhere : (p : ℕ → Bool) (xs : List ℕ) → position p xs ≡ None → Fails p xs
fails_everywhere p xs found = fails_all p xs (ltb-false _ _ (nowhere (nat_lt (position_or_len p xs) (length xs)) (position_or_len p xs) found))

-- neither a tab nor a backslash
either_false : (a b : Bool) → (a || b) ≡ false → (a ≡ false) × (b ≡ false)
either_false true b e = cc
either_false false b e = (refl, e)

abbrev pub ends_plain : ℕ → Bool
ends_plain b = eqb b 9 || eqb b 92

pub plain_fails : (xs : List ℕ) → Fails ends_plain xs → Fails is_tab xs × (is_plain xs ≡ true)
plain_fails [] h = (tt, refl)
plain_fails (x ∷ xs) h =
    let no = either_false (eqb x 9) (eqb x 92) h.0 in
    let more = plain_fails xs h.1 in
    ((no.0, more.0), both_true (ap not no.1) more.1)

-- what stands before the first tab or backslash, or before the end
pub plain_front : (text front left : List ℕ) (at : ℕ) → position ends_plain text ≡ Some at → front ≡ take at text → left ≡ drop at text → IsFront text front left × (is_plain front ≡ true)
plain_front text front left at found front_is left_is =
    let first = position-Some ends_plain text at 0 found in
    let plain = plain_fails (take at text) (fails_by ends_plain text at (omega (arith, first.0)) first.2) in
    ((sym (take-append-drop at text) ∙ (λ i. sym front_is i ++ sym left_is i), subst (Fails is_tab) (sym front_is) plain.0), ap is_plain front_is ∙ plain.1)

pub plain_whole : (text front left : List ℕ) → position ends_plain text ≡ None → front ≡ take (length text) text → left ≡ drop (length text) text → IsFront text front left × (is_plain front ≡ true)
plain_whole text front left found front_is left_is =
    let plain = plain_fails text (fails_everywhere ends_plain text found) in
    let whole = front_is ∙ take-length text in
    ((sym (take-append-drop (length text) text) ∙ (λ i. sym front_is i ++ sym left_is i), subst (Fails is_tab) (sym whole) plain.0), ap is_plain whole ∙ plain.1)

pub bytes-take : (text : List ℕ) (n : ℕ) → AreBytes text → AreBytes (take n text)
bytes-take text zero h = refl
bytes-take [] (suc n) h = refl
bytes-take (b ∷ text) (suc n) h = let both = and_parts (nat_lt b (2 ^ 8)) (list_all (λ b. nat_lt b (2 ^ 8)) text) h in both_true both.0 (bytes-take text n both.1)

-- neither a quote nor a backslash, a comma or a tab
abbrev pub ends_bare : ℕ → Bool
ends_bare b = eqb b 39 || eqb b 92 || eqb b 44 || eqb b 9

none_of : (a b c d : Bool) → (a || b || c || d) ≡ false → (not a && not b && not c && not d) ≡ true
none_of true b c d e = cc
none_of false true c d e = cc
none_of false false true d e = cc
none_of false false false true e = cc
none_of false false false false e = refl

bare_fails : (xs : List ℕ) → Fails ends_bare xs → is_bare xs ≡ true
bare_fails [] h = refl
bare_fails (x ∷ xs) h = both_true (none_of (eqb x 39) (eqb x 92) (eqb x 44) (eqb x 9) h.0) (bare_fails xs h.1)

pub bare_then_quote : (text inside after : List ℕ) (at : ℕ) → text ≡ 39 ∷ inside → position ends_bare inside ≡ Some at → get_or inside at 0 ≡ 39 → after ≡ drop (at + 1) inside →
    (text ≡ 39 ∷ (take at inside ++ 39 ∷ after)) × (is_bare (take at inside) ≡ true)
bare_then_quote text inside after at opens found quote rest =
    let first = position-Some ends_bare inside at 0 found in (
      opens ∙ ap (λ t. 39 ∷ t) (split_here inside at first.0 ∙ (λ i. take at inside ++ (quote i ∷ sym rest i))),
      bare_fails (take at inside) (fails_by ends_bare inside at (omega (arith, first.0)) first.2),
    )

pub bytes-behind : (b : ℕ) (text inside : List ℕ) → text ≡ b ∷ inside → AreBytes text → AreBytes inside
bytes-behind b text inside is h = (and_parts (nat_lt b (2 ^ 8)) (list_all (λ b. nat_lt b (2 ^ 8)) inside) (subst AreBytes is h)).1

bare_byte : (a b c d : Bool) → (not a && not b && not c && not d) ≡ true → ((not b && not a) ≡ true) × ((not c && not d) ≡ true)
bare_byte true b c d e = cc
bare_byte false true c d e = cc
bare_byte false false true d e = cc
bare_byte false false false true e = cc
bare_byte false false false false e = (refl, refl)

bare_parts : (xs : List ℕ) → is_bare xs ≡ true → (is_quotable xs ≡ true) × (list_all keeps_on xs ≡ true)
bare_parts [] h = (refl, refl)
bare_parts (x ∷ xs) h =
    let all = and_parts (not (eqb x 39) && not (eqb x 92) && not (eqb x 44) && not (eqb x 9)) (is_bare xs) h in
    let here = bare_byte (eqb x 39) (eqb x 92) (eqb x 44) (eqb x 9) all.0 in
    let more = bare_parts xs all.1 in
    (both_true here.0 more.0, both_true here.1 more.1)

pub quoted_part : (text bytes left : List ℕ) → text ≡ 39 ∷ (bytes ++ 39 ∷ left) → is_bare bytes ≡ true →
    IsPart text (39 ∷ (bytes ++ 39 ∷ [])) left × (is_quotable bytes ≡ true)
quoted_part text bytes left is bare =
    let parts = bare_parts bytes bare in (
      (is ∙ ap (λ t. 39 ∷ t) (sym (append_assoc bytes (39 ∷ []) left)), omega arith, both_true refl (list_all-append keeps_on bytes (39 ∷ []) ∙ both_true parts.1 refl)),
      parts.0,
    )

-- a pattern of one byte, or of two, and what is left
pub front_one : (text : List ℕ) (b : ℕ) → 0 < length text → get_or text 0 0 ≡ b → text ≡ b ∷ take (length text - 1) (drop 1 text)
front_one [] b some here = absurd (omega arith)
front_one (x ∷ text) b some here = let whole : take (length (x ∷ text) - 1) text ≡ text = grind (arith, common_steps) in rw whole (ap (λ y. y ∷ text) here)

pub front_two : (text : List ℕ) (b c : ℕ) → 1 < length text → get_or text 0 0 ≡ b → get_or text 1 0 ≡ c → text ≡ b ∷ c ∷ take (length text - 2) (drop 2 text)
front_two [] b c some here next = absurd (omega arith)
front_two (x ∷ []) b c some here next = absurd (omega arith)
front_two (x ∷ y ∷ text) b c some here next =
    let whole : take (length (x ∷ y ∷ text) - 2) text ≡ text = grind (arith, common_steps) in
    rw whole (λ i. here i ∷ next i ∷ text)

-- where the first byte is no backslash, no front is `\N`
no_slash : (b c : ℕ) → b ≢ 92 → is_null_text (b ∷ c ∷ []) ≡ false
no_slash b c other = let no : eqb b 92 ≡ false = grind (arith, nat_tests) in rw no refl

pub some_front : (text field left : List ℕ) → get_or text 0 0 ≢ 92 → IsFront text field left → is_null_text field ≡ false
some_front text [] left other h = refl
some_front text (b ∷ []) left other h = refl
some_front text (b ∷ c ∷ []) left other h = no_slash b c (λ e. other (ap (λ t. get_or t 0 0) h.0 ∙ e))
some_front text (b ∷ c ∷ d ∷ field) left other h = refl

pub null_front : (text left : List ℕ) → text ≡ 92 ∷ 78 ∷ left → IsFront text (92 ∷ 78 ∷ []) left
null_front text left is = (is, (refl, (refl, tt)))

pub nothing : (xs : List ℕ) → length xs ≡ 0 → xs ≡ []
nothing [] none = refl
nothing (x ∷ xs) none = absurd (omega (arith, none))
