-- Where the fields of a line stand.
use Rattle.std.proofs.Common.{◌≡◌, ℕ, suc, ◌+◌, ◌-◌, ◌<◌, ◌≤◌, Bool, true, false, List, [], ◌∷◌, ◌++◌, Option, None, Some, Bor, MatchOption, length, cond, refl, sym, ◌∙◌, ap, arith, append_assoc}
use Rattle.std.specs.List.{slice_split, onto_first}
use Rattle.tsv_text.specs.Lines.{is_tab, fields_of, places_from}

-- what the parts take, with a separator behind each
abbrev size : List (List ℕ) → ℕ
size [] = 0
size (x ∷ xs) = length x + 1 + size xs

size-slice_split : (p : ℕ → Bool) (xs : List ℕ) → size (slice_split p xs) ≡ length xs + 1
size-slice_split p [] = omega arith
size-slice_split p (x ∷ xs) =
    elim (p x) as (λ b. size (cond b ([] ∷ slice_split p xs) (onto_first x (slice_split p xs))) ≡ suc (length xs) + 1) [
      | true ↦ omega (arith, size-slice_split p xs)
      | false ↦ elim (slice_split p xs) as (λ parts. size parts ≡ length xs + 1 → size (onto_first x parts) ≡ suc (length xs) + 1) [
        | [] ↦ λ h. omega (arith, h)
        | part ∷ parts ↦ λ h. omega (arith, h)
      ] (size-slice_split p xs)
    ]

size-fields_of : (text : List ℕ) → size (fields_of text) ≡ length text + 1
unfolding fields_of
size-fields_of text = size-slice_split is_tab text

-- the places so far, with what is still to be cut
abbrev pub IsCut : List ℕ → List (ℕ × ℕ) → Option (Bor (List ℕ)) → Type 0
IsCut line places None = places ≡ places_from 0 (fields_of line)
IsCut line places (Some text) = (length text.now ≤ length line) × (places_from 0 (fields_of line) ≡ places ++ places_from (length line - length text.now) (fields_of text.now))

abbrev pub left_of : Option (Bor (List ℕ)) → ℕ
left_of None = 0
left_of (Some text) = suc (length text.now)

-- one more field is cut
pub next_cut : (line text field : List ℕ) (places more : List (ℕ × ℕ)) (start : ℕ) (after : Option (Bor (List ℕ)))
    → (length text ≤ length line) × (places_from 0 (fields_of line) ≡ places ++ places_from (length line - length text) (fields_of text))
    → MatchOption after (fields_of text ≡ field ∷ []) (λ a. fields_of text ≡ field ∷ fields_of a.now)
    → start ≡ length line - length text → more ≡ places ++ (start, start + length field) ∷ [] → IsCut line more after
next_cut line text field places more start None h fields start_is more_is =
    more_is ∙ ap (λ s. places ++ (s, s + length field) ∷ []) start_is ∙ sym (h.1 ∙ ap (λ fs. places ++ places_from (length line - length text) fs) fields)
next_cut line text field places more start (Some after) h fields start_is more_is =
    let whole : length text + 1 ≡ length field + 1 + (length after.now + 1) = sym (size-fields_of text) ∙ ap size fields ∙ ap (λ n. length field + 1 + n) (size-fields_of after.now) in
    let next : (length line - length text) + length field + 1 ≡ length line - length after.now = omega (arith, h.0, whole) in (
      omega (arith, h.0, whole),
      h.1 ∙ ap (λ fs. places ++ places_from (length line - length text) fs) fields
          ∙ ap (λ n. places ++ (length line - length text, length line - length text + length field) ∷ places_from n (fields_of after.now)) next
          ∙ sym (append_assoc places _ _) ∙ ap (λ x. x ++ places_from (length line - length after.now) (fields_of after.now)) (sym (more_is ∙ ap (λ s. places ++ (s, s + length field) ∷ []) start_is)),
    )
