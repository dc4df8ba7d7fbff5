-- Parts that are judged one after another.
use Rattle.std.proofs.Common.{◌≡◌, sym, ap, ◌∙◌, ℕ, ◌+◌, ◌<◌, ◌≤◌, List, [], ◌∷◌, ◌++◌, length, get_or, drop, map, Result, Ok, Err}
use Rattle.std.proofs.lemmas.List.{map-append, drop_more, drop_all}
use Rattle.refusals.specs.declared.why.Why.{Why}
use Rattle.request_rules.specs.declared.refusal.Refusal.{Refusal}
use Rattle.request_rules.specs.Answers.{Says}
use Rattle.request_rules.specs.Turns.{and_then, in_turn}

module _ {A X C W : Type 0} (judge : List X → A → Result X Why) (image : C → X) (written : W → A) (whole : Result (List X) Why) (xs : List W) (i : ℕ) (items : List C) where
  -- the parts from a place on, behind what those to the left stand for, give what all parts give
  abbrev pub AtPart : Type 0
  AtPart = in_turn judge (map image items) (map written (drop i xs)) ≡ whole

  rest_at : (d : W) → i < length xs → map written (drop i xs) ≡ written (get_or xs i d) ∷ map written (drop (i + 1) xs)
  rest_at d here = ap (map written) (drop_more xs i d here)

  turned : (d x : W) → i < length xs → x ≡ get_or xs i d → AtPart →
      and_then (judge (map image items) (written x)) (λ y. in_turn judge (map image items ++ y ∷ []) (map written (drop (i + 1) xs))) ≡ whole
  turned d x here is before =
      ap (λ w. and_then (judge (map image items) (written w)) (λ y. in_turn judge (map image items ++ y ∷ []) (map written (drop (i + 1) xs)))) is
      ∙ sym (ap (in_turn judge (map image items)) (rest_at d here)) ∙ before

  -- one more part has a meaning
  pub turn_on : (d x : W) (news : List C) (c : C) → i < length xs → x ≡ get_or xs i d → news ≡ items ++ c ∷ [] →
      judge (map image items) (written x) ≡ Ok (image c) → AtPart → in_turn judge (map image news) (map written (drop (i + 1) xs)) ≡ whole
  turn_on d x news c here is new judged before =
      ap (λ seen. in_turn judge seen (map written (drop (i + 1) xs))) (ap (map image) new ∙ map-append image items (c ∷ []))
      ∙ ap (λ r. and_then r (λ y. in_turn judge (map image items ++ y ∷ []) (map written (drop (i + 1) xs)))) (sym judged)
      ∙ turned d x here is before

  -- a part is refused
  pub turn_stops : (d x : W) (refusal : Refusal) → i < length xs → x ≡ get_or xs i d → Says image (Err refusal) (judge (map image items) (written x)) →
      AtPart → Says (map image) (Err refusal) whole
  turn_stops d x (Refusal.Broken why) here is refused before =
      sym (turned d x here is before) ∙ ap (λ r. and_then r (λ y. in_turn judge (map image items ++ y ∷ []) (map written (drop (i + 1) xs)))) refused
  turn_stops d x Refusal.OutOfMemory here is refused before = tt

  -- no part is left
  pub turn_ends : length xs ≤ i → AtPart → whole ≡ Ok (map image items)
  turn_ends all before = sym before ∙ ap (λ rest. in_turn judge (map image items) (map written rest)) (drop_all i xs all)
