-- The place of a view of the code is that of its image.
use Rattle.std.proofs.Common.{◌≡◌, refl, ap, ◌∙◌, ℕ, ◌+◌, cond, not, nat_lt, Bool, List, [], ◌∷◌, length, map, Some, None}
use Rattle.std.specs.List.{position, position_or_len}
use Rattle.std.specs.Str.{bytes_eq}
use Rattle.std.proofs.lemmas.List.{length-map}
use Rattle.agg_defs.specs.declared.views.View as code
use Rattle.script_rules.specs.Folds.{view_of, views_of}
use Rattle.script_rules.specs.Views.{has_name, place_of}

module _ {A X : Type 0} (test : X → Bool) (image : A → X) where
  position_or_len-map : (xs : List A) → position_or_len test (map image xs) ≡ position_or_len (λ x. test (image x)) xs
  position_or_len-map [] = refl
  position_or_len-map (x ∷ xs) = ap (λ (n : ℕ). cond (not (test (image x))) (1 + n) 0) (position_or_len-map xs)

  position-map : (xs : List A) → position test (map image xs) ≡ position (λ x. test (image x)) xs
  position-map xs =
      let place : ℕ = position_or_len (λ (x : A). test (image x)) xs in
      ap (λ (n : ℕ). cond (nat_lt n (length (map image xs))) (Some n) None) (position_or_len-map xs)
      ∙ ap (λ (many : ℕ). cond (nat_lt place many) (Some place) None) (length-map xs image)

pub placed : (views : List code.View) (name : List ℕ) → place_of (views_of views) name ≡ position (λ (v : code.View). bytes_eq v.name name) views
placed views name = position-map (has_name name) view_of views
