-- The row of one argument that is fed by its number.
use Rattle.std.proofs.Common.{◌≡◌, ℕ, zero, suc, ◌<◌, ℤ, List, [], ◌∷◌, map, take, drop, length, get_or, Some, sym, ap, ◌∙◌, arith}
use Rattle.std.specs.List.{slice_get}
use Rattle.agg_terms.specs.Values as family
use Rattle.int_leaves.specs.Rows.{argument}
use Rattle.typed_columns.specs.Items.{item_value}
use Rattle.typed_columns.specs.declared.item.Item.{Item}
use Rattle.typed_columns.specs.declared.item.Item.TheVariants as item
use Rattle.value_types.specs.Folds.{value_of}
use Rattle.value_types.proofs.FoldLaws.{value_of-Num}
use Rattle.value_types.specs.declared.value.Value.{Value as Valued}

one_there : {X : Type 0} (xs : List X) (n : ℕ) (x : X) → n < length xs → x ≡ get_or xs n x → take 1 (drop n xs) ≡ x ∷ []
one_there [] n x l e = absurd (omega arith)
one_there (y ∷ xs) zero x l e = ap (λ z. z ∷ []) (sym e)
one_there (y ∷ xs) (suc n) x l e = one_there xs n x (omega arith) e

pub number_row : {N : Type 0} (g : N → ℤ) (xs : List N) (n : ℕ) (x : N) (w : ℤ) → n < length xs → x ≡ get_or xs n x → w ≡ g x → map argument (item.Num w ∷ []) ≡ map (λ z. family.Num (g z)) (take 1 (drop n xs))
number_row g xs n x w l e h = ap (λ z. z ∷ []) (value_of-Num w ∙ ap family.Num h) ∙ sym (ap (map (λ z. family.Num (g z))) (one_there xs n x l e))

got : (vs : List Valued) (n : ℕ) (v : Valued) → slice_get vs n ≡ Some v → take 1 (drop n vs) ≡ v ∷ []
got [] n v e = cc
got (w ∷ vs) zero v e = cc
got (w ∷ vs) (suc n) v e = got vs n v e

pub value_row : (vs : List Valued) (n : ℕ) (i : Item) → slice_get vs n ≡ Some (item_value i) → map argument (i ∷ []) ≡ map value_of (take 1 (drop n vs))
value_row vs n i e = sym (ap (map value_of) (got vs n (item_value i) e))

pub ruleset row_laws = (number_row, value_row)
