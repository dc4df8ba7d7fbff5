-- Rows of arguments, lent from columns.
use Rattle.std.proofs.Common.{◌≡◌, ℕ, zero, suc, ◌+◌, ◌<◌, List, [], ◌∷◌, ◌++◌, map, take, length, get_or, Some, refl, sym, ap, ◌∙◌, arith}
use Rattle.std.specs.List.{slice_get}
use Rattle.std.proofs.lemmas.List.{map-append, take_more}
use Rattle.agg_terms.specs.Values as family
use Rattle.agg_meaning.specs.Functions.{arg}
use Rattle.agg_meaning.specs.Views.{items_at}
use Rattle.int_leaves.specs.Rows.{argument}
use Rattle.typed_columns.specs.Items.{item_value}
use Rattle.typed_columns.specs.TypedValues.{TypedValues}
use Rattle.typed_columns.specs.declared.item.Item.{Item}
use Rattle.value_types.specs.Folds.{value_of}
use Rattle.value_types.specs.declared.value.Value.{Value}
use Rattle.value_types.specs.declared.value.Value.TheVariants as value
use Rattle.chain_states.specs.Calls.{batch_row}
use Rattle.chain_states.proofs.Said.{arguments_of}

value_at : (vs : List Value) (n : ℕ) (v : Value) → slice_get vs n ≡ Some v → get_or vs n value.Nil ≡ v
value_at [] n v g = cc
value_at (w ∷ vs) zero v g = cc
value_at (w ∷ vs) (suc n) v g = value_at vs n v g

pub item_is : (columns : List TypedValues) (a n : ℕ) (column : TypedValues) (v : Value) → a < length columns → column ≡ get_or columns a column → slice_get column.values n ≡ Some v → value_of v ≡ arg a (batch_row columns n)
item_is [] a n column v l e g = absurd (omega arith)
item_is (c ∷ columns) zero n column v l e g = ap value_of (sym (value_at column.values n v g)) ∙ ap (λ (z : TypedValues). value_of (get_or z.values n value.Nil)) e
item_is (c ∷ columns) (suc a) n column v l e g = item_is columns a n column v (omega arith) e g

pub ruleset item_laws = (item_is)

pub row_none : (arguments : List ℕ) (row : List family.Value) → map value_of [] ≡ items_at (take 0 arguments) row
row_none arguments row = refl

pub row_more : (arguments : List ℕ) (values : List family.Value) (i : ℕ) (row after : List Value) (v : Value) → after ≡ row ++ v ∷ [] → i < length arguments → value_of v ≡ arg (get_or arguments i 0) values → map value_of row ≡ items_at (take i arguments) values →
    map value_of after ≡ items_at (take (i + 1) arguments) values
row_more arguments values i row after v e l h k =
    ap (map value_of) e ∙ map-append value_of row (v ∷ []) ∙ ap (λ z. z ++ value_of v ∷ []) k ∙ ap (λ z. items_at (take i arguments) values ++ z ∷ []) h
    ∙ sym (ap (λ z. items_at z values) (take_more arguments i 0 l) ∙ map-append (λ j. arg j values) (take i arguments) (get_or arguments i 0 ∷ []))

pub ruleset lent_laws = (row_none, row_more)

-- the arguments of one item, and of a row that is lent
pub one_argument : (a : ℕ) (values : List family.Value) (item : Item) → value_of (item_value item) ≡ arg a values → map argument (item ∷ []) ≡ items_at (a ∷ []) values
one_argument a values item e = ap (λ z. z ∷ []) e

pub lent_row : (arguments : List ℕ) (values : List family.Value) (items : List Item) (row : List Value) → map item_value items ≡ row → map value_of row ≡ items_at arguments values → map argument items ≡ items_at arguments values
lent_row arguments values items row e h = arguments_of items row e ∙ h

pub ruleset row_laws = (one_argument, lent_row)
