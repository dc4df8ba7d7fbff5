-- Rows as the loops have them are rows of columns' arguments.
use Rattle.std.proofs.Common.{◌≡◌, ℕ, zero, suc, ◌+◌, ◌<◌, ◌≤◌, ℤ, List, [], ◌∷◌, ◌++◌, map, take, drop, length, get_or, Option, Some, None, pos, refl, sym, ap, ap₂, ◌∙◌, subst, arith, Result}
use Rattle.std.specs.Result.{OnOk}
use Rattle.std.proofs.lemmas.List.{length-map, map-append}
use Rattle.agg_terms.specs.Chains.{Chain, If, Ty}
use Rattle.agg_terms.specs.Values as family
use Rattle.agg_terms.specs.Values.{Value}
use Rattle.agg_meaning.specs.Views.{items_at}
use Rattle.typed_columns.specs.TypedValues.{TypedValues}
use Rattle.value_types.specs.Folds.{value_of}
use Rattle.value_types.proofs.FoldLaws.{value_of-Num}
use Rattle.value_types.specs.declared.value.Value.{Value as Valued}
use Rattle.value_types.specs.declared.value.Value.TheVariants as value
use Rattle.running_states.proofs.Outcomes.{on_ok}
use Rattle.chain_states.specs.declared.state.State.{State}
use Rattle.chain_states.specs.Calls.{argument_rows, batch_row}
use Rattle.chain_states.specs.proving.Places.{FeedsAt, IsConditions, column_at, row_of, rows_from, with_condition, with_if}

rows_same : (f g : ℕ → List Value) (from n : ℕ) → ((k : ℕ) → k < from + n → f k ≡ g k) → rows_from f from n ≡ rows_from g from n
rows_same f g from zero h = refl
rows_same f g from (suc n) h = ap₂ (λ rs r. rs ++ r ∷ []) (rows_same f g from n (λ k l. h k (omega (arith, l)))) (h (from + n) (omega arith))

rows_are : (columns : List TypedValues) (arguments : List ℕ) (from n : ℕ) → rows_from (row_of columns arguments) from n ≡ argument_rows columns arguments from n
rows_are columns arguments from zero = refl
rows_are columns arguments from (suc n) = ap (λ rs. rs ++ items_at arguments (batch_row columns (from + n)) ∷ []) (rows_are columns arguments from n)

with_same : {X : Type 0} (of : X → List ℕ) (o : Option X) (f g : ℕ → List Value) (k : ℕ) → f k ≡ g k → with_condition of o f k ≡ with_condition of o g k
with_same of None f g k h = h
with_same of (Some x) f g k h = ap (λ r. r ++ family.Num (pos (get_or (of x) k 0)) ∷ []) h

-- rows fed are those that are the same
module _ {X : Type 0} (of : X → List ℕ) (o : Option X) (c : Chain) (us : List Ty) (ps : List ℕ) (from n : ℕ) (ss vv : List State) where
  fed_same : (f g : ℕ → List Value) → ((k : ℕ) → k < from + n → f k ≡ g k) → FeedsAt (with_if o c) us ps (rows_from (with_condition of o f) from n) ss vv → FeedsAt (with_if o c) us ps (rows_from (with_condition of o g) from n) ss vv
  fed_same f g h = subst (λ rs. FeedsAt (with_if o c) us ps rs ss vv) (rows_same (with_condition of o f) (with_condition of o g) from n (λ k l. with_same of o f g k (h k l)))

  -- the numbers of a column
  fed_ones : {N : Type 0} (f : N → Valued) (g : N → Value) (all : List N) (values : List Valued) → ((z : N) → g z ≡ value_of (f z)) → values ≡ map f all →
      FeedsAt (with_if o c) us ps (rows_from (with_condition of o (λ k. map g (take 1 (drop k all)))) from n) ss vv →
      FeedsAt (with_if o c) us ps (rows_from (with_condition of o (λ k. map value_of (take 1 (drop k values)))) from n) ss vv
  fed_ones f g all values h e =
      fed_same (λ k. map g (take 1 (drop k all))) (λ k. map value_of (take 1 (drop k values))) (λ k l. ones f g h all k ∙ ap (λ vs. map value_of (take 1 (drop k vs))) (sym e))
    where
      ones : {N : Type 0} (f : N → Valued) (g : N → Value) → ((z : N) → g z ≡ value_of (f z)) → (xs : List N) (k : ℕ) → map g (take 1 (drop k xs)) ≡ map value_of (take 1 (drop k (map f xs)))
      ones f g h [] zero = refl
      ones f g h [] (suc k) = refl
      ones f g h (y ∷ xs) zero = ap (λ v. v ∷ []) (h y)
      ones f g h (y ∷ xs) (suc k) = ones f g h xs k

  pub unsigned_fed : {A E : Type 0} (x : Result A E) (all : List ℕ) (values : List Valued) → values ≡ map (λ z. value.Num (pos z)) all →
      OnOk x (FeedsAt (with_if o c) us ps (rows_from (with_condition of o (λ k. map (λ z. family.Num (pos z)) (take 1 (drop k all)))) from n) ss vv) →
      OnOk x (FeedsAt (with_if o c) us ps (rows_from (with_condition of o (λ k. map value_of (take 1 (drop k values)))) from n) ss vv)
  unsigned_fed x all values e = on_ok x (fed_ones (λ z. value.Num (pos z)) (λ z. family.Num (pos z)) all values (λ z. sym (value_of-Num (pos z))) e)

  pub signed_fed : {A E : Type 0} (x : Result A E) (all : List ℤ) (values : List Valued) → values ≡ map value.Num all →
      OnOk x (FeedsAt (with_if o c) us ps (rows_from (with_condition of o (λ k. map (λ z. family.Num z) (take 1 (drop k all)))) from n) ss vv) →
      OnOk x (FeedsAt (with_if o c) us ps (rows_from (with_condition of o (λ k. map value_of (take 1 (drop k values)))) from n) ss vv)
  signed_fed x all values e = on_ok x (fed_ones value.Num (λ z. family.Num z) all values (λ z. sym (value_of-Num z)) e)

pub has_all : {N : Type 0} (f : N → Valued) (all : List N) (values : List Valued) (to : ℕ) → values ≡ map f all → to ≤ length values → (n : ℕ) → n < to → n < length all
has_all f all values to e l n m = let h : length values ≡ length all = ap length e ∙ length-map all f in omega (arith, h, l, m)

pub has_values : (values : List Valued) (to : ℕ) → to ≤ length values → (n : ℕ) → n < to → n < length values
has_values values to l n m = omega (arith, l, m)

-- the argument that columns have at a number
get_row : (columns : List TypedValues) (a n : ℕ) → a < length columns → get_or (batch_row columns n) a family.Nil ≡ value_of (get_or (column_at columns a).values n value.Nil)
get_row [] a n l = absurd (omega arith)
get_row (c ∷ columns) zero n l = refl
get_row (c ∷ columns) (suc a) n l = get_row columns a n (omega arith)

one_value : (vs : List Valued) (n : ℕ) → n < length vs → map value_of (take 1 (drop n vs)) ≡ value_of (get_or vs n value.Nil) ∷ []
one_value [] n l = absurd (omega arith)
one_value (v ∷ vs) zero l = refl
one_value (v ∷ vs) (suc n) l = one_value vs n (omega arith)

same_column : (columns : List TypedValues) (a : ℕ) (column : TypedValues) → a < length columns → column ≡ get_or columns a column → column ≡ column_at columns a
same_column [] a column l e = absurd (omega arith)
same_column (c ∷ columns) zero column l e = e
same_column (c ∷ columns) (suc a) column l e = same_column columns a column (omega arith) e

column_row : (columns : List TypedValues) (a n : ℕ) (column : TypedValues) → a < length columns → column ≡ get_or columns a column → n < length column.values → map value_of (take 1 (drop n column.values)) ≡ row_of columns (a ∷ []) n
column_row columns a n column l e m =
    one_value column.values n m ∙ ap (λ v. v ∷ []) (ap (λ (z : TypedValues). value_of (get_or z.values n value.Nil)) (same_column columns a column l e) ∙ sym (get_row columns a n l))

no_arguments : (arguments : List ℕ) → length arguments < 1 → arguments ≡ []
no_arguments [] l = refl
no_arguments (a ∷ arguments) l = absurd (omega arith)

one_argument : (arguments : List ℕ) → 1 ≤ length arguments → length arguments < 2 → arguments ≡ get_or arguments 0 0 ∷ []
one_argument [] l m = absurd (omega arith)
one_argument (a ∷ []) l m = refl
one_argument (a ∷ b ∷ arguments) l m = absurd (omega arith)

module _ {X : Type 0} (of : X → List ℕ) (o : Option X) (c : Chain) (us : List Ty) (ps : List ℕ) (from n : ℕ) (ss vv : List State) (columns : List TypedValues) (arguments : List ℕ) where
  pub none_fed : length arguments < 1 → FeedsAt (with_if o c) us ps (rows_from (with_condition of o (λ k. [])) from n) ss vv → FeedsAt (with_if o c) us ps (rows_from (with_condition of o (row_of columns arguments)) from n) ss vv
  none_fed m = fed_same of o c us ps from n ss vv (λ k. []) (row_of columns arguments) (λ k l. ap (λ q. row_of columns q k) (sym (no_arguments arguments m)))

  pub one_fed : (column : TypedValues) → 1 ≤ length arguments → length arguments < 2 → get_or arguments 0 0 < length columns → column ≡ get_or columns (get_or arguments 0 0) column → from + n ≤ length column.values →
      FeedsAt (with_if o c) us ps (rows_from (with_condition of o (λ k. map value_of (take 1 (drop k column.values)))) from n) ss vv →
      FeedsAt (with_if o c) us ps (rows_from (with_condition of o (row_of columns arguments)) from n) ss vv
  one_fed column u w l g m =
      fed_same of o c us ps from n ss vv (λ k. map value_of (take 1 (drop k column.values))) (row_of columns arguments)
      (λ k i. column_row columns (get_or arguments 0 0) k column l g (omega (arith, i, m)) ∙ ap (λ q. row_of columns q k) (sym (one_argument arguments u w)))

-- a condition in its column
condition_at : (columns : List TypedValues) (a : ℕ) (conditions : List ℕ) (n : ℕ) → IsConditions columns a conditions → n < length conditions → get_or (batch_row columns n) a family.Nil ≡ family.Num (pos (get_or conditions n 0))
condition_at columns a conditions n k l = get_row columns a n k.0 ∙ ap (λ vs. value_of (get_or vs n value.Nil)) k.1 ∙ ap value_of (go conditions n l) ∙ value_of-Num (pos (get_or conditions n 0))
  where
    go : (ks : List ℕ) (n : ℕ) → n < length ks → get_or (map (λ k. value.Num (pos k)) ks) n value.Nil ≡ value.Num (pos (get_or ks n 0))
    go [] n l = absurd (omega arith)
    go (k ∷ ks) zero l = refl
    go (k ∷ ks) (suc n) l = go ks n (omega arith)

row_is : (columns : List TypedValues) (arguments : List ℕ) (a : ℕ) (conditions : List ℕ) (n : ℕ) → IsConditions columns a conditions → n < length conditions →
    row_of columns arguments n ++ family.Num (pos (get_or conditions n 0)) ∷ [] ≡ row_of columns (arguments ++ a ∷ []) n
row_is columns arguments a conditions n e l =
    sym (map-append (λ i. get_or (batch_row columns n) i family.Nil) arguments (a ∷ []) ∙ ap (λ v. items_at arguments (batch_row columns n) ++ v ∷ []) (condition_at columns a conditions n e l))

module _ {A E : Type 0} (x : Result A E) (c : Chain) (us : List Ty) (ps : List ℕ) (columns : List TypedValues) (arguments : List ℕ) (from n : ℕ) (ss vv : List State) where
  pub met_fed : (a : ℕ) (conditions : List ℕ) → IsConditions columns a conditions → from + n ≤ length conditions →
      OnOk x (FeedsAt (If c) us ps (rows_from (λ k. row_of columns arguments k ++ family.Num (pos (get_or conditions k 0)) ∷ []) from n) ss vv) →
      OnOk x (FeedsAt (If c) us ps (argument_rows columns (arguments ++ a ∷ []) from n) ss vv)
  met_fed a conditions e m = on_ok x (subst (λ rs. FeedsAt (If c) us ps rs ss vv)
      (rows_same (λ k. row_of columns arguments k ++ family.Num (pos (get_or conditions k 0)) ∷ []) (row_of columns (arguments ++ a ∷ [])) from n (λ k l. row_is columns arguments a conditions k e (omega (arith, l, m)))
      ∙ rows_are columns (arguments ++ a ∷ []) from n))

pub ruleset column_laws = (has_all, has_values)

pub ruleset few_laws = (has_values)
