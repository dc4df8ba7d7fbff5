-- The rows of a table contribute feeds to the calls of a view.
use Rattle.std.proofs.Common.{sym, subst, ℕ, zero, suc, ◌<◌, get_or, length, List, [], ◌∷◌, map, arith}
use Rattle.agg_terms.specs.Chains.{Str, Ty}
use Rattle.agg_terms.specs.Lists.{Each}
use Rattle.agg_terms.specs.Trees.{IsValue}
use Rattle.agg_terms.specs.Values.{Value}
use Rattle.agg_meaning.specs.Feeds.{AreValues, opened}
use Rattle.agg_meaning.specs.Functions.{arg}
use Rattle.agg_meaning.specs.Laws.{AreFeeds}
use Rattle.agg_meaning.specs.Views.{AreContributions, Call, View, call_at, items_at, of_row}
use Rattle.agg_meaning.proofs.LeafTrees.{each_map}
use Rattle.agg_terms.specs.Widths.{IsNarrow}
use Rattle.agg_typing.specs.Views.{IsCallOver}
use Rattle.row_laws.proofs.Rows.{row}

value_at : (types : List Ty) (r : List Value) → AreValues types r → (i : ℕ) → i < length types → IsValue (get_or types i Str) (arg i r)
value_at [] [] k i l = absurd (omega (arith, l))
value_at [] (v ∷ vs) k i l = absurd k
value_at (t ∷ ts) [] k i l = absurd k
value_at (t ∷ ts) (v ∷ vs) k zero l = k.0
value_at (t ∷ ts) (v ∷ vs) k (suc i) l = value_at ts vs k.1 i (omega (arith, l))

narrow_at : (types : List Ty) → Each IsNarrow types → (i : ℕ) → IsNarrow (get_or types i Str)
narrow_at [] n i = tt
narrow_at (t ∷ ts) n zero = n.0
narrow_at (t ∷ ts) n (suc i) = narrow_at ts n.1 i

items_are : (types : List Ty) (r : List Value) → AreValues types r → (columns : List ℕ) → Each (λ i. i < length types) columns →
    AreValues (map (λ i. get_or types i Str) columns) (items_at columns r)
items_are types r k [] l = tt
items_are types r k (i ∷ columns) l = (value_at types r k i l.0, items_are types r k columns l.1)

narrows : (types : List Ty) → Each IsNarrow types → (columns : List ℕ) → Each IsNarrow (map (λ i. get_or types i Str) columns)
narrows types n [] = tt
narrows types n (i ∷ columns) = (narrow_at types n i, narrows types n columns)

-- one call, and the call of a number
called : (types : List Ty) (r : List Value) (call : Call) → IsCallOver types call → Each IsNarrow types → AreValues types r →
    AreFeeds call.chain call.types (opened call.chain (items_at call.columns r) ∷ [])
called types r call l n k =
    let narrow : Each IsNarrow call.types = subst (Each IsNarrow) (sym l.2) (narrows types n call.columns) in
    let values : AreValues call.types (items_at call.columns r) =
    subst (λ ts. AreValues ts (items_at call.columns r)) (sym l.2) (items_are types r k call.columns l.1) in
    (row call.chain call.types (items_at call.columns r) l.0 narrow values, tt)

of_call : (P : Call → Type 0) (calls : List Call) → Each P calls → (i : ℕ) → i < length calls → P (call_at calls i)
of_call P [] e i l = absurd (omega (arith, l))
of_call P (c ∷ cs) e zero l = e.0
of_call P (c ∷ cs) e (suc i) l = of_call P cs e.1 i (omega (arith, l))

pub contributed : (v : View) (types : List Ty) (rows : List (List Value)) → Each (IsCallOver types) v.calls → Each IsNarrow types →
    Each (AreValues types) rows → AreContributions v (map (of_row v) rows)
contributed v types rows l n k =
    each_map (AreValues types) (λ c. (i : ℕ) → i < length v.calls → AreFeeds (call_at v.calls i).chain (call_at v.calls i).types (c.1 i))
    (of_row v) (λ r h i within. called types r (call_at v.calls i) (of_call (IsCallOver types) v.calls l i within) n h) rows k
