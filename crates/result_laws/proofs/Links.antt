-- Each suffix means a value of its result type where what is inside it does.
use Rattle.std.proofs.Common.{◌≡◌, refl, sym, subst, ℕ, ℤ, List, [], ◌∷◌, map, Option}
use Rattle.std.specs.Prelude.{filter, flat_map}
use Rattle.agg_terms.specs.Chains.{Array, Chain, Distinct, ForEach, If, MapOf, Merge, Of, OrDefault, OrNull, Resample, State, Ty, tys, tys_list}
use Rattle.agg_terms.specs.Lists.{Each, places}
use Rattle.agg_terms.specs.Order.{compare, compare_rows, firsts}
use Rattle.agg_terms.specs.Trees.{IsPlain, IsTree, IsValue}
use Rattle.agg_terms.specs.Types.{first_type, intervals, inward, key_type}
use Rattle.agg_terms.specs.Values.{Cell, Tree, Value}
use Rattle.agg_terms.specs.Widths.{HasWidths, IsNarrow}
use Rattle.agg_meaning.specs.Feeds.{AreValues, Feed, IfHere, IsFeed, no_null, opened}
use Rattle.agg_meaning.specs.Laws.{IsLegal}
use Rattle.agg_meaning.specs.Picks.{at_place, in_interval, when_met, width}
use Rattle.agg_meaning.specs.Results.{default, result, state_type}
use Rattle.agg_meaning.specs.Suffixes.{at_key, fed, keys_of, meaning, normal, unfolded}
use Rattle.agg_meaning.proofs.Formed.{formed, inside_here, key_here, met_here, place_here, unfolds}
use Rattle.agg_meaning.proofs.Kept.{each_different, each_firsts, each_flat_map, each_kept, each_of_map}
use Rattle.agg_meaning.proofs.LeafTrees.{each_map, each_weaker}
use Rattle.agg_typing.specs.Promises.{IsLegalCall}
use Rattle.agg_typing.proofs.Results.{tys_list-tys}
use Rattle.row_laws.proofs.Rows.{row}
use Rattle.result_laws.proofs.Fitted.{default_value, null_value, of_both}
use Rattle.result_laws.proofs.Wide.{widths_narrow}

-- over feeds of these types, a chain means a value of its result type
abbrev pub Fits : Chain → List Ty → Type 0
Fits c ts = (L : List (Feed c)) → Each (IsFeed c ts) L → IsValue (result c ts) (meaning c ts L)

pub if_fits : (c : Chain) (ts : List Ty) → Fits c (inward (If c) ts) → Fits (If c) ts
if_fits c ts inner L k =
    let Inner : Feed c → Type 0 = IsFeed c (inward (If c) ts) in
    inner (flat_map when_met L) (each_flat_map (IsFeed (If c) ts) Inner when_met (λ f h. met_here Inner f h.0) L k)

pub array_fits : (c : Chain) (ts : List Ty) → Fits c (inward (Array c) ts) → Fits (Array c) ts
array_fits c ts inner L k =
    inner (flat_map (λ f. f) L) (each_flat_map (IsFeed (Array c) ts) (IsFeed c (inward (Array c) ts)) (λ f. f) (λ f h. h) L k)

-- the keys of feeds of a map are values of the type of its keys
keys_here : {X : Type 0} (K : Value → Type 0) (P : X → Type 0) (L : List (List (Value × Option X))) → Each (Each (λ e. K e.0 × IfHere P e.1)) L → Each K (keys_of L)
keys_here K P L k =
    each_different K compare (flat_map (λ f. map (λ e. e.0) f) L)
    (each_flat_map (Each (λ e. K e.0 × IfHere P e.1)) K (λ f. map (λ e. e.0) f) (λ f h. each_map (λ e. K e.0 × IfHere P e.1) K (λ e. e.0) (λ e g. g.0) f h) L k)

table_here : (K V : Value → Type 0) (f : Value → Value) → ((j : Value) → V (f j)) → (js : List Value) → Each K js → Each {X = Value × Value} (λ e. K e.0 × V e.1) (map (λ j. (j, f j)) js)
table_here K V f h [] k = tt
table_here K V f h (j ∷ js) k = ((k.0, h j), table_here K V f h js k.1)

pub map_fits : (c : Chain) (ts : List Ty) → Fits c (inward (MapOf c) ts) → Fits (MapOf c) ts
map_fits c ts inner L k =
    let types : List Ty = inward (MapOf c) ts in
    let Key : Value → Type 0 = IsPlain (key_type (first_type ts)) in (
      map (λ j. (j, meaning c types (flat_map (at_key j) L))) (keys_of L),
      refl,
      table_here Key (IsValue (result c types)) (λ j. meaning c types (flat_map (at_key j) L))
          (λ j. inner (flat_map (at_key j) L) (each_flat_map (IsFeed (MapOf c) ts) (IsFeed c types) (at_key j) (key_here Key (IsFeed c types) j) L k))
          (keys_of L) (keys_here Key (IsFeed c types) L k),
    )

pub for_each_fits : (c : Chain) (ts : List Ty) → Fits c (inward (ForEach c) ts) → Fits (ForEach c) ts
for_each_fits c ts inner L k =
    let types : List Ty = inward (ForEach c) ts in (
      map (λ i. meaning c types (flat_map (at_place i) L)) (places 0 (width L)),
      refl,
      each_of_map (IsValue (result c types)) (λ i. meaning c types (flat_map (at_place i) L))
          (λ i. inner (flat_map (at_place i) L) (each_flat_map (IsFeed (ForEach c) ts) (IsFeed c types) (at_place i) (place_here (IsFeed c types) i) L k))
          (places 0 (width L)),
    )

pub resample_fits : (start end : ℤ) (step : ℕ) (c : Chain) (ts : List Ty) → Fits c (inward (Resample start end step c) ts) → Fits (Resample start end step c) ts
resample_fits start end step c ts inner L k =
    let types : List Ty = inward (Resample start end step c) ts in (
      map (λ j. meaning c types (flat_map (in_interval start end step j) L)) (places 0 (intervals start end step)),
      refl,
      each_of_map (IsValue (result c types)) (λ j. meaning c types (flat_map (in_interval start end step j) L))
          (λ j. inner (flat_map (in_interval start end step j) L)
          (each_flat_map (IsFeed (Resample start end step c) ts) (IsFeed c types) (in_interval start end step j) (λ f h. inside_here (IsFeed c types) start end step j f h.0) L k))
          (places 0 (intervals start end step)),
    )

pub or_null_fits : (c : Chain) (ts : List Ty) → Fits c ts → Fits (OrNull c) ts
or_null_fits c ts inner L k = null_value (result c ts) (fed c ts L) (meaning c ts L) (inner L k)

pub or_default_fits : (c : Chain) (ts : List Ty) → Fits c ts → Fits (OrDefault c) ts
or_default_fits c ts inner L k =
    of_both (IsValue (result c ts)) (fed c ts L) (meaning c ts L) (default (result c ts)) (inner L k) (default_value (result c ts))

-- the rows that Distinct keeps open to feeds of what is inside it
pub distinct_fits : (c : Chain) (ts : List Ty) → IsLegalCall c ts → Each HasWidths ts → Fits c ts → Fits (Distinct c) ts
distinct_fits c ts l w inner L k =
    let narrow : Each IsNarrow ts = each_weaker HasWidths IsNarrow widths_narrow ts w in
    let kept : Each (AreValues ts) (firsts compare_rows (filter no_null L)) =
    each_firsts (AreValues ts) compare_rows (filter no_null L) (each_kept (AreValues ts) no_null L k) in
    inner (map (opened c) (firsts compare_rows (filter no_null L)))
    (each_map (AreValues ts) (IsFeed c ts) (opened c) (λ r h. row c ts r l narrow h) (firsts compare_rows (filter no_null L)) kept)

-- a state tree of a chain is a value of its state type
state_of : (c : Chain) (ts : List Ty) (t : Tree) → IsTree c ts t → (u : Tree) × (Cell t ≡ Cell u) × IsTree c (tys_list (tys ts)) u
state_of c ts t k = (t, refl, subst (λ us. IsTree c us t) (sym (tys_list-tys ts)) k)

tree_fits : (c : Chain) (ts : List Ty) (t : Tree) → IsTree c ts t → IsValue (state_type c ts) (Cell t)
tree_fits (State c) ts t k = tree_fits c ts t k
tree_fits (Merge c) ts t k = tree_fits c (inward (Merge c) ts) t k
tree_fits (Of f) ts t k = state_of (Of f) ts t k
tree_fits (If c) ts t k = state_of (If c) ts t k
tree_fits (Array c) ts t k = state_of (Array c) ts t k
tree_fits (MapOf c) ts t k = state_of (MapOf c) ts t k
tree_fits (ForEach c) ts t k = state_of (ForEach c) ts t k
tree_fits (OrNull c) ts t k = state_of (OrNull c) ts t k
tree_fits (OrDefault c) ts t k = state_of (OrDefault c) ts t k
tree_fits (Distinct c) ts t k = state_of (Distinct c) ts t k
tree_fits (Resample start end step c) ts t k = state_of (Resample start end step c) ts t k

pub state_fits : (c : Chain) (ts : List Ty) → IsLegal c ts → Fits (State c) ts
state_fits c ts l L k = tree_fits c ts (normal c ts L) (formed c ts l.0 l.1 L k)

-- states unfold to feeds
pub merge_fits : (c : Chain) (ts : List Ty) → IsLegal c (inward (Merge c) ts) → Fits c (inward (Merge c) ts) → Fits (Merge c) ts
merge_fits c ts l inner L k =
    let types : List Ty = inward (Merge c) ts in
    inner (flat_map (unfolded c types) L) (each_flat_map (IsFeed (Merge c) ts) (IsFeed c types) (unfolded c types) (unfolds c types l.0 l.1) L k)
