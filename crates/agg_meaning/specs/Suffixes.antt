-- A chain over a whole list of feeds: the feeds that a state unfolds to, its state, whether a row reached the function,
-- and what it means. Each is said suffix by suffix. Manual: "Aggregate function combinators", under each suffix's name.
use Rattle.std.specs.Prelude.{◌*◌, pos, ◌+ℤ◌, Bool, cond, not, List, [], ◌∷◌, map, length, Option, Some, None, option_to_list, flat_map, filter}
use Rattle.std.specs.Ordering.{is_eq}
use Rattle.agg_terms.specs.Chains.{Array, Chain, Distinct, ForEach, If, MapOf, Merge, Of, OrDefault, OrNull, Resample, State, Ty}
use Rattle.agg_terms.specs.Values.{Cell, Nil, Tree, Value, keyed_of, keyed_tree, list_value, map_value, rows_of, rows_tree, slots_of, slots_tree}
use Rattle.agg_meaning.specs.Feeds.{Feed, no_null, opened}
use Rattle.agg_meaning.specs.Picks.{after_holes, at_place, holes, in_interval, when_met, width}
use Rattle.agg_meaning.specs.Results.{can_be_null, default, leaf_result, plain_row, result}
use Rattle.agg_terms.specs.Order.{compare, compare_rows, different, firsts}
use Rattle.agg_terms.specs.Types.{intervals, inward}
use Rattle.agg_terms.specs.Lists.{is_empty, numbered, places, some}
use Rattle.agg_meaning.specs.Functions.{leaf_feeds, leaf_meaning, leaf_normal}

-- -Map: what stands at a key, a key that stands twice bringing two feeds; and the keys, ascending (this project's own choice)
abbrev pub at_key : {X : Type 0} → Value → List (Value × Option X) → List X
at_key k f = flat_map (λ e. cond (is_eq (compare k e.0)) (option_to_list e.1) []) f

abbrev pub keys_of : {X : Type 0} → List (List (Value × Option X)) → List Value
keys_of L = different compare (flat_map (λ f. map (λ e. e.0) f) L)

-- The feeds that a state unfolds to: feeds that have this state. Holes make room for slots and keys that no row reached.
abbrev pub unfolded : (c : Chain) → List Ty → Tree → List (Feed c)
unfolded (Of f) ts t = leaf_feeds f (plain_row ts) t
unfolded (If c) ts t = map (λ f. (f, Some 1)) (unfolded c (inward (If c) ts) t)
unfolded (Array c) ts t = map (λ f. f ∷ []) (unfolded c (inward (Array c) ts) t)
unfolded (MapOf c) ts t =
    flat_map (λ e. ((e.0, None) ∷ []) ∷ map (λ f. (e.0, Some f) ∷ []) (unfolded c (inward (MapOf c) ts) e.1)) (keyed_of t)
unfolded (ForEach c) ts t =
    holes (length (slots_of t))
    ∷ flat_map (λ s. map (after_holes s.0) (unfolded c (inward (ForEach c) ts) s.1)) (numbered 0 (slots_of t))
unfolded (OrNull c) ts t = unfolded c ts t
unfolded (OrDefault c) ts t = unfolded c ts t
unfolded (Distinct c) ts t = rows_of t
unfolded (State c) ts t = unfolded c ts t
unfolded (Merge c) ts t = t ∷ []
unfolded (Resample start end step c) ts t =
    flat_map
    (λ s. map (λ f. (f, Some (start +ℤ pos (s.0 * step)))) (unfolded c (inward (Resample start end step c) ts) s.1))
    (numbered 0 (slots_of t))

-- The state of a list of feeds, a tree: their normal form, which holds what they and any more feeds can be asked for.
abbrev pub normal : (c : Chain) → List Ty → List (Feed c) → Tree
normal (Of f) ts L = leaf_normal f ts (filter no_null L)
normal (If c) ts L = normal c (inward (If c) ts) (flat_map when_met L)
normal (Array c) ts L = normal c (inward (Array c) ts) (flat_map (λ f. f) L)
normal (MapOf c) ts L =
    keyed_tree (map (λ k. (k, normal c (inward (MapOf c) ts) (flat_map (at_key k) L))) (keys_of L))
normal (ForEach c) ts L =
    slots_tree (map (λ i. normal c (inward (ForEach c) ts) (flat_map (at_place i) L)) (places 0 (width L)))
normal (OrNull c) ts L = normal c ts L
normal (OrDefault c) ts L = normal c ts L
normal (Distinct c) ts L = rows_tree (firsts compare_rows (filter no_null L))
normal (State c) ts L = normal c ts L
normal (Merge c) ts L = normal c (inward (Merge c) ts) (flat_map (unfolded c (inward (Merge c) ts)) L)
normal (Resample start end step c) ts L =
    slots_tree
    (map
    (λ j. normal c (inward (Resample start end step c) ts) (flat_map (in_interval start end step j) L))
    (places 0 (intervals start end step)))

-- Whether a row reached the function through the suffixes, which -OrNull and -OrDefault ask.
abbrev pub fed : (c : Chain) → List Ty → List (Feed c) → Bool
fed (Of f) ts L = not (is_empty (filter no_null L))
fed (If c) ts L = fed c (inward (If c) ts) (flat_map when_met L)
fed (Array c) ts L = fed c (inward (Array c) ts) (flat_map (λ f. f) L)
fed (MapOf c) ts L = some (λ k. fed c (inward (MapOf c) ts) (flat_map (at_key k) L)) (keys_of L)
fed (ForEach c) ts L = some (λ i. fed c (inward (ForEach c) ts) (flat_map (at_place i) L)) (places 0 (width L))
fed (OrNull c) ts L = fed c ts L
fed (OrDefault c) ts L = fed c ts L
fed (Distinct c) ts L = fed c ts (map (opened c) (firsts compare_rows (filter no_null L)))
fed (State c) ts L = fed c ts L
fed (Merge c) ts L = fed c (inward (Merge c) ts) (flat_map (unfolded c (inward (Merge c) ts)) L)
fed (Resample start end step c) ts L =
    some
    (λ j. fed c (inward (Resample start end step c) ts) (flat_map (in_interval start end step j) L))
    (places 0 (intervals start end step))

-- What a chain means over a list of feeds.
abbrev pub meaning : (c : Chain) → List Ty → List (Feed c) → Value
meaning (Of f) ts L = leaf_meaning f ts (default (leaf_result f ts)) (filter no_null L)
meaning (If c) ts L = meaning c (inward (If c) ts) (flat_map when_met L)
meaning (Array c) ts L = meaning c (inward (Array c) ts) (flat_map (λ f. f) L)
meaning (MapOf c) ts L =
    map_value (map (λ k. (k, meaning c (inward (MapOf c) ts) (flat_map (at_key k) L))) (keys_of L))
meaning (ForEach c) ts L =
    list_value (map (λ i. meaning c (inward (ForEach c) ts) (flat_map (at_place i) L)) (places 0 (width L)))
meaning (OrNull c) ts L =
    cond (fed c ts L) (meaning c ts L) (cond (can_be_null (result c ts)) Nil (meaning c ts L))
meaning (OrDefault c) ts L = cond (fed c ts L) (meaning c ts L) (default (result c ts))
meaning (Distinct c) ts L = meaning c ts (map (opened c) (firsts compare_rows (filter no_null L)))
meaning (State c) ts L = Cell (normal c ts L)
meaning (Merge c) ts L = meaning c (inward (Merge c) ts) (flat_map (unfolded c (inward (Merge c) ts)) L)
meaning (Resample start end step c) ts L =
    list_value
    (map
    (λ j. meaning c (inward (Resample start end step c) ts) (flat_map (in_interval start end step j) L))
    (places 0 (intervals start end step)))
