-- The argument types of a chain's function: the types at each link, from the outermost inward.
use Rattle.std.specs.Prelude.{List}
use Rattle.agg_terms.specs.Chains.{Chain, Of, If, Array, MapOf, ForEach, OrNull, OrDefault, Distinct, State, Merge, Resample, Ty}
use Rattle.agg_terms.specs.Types.{inward}

abbrev pub inner_types : Chain → List Ty → List Ty
inner_types (Of f) ts = ts
inner_types (If c) ts = inner_types c (inward (If c) ts)
inner_types (Array c) ts = inner_types c (inward (Array c) ts)
inner_types (MapOf c) ts = inner_types c (inward (MapOf c) ts)
inner_types (ForEach c) ts = inner_types c (inward (ForEach c) ts)
inner_types (OrNull c) ts = inner_types c ts
inner_types (OrDefault c) ts = inner_types c ts
inner_types (Distinct c) ts = inner_types c ts
inner_types (State c) ts = inner_types c ts
inner_types (Merge c) ts = inner_types c (inward (Merge c) ts)
inner_types (Resample start end step c) ts = inner_types c (inward (Resample start end step c) ts)
