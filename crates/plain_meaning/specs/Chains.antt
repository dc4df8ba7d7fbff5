-- Chains without -Merge.
use Rattle.std.specs.Prelude.{Bool, true, false}
use Rattle.agg_terms.specs.Chains.{Array, Chain, Distinct, ForEach, If, MapOf, Merge, Of, OrDefault, OrNull, Resample, State}

abbrev pub has_no_merge : Chain → Bool
has_no_merge (Of f) = true
has_no_merge (If c) = has_no_merge c
has_no_merge (Array c) = has_no_merge c
has_no_merge (MapOf c) = has_no_merge c
has_no_merge (ForEach c) = has_no_merge c
has_no_merge (OrNull c) = has_no_merge c
has_no_merge (OrDefault c) = has_no_merge c
has_no_merge (Distinct c) = has_no_merge c
has_no_merge (State c) = has_no_merge c
has_no_merge (Merge c) = false
has_no_merge (Resample start end step c) = has_no_merge c
