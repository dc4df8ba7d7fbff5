-- What a legal chain means over feeds of it is a value of its result type.
use Rattle.std.proofs.Common.{refl, List}
use Rattle.std.specs.Prelude.{IsTrue}
use Rattle.agg_terms.specs.Chains.{Array, Chain, Distinct, ForEach, If, MapOf, Merge, Of, OrDefault, OrNull, Resample, State, Ty}
use Rattle.agg_terms.specs.Fitting.{fits_value}
use Rattle.agg_terms.specs.Lists.{Each}
use Rattle.agg_terms.specs.Types.{inward}
use Rattle.agg_terms.specs.Widths.{HasWidths}
use Rattle.agg_terms.proofs.Fitting.{value}
use Rattle.agg_meaning.specs.Feeds.{Feed, IsFeed}
use Rattle.agg_meaning.specs.Results.{result}
use Rattle.agg_meaning.specs.Suffixes.{meaning}
use Rattle.agg_typing.specs.Promises.{IsLegalCall}
use Rattle.agg_typing.proofs.Inward.{inner_is_legal}
use Rattle.agg_typing.proofs.Soundness.{legal_is_lawful}
use Rattle.result_laws.proofs.Functions.{function_fits}
use Rattle.result_laws.proofs.Links.{Fits, array_fits, distinct_fits, for_each_fits, if_fits, map_fits, merge_fits, or_default_fits, or_null_fits, resample_fits, state_fits}
use Rattle.result_laws.proofs.Wide.{inward_wide}

fits : (c : Chain) (ts : List Ty) → IsLegalCall c ts → Each HasWidths ts → Fits c ts
fits (Of f) ts l w = function_fits f ts l
fits (If c) ts l w = if_fits c ts (fits c (inward (If c) ts) (inner_is_legal (If c) c ts refl l) (inward_wide (If c) ts w))
fits (Array c) ts l w = array_fits c ts (fits c (inward (Array c) ts) (inner_is_legal (Array c) c ts refl l) (inward_wide (Array c) ts w))
fits (MapOf c) ts l w = map_fits c ts (fits c (inward (MapOf c) ts) (inner_is_legal (MapOf c) c ts refl l) (inward_wide (MapOf c) ts w))
fits (ForEach c) ts l w = for_each_fits c ts (fits c (inward (ForEach c) ts) (inner_is_legal (ForEach c) c ts refl l) (inward_wide (ForEach c) ts w))
fits (Resample start end step c) ts l w =
    resample_fits start end step c ts
    (fits c (inward (Resample start end step c) ts) (inner_is_legal (Resample start end step c) c ts refl l) (inward_wide (Resample start end step c) ts w))
fits (OrNull c) ts l w = or_null_fits c ts (fits c ts (inner_is_legal (OrNull c) c ts refl l) w)
fits (OrDefault c) ts l w = or_default_fits c ts (fits c ts (inner_is_legal (OrDefault c) c ts refl l) w)
fits (Distinct c) ts l w =
    let inner : IsLegalCall c ts = inner_is_legal (Distinct c) c ts refl l in
    distinct_fits c ts inner w (fits c ts inner w)
fits (State c) ts l w = state_fits c ts (legal_is_lawful c ts (inner_is_legal (State c) c ts refl l))
fits (Merge c) ts l w =
    let inner : IsLegalCall c (inward (Merge c) ts) = inner_is_legal (Merge c) c ts refl l in
    merge_fits c ts (legal_is_lawful c (inward (Merge c) ts) inner) (fits c (inward (Merge c) ts) inner (inward_wide (Merge c) ts w))

pub meaning_fits : (c : Chain) (ts : List Ty) (L : List (Feed c)) → IsLegalCall c ts → Each HasWidths ts → Each (IsFeed c ts) L →
    IsTrue (fits_value (result c ts) (meaning c ts L))
meaning_fits c ts L l w k = (value (result c ts) (meaning c ts L)).1 (fits c ts l w L k)
