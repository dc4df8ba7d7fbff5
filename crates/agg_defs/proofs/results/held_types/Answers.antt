use Rattle.std.proofs.Common.{◌∙◌, sym, ap, map}
use Rattle.agg_terms.specs.Types.{state_args}
use Rattle.value_types.specs.Folds.{ty_of}
use Rattle.agg_defs.proofs.Back.{tys_back, state_is}
use Rattle.agg_defs.proofs.results.held_types.Goals as goal

pub returns-in_ok-all-in-State : goal.returns-in_ok-all-in-State
returns-in_ok-all-in-State c =
    c.in_ok-all-in-State.ensures ∙ ap (map ty_of) c.as_slice.ensures
    ∙ sym (ap (λ t. state_args (ty_of t)) c.in-State.is ∙ ap state_args (state_is c.in-State.field-0 c.in-State.types) ∙ tys_back (map ty_of c.in-State.types))
