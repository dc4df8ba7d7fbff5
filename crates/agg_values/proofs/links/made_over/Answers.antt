use Rattle.std.proofs.Common.{map, ap, sym, ◌∙◌}
use Rattle.value_types.specs.Folds.{ty_of}
use Rattle.agg_values.proofs.Images.{state_args_at}
use Rattle.agg_values.proofs.links.made_over.Goals as goal

pub returns-in-State : goal.returns-in-State
returns-in-State c = ap (map ty_of) c.as_slice.ensures ∙ sym (state_args_at c.args.ty.now c.in-State.field-0 c.in-State.args c.in-State.is)
