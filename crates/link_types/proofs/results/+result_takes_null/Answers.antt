use Rattle.std.proofs.Common.{◌∙◌, ap, sym, map}
use Rattle.agg_meaning.specs.Results.{can_be_null, result}
use Rattle.value_types.specs.Folds.{chain_of, ty_of}
use Rattle.value_types.proofs.FoldLaws.{chain_of-State}
use Rattle.link_types.proofs.ResultTypes.{state_takes}
use Rattle.link_types.proofs.results.+result_takes_null.Goals as goal

pub returns-in-State : goal.returns-in-State
returns-in-State t c =
    sym (ap (λ x. can_be_null (result x (map ty_of c.args.types.now))) (ap chain_of c.in-State.is ∙ chain_of-State c.in-State.field-0)
    ∙ state_takes (chain_of c.in-State.field-0) (map ty_of c.args.types.now))
