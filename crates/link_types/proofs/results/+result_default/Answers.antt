use Rattle.std.proofs.Common.{◌∙◌, ap, sym, map}
use Rattle.agg_terms.specs.Values.{Cell}
use Rattle.agg_meaning.specs.Results.{default, result}
use Rattle.value_types.specs.Folds.{chain_of, ty_of}
use Rattle.value_types.proofs.FoldLaws.{value_of-Cell}
use Rattle.link_types.proofs.Fronts.{is_state}
use Rattle.link_types.proofs.ResultTypes.{state_default}
use Rattle.link_types.proofs.results.+result_default.Goals as goal

pub returns-in_ok-blank_of-in-State : goal.returns-in_ok-blank_of-in-State
returns-in_ok-blank_of-in-State t c =
    value_of-Cell c.in_ok-blank_of-in-State.field-0 ∙ ap Cell c.in_ok-blank_of-in-State.ensures
    ∙ sym (ap (λ x. default (result x (map ty_of c.args.types.now))) (is_state c.args.chain.now c.in-State.of c.get-in-State.result.now c.get-in-State.ensures c.in-State.is)
    ∙ state_default (chain_of c.get-in-State.result.now) (map ty_of c.args.types.now))
