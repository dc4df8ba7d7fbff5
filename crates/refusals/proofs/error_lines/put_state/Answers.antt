use Rattle.value_lists.proofs.Fronts.{holds_first}
use Rattle.refusals.specs.Words.{field_place, state_words}
use Rattle.refusals.proofs.Stopped.{later_err, stopped}
use Rattle.refusals.proofs.error_lines.put_state.Goals as goal

pub returns-in_err-put_place-clause-err : goal.returns-in_err-put_place-clause-err
returns-in_err-put_place-clause-err c =
    stopped c.from_residual.result (holds_first (state_words c.args.why) c.in_err-put_place.ensures.err)

pub returns-clause-err : goal.returns-clause-err
returns-clause-err c =
    later_err c.args.text.now _ (field_place c.args.row c.args.column) (state_words c.args.why) c.put_state_why.new.text c.put_state_why.result c.in_ok-put_place.ensures.ok c.put_state_why.ensures.err
