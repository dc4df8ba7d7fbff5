use Rattle.value_lists.proofs.Fronts.{holds_first}
use Rattle.refusals.specs.Words.{field_place, field_words}
use Rattle.refusals.proofs.Stopped.{later_err, stopped}
use Rattle.refusals.proofs.error_lines.put_field.Goals as goal

pub returns-in_err-put_place-clause-err : goal.returns-in_err-put_place-clause-err
returns-in_err-put_place-clause-err c =
    stopped c.from_residual.result (holds_first (field_words c.args.fault.now) c.in_err-put_place.ensures.err)

pub returns-clause-err : goal.returns-clause-err
returns-clause-err c =
    later_err c.args.text.now _ (field_place c.args.row c.args.column) (field_words c.args.fault.now) c.put_field_why.new.text c.put_field_why.result c.in_ok-put_place.ensures.ok c.put_field_why.ensures.err
