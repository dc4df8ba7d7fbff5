use Rattle.std.proofs.Common.{◌≡◌, ◌∙◌, pos, subst, to_z, of_z, rules, true}
use Rattle.std.specs.Int.{w128}
use Rattle.std.specs.Prelude.{Ok}
use Rattle.column_parts.specs.NumberLists.{Took}
use Rattle.quick_rows.proofs.FieldLaws.{number_taken}
use Rattle.quick_rows.proofs.FrontDigits.{number_part}
use Rattle.quick_rows.proofs.Fronts.{part_front}
use Rattle.quick_rows.proofs.field.take_number.Goals as goal

pub returns-in-Ok-true : goal.returns-in-Ok-true
returns-in-Ok-true c =
    let found = c.in-Some.ensures in
    let text = c.args.text.now in
    let left = c.in-Some.left.now in
    let whole : to_z w128 (of_z w128 c.from.result) ≡ c.from.result = search rules in
    let took = subst (λ b. Took c.args.numbers.now (pos c.in-Some.size) c.take.new.self (Ok b)) c.in-Ok-true.field-0-test
    (subst (λ z. Took c.args.numbers.now z c.take.new.self (Ok c.in-Ok-true.field-0)) (whole ∙ c.from.ensures) c.in-Ok-true.ensures) in (
      found.0,
      part_front text found.0 left (number_part text found.0 left found.1 found.2),
      number_taken c.args.numbers.now c.take.new.self found.0 (pos c.in-Some.size) (Ok true) found.2 found.3 took,
    )
