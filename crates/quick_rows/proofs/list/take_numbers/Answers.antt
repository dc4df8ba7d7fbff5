use Rattle.std.proofs.Common.{◌≡◌, ◌-◌, drop, length, subst, take, to_z, of_z, rules, true, arith}
use Rattle.std.specs.Int.{w128}
use Rattle.std.specs.Prelude.{Ok}
use Rattle.column_parts.specs.NumberLists.{Took}
use Rattle.quick_rows.specs.Taking.{numbers_seen}
use Rattle.quick_rows.proofs.FieldLaws.{number_taken}
use Rattle.quick_rows.proofs.FrontDigits.{number_part}
use Rattle.quick_rows.proofs.Fronts.{front_one}
use Rattle.quick_rows.proofs.ListLaws.{listed_all, listed_more, listed_none, numbers_element}
use Rattle.quick_rows.proofs.list.take_numbers.Goals as goal

pub loop-number-init : goal.loop-number-init
loop-number-init c = listed_none (numbers_seen c.args.numbers.now) c.args.inside.now

pub loop-number-preserved : goal.loop-number-preserved
loop-number-preserved c =
    let left = c.loop-number.left.now in
    let behind = c.in-Some.behind.now in
    let found = c.in-Some.ensures in
    let old = c.loop-number.numbers in
    let new = c.take.new.self in
    let whole : to_z w128 (of_z w128 c.in-Some.number) ≡ c.in-Some.number = search rules in
    let took = subst (λ b. Took old c.in-Some.number new (Ok b)) c.in-Ok-true.field-0-test (subst (λ z. Took old z new (Ok c.in-Ok-true.field-0)) whole c.in-Ok-true.ensures) in
    let element = numbers_element old new found.0 (Ok true) (number_taken old new found.0 c.in-Some.number (Ok true) found.2 found.3 took) in
    listed_more (numbers_seen c.args.numbers.now) (numbers_seen old) (numbers_seen new) c.args.inside.now left found.0 behind (take (length behind - 1) (drop 1 behind))
    c.loop-number.invariant (number_part left found.0 behind found.1 found.2) (front_one behind 44 (omega arith) (omega arith)) element

pub returns-in-93 : goal.returns-in-93
returns-in-93 c =
    let left = c.loop-number.left.now in
    let behind = c.in-Some.behind.now in
    let found = c.in-Some.ensures in
    let old = c.loop-number.numbers in
    let new = c.take.new.self in
    let whole : to_z w128 (of_z w128 c.in-Some.number) ≡ c.in-Some.number = search rules in
    let took = subst (λ b. Took old c.in-Some.number new (Ok b)) c.in-Ok-true.field-0-test (subst (λ z. Took old z new (Ok c.in-Ok-true.field-0)) whole c.in-Ok-true.ensures) in
    let element = numbers_element old new found.0 (Ok true) (number_taken old new found.0 c.in-Some.number (Ok true) found.2 found.3 took) in
    listed_all (numbers_seen c.args.numbers.now) (numbers_seen old) (numbers_seen new) c.args.inside.now left found.0 behind (take (length behind - 1) (drop 1 behind))
    c.loop-number.invariant (number_part left found.0 behind found.1 found.2) (front_one behind 93 (omega arith) (omega arith)) element
