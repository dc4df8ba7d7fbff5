use Rattle.std.proofs.Common.{get_or, arith}
use Rattle.first_fault.proofs.Machines.{run_on, run_off, run_out}
use Rattle.value_types.specs.Folds.{ty_of}
use Rattle.field_texts.specs.Syntax.{form_of}
use Rattle.field_texts.specs.proving.Goals.{stack_of}
use Rattle.field_texts.specs.Machine as machine
use Rattle.field_texts.proofs.Judged.{told_ok, told_err}
use Rattle.field_texts.proofs.Stacks.{went_on, went_off, ends_well, ends_early}
use Rattle.field_texts.proofs.judge.syntax_fault.Goals as goal

pub returns-in-Ok-false : goal.returns-in-Ok-false
returns-in-Ok-false c =
    let loop = c.loop-byte in
    let text = c.args.field.now in
    told_err (form_of (ty_of c.args.ty.now)) text loop.at
    (run_off machine.step machine.done (stack_of loop.goals.items) loop.at loop.byte-index text 0 _ (omega arith)
    (went_off (stack_of loop.goals.items) (get_or text loop.byte-index 0) c.mark_of.result c.in-Ok-false.field-0 c.step.new.goals.items c.mark_of.ensures c.in-Ok-false.ensures c.in-Ok-false.field-0-test)
    loop.invariant.told)

pub loop-byte-preserved : goal.loop-byte-preserved
loop-byte-preserved c =
    let loop = c.loop-byte in
    let text = c.args.field.now in
    record {
      told = run_on machine.step machine.done (stack_of loop.goals.items) (stack_of c.step.new.goals.items) loop.at loop.byte-index text 0 _ (omega arith)
          (went_on (stack_of loop.goals.items) (get_or text loop.byte-index 0) c.mark_of.result c.in-Ok-true.field-0 c.step.new.goals.items c.mark_of.ensures c.in-Ok-true.ensures c.in-Ok-true.field-0-test)
          loop.invariant.told;
      at = omega (arith, loop.invariant.at);
    }

pub returns-then-may_end : goal.returns-then-may_end
returns-then-may_end c =
    let loop = c.loop-byte in
    let text = c.args.field.now in
    told_ok (form_of (ty_of c.args.ty.now)) text
    (ends_well loop.at (stack_of loop.goals.items) c.may_end.result _ (run_out machine.step machine.done (stack_of loop.goals.items) loop.at loop.byte-index text _ (omega arith) loop.invariant.told)
    c.may_end.ensures c.if-may_end.true)

pub returns : goal.returns
returns c =
    let loop = c.loop-byte in
    let text = c.args.field.now in
    told_err (form_of (ty_of c.args.ty.now)) text loop.at
    (ends_early loop.at (stack_of loop.goals.items) c.may_end.result _ (run_out machine.step machine.done (stack_of loop.goals.items) loop.at loop.byte-index text _ (omega arith) loop.invariant.told)
    c.may_end.ensures c.if-may_end.false)
