use Rattle.std.proofs.Common.{◌≡◌, drop}
use Rattle.first_fault.specs.Machine.{run, shifted}
use Rattle.value_types.specs.Folds.{ty_of}
use Rattle.field_texts.specs.Syntax.{form_of}
use Rattle.field_texts.specs.Machine.{step, done, judge}
use Rattle.field_texts.specs.proving.Goals.{stack_of}
use Rattle.field_texts.proofs.judge.syntax_fault.Given as goal

abbrev pub invariant-loop-byte : goal.invariant-loop-byte
invariant-loop-byte l = record {
  told : shifted l.at (run step done (stack_of l.goals.items) (drop l.byte-index l.field)) ≡ judge (form_of (ty_of l.fn.ty)) l.field;
  at : l.at ≡ l.byte-index;
}
