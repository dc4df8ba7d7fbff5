use Rattle.std.proofs.Common.{◌≡◌, drop}
use Rattle.first_fault.specs.Machine.{run, shifted}
use Rattle.pattern_texts.specs.Machine.{step, done, reads, state_of}
use Rattle.pattern_texts.proofs.reading.read.Given as goal

abbrev pub invariant-loop-byte : goal.invariant-loop-byte
invariant-loop-byte l = record {
  told : shifted l.at (run (step l.fn.conditions) done (state_of l.pattern l.phase) (drop l.byte-index l.text)) ≡ reads l.fn.conditions l.text;
  at : l.at ≡ l.byte-index;
}
