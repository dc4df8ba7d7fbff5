use Rattle.std.proofs.Common.{◌≡◌, ◌+◌, length}
use Rattle.bench_events.proofs.patterns.pattern.Given as goal

abbrev pub invariant-loop-place : goal.invariant-loop-place
invariant-loop-place l = record {
  items : length l.items ≡ l.place;
  links : length l.between + 1 ≡ l.place;
}
