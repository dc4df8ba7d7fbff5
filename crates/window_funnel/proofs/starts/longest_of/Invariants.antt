use Rattle.std.proofs.Common.{◌≡◌, ◌≤◌, ◌+◌, max, drop}
use Rattle.window_funnel.specs.proving.Starts.{longest}
use Rattle.window_funnel.proofs.starts.longest_of.Given as goal

abbrev pub invariant-loop-i : goal.invariant-loop-i
invariant-loop-i l = record {
  below : l.most ≤ l.i;
  so_far : max l.most (longest (l.i + 1) (drop l.i l.starts)) ≡ longest 1 l.starts;
}
