use Rattle.std.proofs.Common.{◌<◌, ◌≤◌, ◌^◌, map}
use Rattle.agg_terms.specs.Lists.{Each, NotFalling}
use Rattle.agg_terms.specs.Trees.{by_time}
use Rattle.value_types.specs.Folds.{event_of}
use Rattle.bench_events.proofs.events.events.Given as goal

abbrev pub invariant-loop-place : goal.invariant-loop-place
invariant-loop-place l = record {
  ordered : NotFalling by_time (map event_of l.all);
  times : Each (λ e. e.time ≤ l.time) (map event_of l.all);
  masks : Each (λ e. e.mask < 2 ^ 32) (map event_of l.all);
  time : l.time ≤ l.place;
}
