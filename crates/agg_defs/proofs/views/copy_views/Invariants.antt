use Rattle.std.proofs.Common.{◌≡◌, take}
use Rattle.agg_defs.proofs.views.copy_views.Given as goal

abbrev pub invariant-loop-view : goal.invariant-loop-view
invariant-loop-view l = l.copied ≡ take l.view-index l.views
