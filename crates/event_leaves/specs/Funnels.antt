-- The state of windowFunnel that a state of the code is.
use Rattle.std.specs.Prelude.{ℕ, ◌+◌, Bool}
use Rattle.agg_terms.specs.Chains.{Whole, WindowFunnel}
use Rattle.agg_meaning.specs.States.{Held}
use Rattle.event_leaves.specs.Kept.{Kept, event_tree}
use Rattle.event_leaves.specs.declared.funnel.FunnelState.{FunnelState}

-- a window, whether times must rise, and what is kept of the rows
abbrev pub funnel_held : ℕ → Bool → Kept → Held
funnel_held window strict k = record {
  made = record { leaf = WindowFunnel window strict; result = Whole 8; arguments = k.conditions + 1 };
  tree = event_tree k.is_fed k.events;
}

abbrev pub held : FunnelState → Held
held s = funnel_held s.window s.is_strict s.rows
