-- Measures and loop invariants of the cycle of chain_links::starting::fresh.
use Rattle.std.proofs.Common.{◌≡◌, map, length}
use Rattle.std.specs.Prelude.{replicate}
use Rattle.agg_terms.specs.Lists.{Each}
use Rattle.agg_meaning.specs.Results.{blank}
use Rattle.value_types.specs.Folds.{chain_of, ty_of}
use Rattle.running_states.specs.Shapes.{IsState}
use Rattle.running_states.specs.Trees.{tree_in}
use Rattle.chain_links.proofs.+fresh.Given as goal

abbrev pub invariant-intervals::fresh_parts-loop-i : goal.invariant-intervals::fresh_parts-loop-i
invariant-intervals::fresh_parts-loop-i l =
    Each (IsState (chain_of l.of) (map ty_of l.types)) l.parts.items
    × (length l.parts.items ≡ l._i)
    × (map tree_in l.parts.items ≡ replicate l._i (blank (chain_of l.of)))
