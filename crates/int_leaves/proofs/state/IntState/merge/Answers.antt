use Rattle.std.proofs.Common.{ap}
use Rattle.int_leaves.specs.Parts.{held}
use Rattle.int_leaves.proofs.Parts.{merged, merged_fits}
use Rattle.int_leaves.proofs.state.IntState.merge.Goals as goal

pub both-self-inside-requires-clause-later : goal.both-self-inside-requires-clause-later
both-self-inside-requires-clause-later c = merged_fits _ _ _ _ c.self.view_is c.later.view_is c.requires.same c.later.invariant

pub returns : goal.returns
returns c = record {
  rows = merged _ _ _ _ _ c.self.view_is c.later.view_is c.requires.same c.self.invariant c.later.invariant c.both-self-inside.ensures.word;
  made = ap (λ z. (held z).made) c.self.view_is;
}
