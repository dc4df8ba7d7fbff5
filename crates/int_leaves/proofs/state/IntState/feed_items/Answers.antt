use Rattle.std.proofs.Common.{ap}
use Rattle.int_leaves.specs.Parts.{held}
use Rattle.int_leaves.proofs.Parts.{fed}
use Rattle.int_leaves.proofs.state.IntState.feed_items.Goals as goal

pub returns : goal.returns
returns c = record {
  row = fed _ _ _ _ _ c.self.view_is c.self.invariant c.row_word-word.ensures.word c.row_word-word.ensures.in_range c.both-self-inside.ensures.word;
  made = ap (λ z. (held z).made) c.self.view_is;
}
