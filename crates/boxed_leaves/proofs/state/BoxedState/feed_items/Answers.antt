-- Answers of the goals that the search leaves open in boxed_leaves::state::BoxedState::feed_items.
use Rattle.std.proofs.Common.{map, sym, ap, ◌∙◌}
use Rattle.agg_terms.specs.Chains.{Ty}
use Rattle.agg_meaning.specs.States.{Held}
use Rattle.int_leaves.specs.Rows.{argument}
use Rattle.list_leaves.specs.Arrays as array
use Rattle.boxed_leaves.specs.Boxed.{held}
use Rattle.boxed_leaves.proofs.Arms.{array_at, takes_at}
use Rattle.boxed_leaves.proofs.state.BoxedState.feed_items.Goals as goal

pub returns-in-Array-clause-row : goal.returns-in-Array-clause-row
returns-in-Array-clause-row c =
    takes_at c.feed_items-in-Array.result (map argument c.args.row.now) (λ (t : Ty). held t c.args.self.now) (λ (t : Ty). array.held t c.deref_mut-in-Array.result.now) (λ (t : Ty). array.held t c.feed_items-in-Array.new.self)
    (array_at c.args.self.now c.in-Array.of c.deref_mut-in-Array.result.now c.in-Array.is c.deref_mut-in-Array.ensures.value) c.feed_items-in-Array.ensures.row

pub returns-in-Array-clause-made : goal.returns-in-Array-clause-made
returns-in-Array-clause-made c = λ t.
    c.feed_items-in-Array.ensures.made t
    ∙ ap (λ (z : Held). z.made) (sym (array_at c.args.self.now c.in-Array.of c.deref_mut-in-Array.result.now c.in-Array.is c.deref_mut-in-Array.ensures.value t))
