-- Answers for chain_states::function_places::feed_each.
use Rattle.std.proofs.Common.{rules, get_or, map, sym, ◌∙◌, Bor, List, ℕ}
use Rattle.agg_terms.specs.Chains.{Of}
use Rattle.value_types.specs.Folds.{leaf_of, ty_of}
use Rattle.chain_states.specs.proving.Places.{with_condition}
use Rattle.chain_states.proofs.ByPlace.{at_all, each_set, left_out, one_more}
use Rattle.chain_states.proofs.function_places.feed_each.Goals as goal

pub loop-i-preserved-then-is_left : goal.loop-i-preserved-then-is_left
loop-i-preserved-then-is_left g c = (
  c.loop-i.invariant.0,
  left_out (λ (all : Bor (List ℕ)). all.now) c.args.conditions (Of (leaf_of c.args.leaf.now)) (map ty_of c.args.types.now) c.args.places.now (g.R.Rows.row_at c.args.rows.now) c.args.from c.loop-i.i
      c.args.states.now.items c.loop-i.states.items c.loop-i-test.true c.loop-i.invariant.1 (sym c.is_left.ensures ∙ c.if-is_left.true),
)

pub loop-i-preserved : goal.loop-i-preserved
loop-i-preserved g c = (
  each_set _ c.loop-i.states.items (get_or c.args.places.now c.loop-i.i 0) (record { running = c.feed.new.state }) c.loop-i.invariant.0 c.in_ok-feed.ensures.shape,
  one_more (λ (all : Bor (List ℕ)). all.now) c.args.conditions (Of (leaf_of c.args.leaf.now)) (map ty_of c.args.types.now) c.args.places.now (g.R.Rows.row_at c.args.rows.now) c.args.from c.loop-i.i
      c.args.states.now.items c.loop-i.states.items c.loop-i-test.true c.loop-i.invariant.1 c.index_mut.result.now (record { running = c.feed.new.state }) (sym c.is_left.ensures ∙ c.if-is_left.false)
      (search rules) (search rules) c.in_ok-feed.ensures.row,
)

pub returns-clause-rows : goal.returns-clause-rows
returns-clause-rows g c =
    at_all _ _ c.args.places.now (with_condition (λ (all : Bor (List ℕ)). all.now) c.args.conditions (g.R.Rows.row_at c.args.rows.now)) c.args.from c.loop-i.i _ _ _ (search rules) (search rules) c.requires.count c.loop-i.invariant.1
