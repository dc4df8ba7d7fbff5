-- Answers for chain_states::function_places::feed_few.
use Rattle.std.proofs.Common.{◌-◌, rules, arith, ◌≤◌, length, map, Bor, List, ℕ}
use Rattle.agg_terms.specs.Chains.{Of}
use Rattle.value_types.specs.Folds.{leaf_of, ty_of}
use Rattle.chain_states.proofs.Columned.{none_fed, one_fed}
use Rattle.chain_states.proofs.function_places.feed_few.Goals as goal

pub returns-in_ok-feed_each-in-empty-clause-rows : goal.returns-in_ok-feed_each-in-empty-clause-rows
returns-in_ok-feed_each-in-empty-clause-rows c = λ done.
    none_fed (λ (all : Bor (List ℕ)). all.now) c.args.conditions (Of (leaf_of c.args.leaf.now)) (map ty_of c.args.types.now) c.args.places.now c.args.from (c.args.to - c.args.from) c.args.states.now.items c.feed_each.new.states.items
    c.args.columns.now c.args.arguments.now (omega (arith, c.in-empty.len_below)) c.in_ok-feed_each-in-empty.ensures.rows

pub returns-in_ok-feed_column-in-len1-clause-rows : goal.returns-in_ok-feed_column-in-len1-clause-rows
returns-in_ok-feed_column-in-len1-clause-rows c = λ done.
    let m : c.args.to ≤ length c.index-columns-only.result.values = search rules in
    one_fed (λ (all : Bor (List ℕ)). all.now) c.args.conditions (Of (leaf_of c.args.leaf.now)) (map ty_of c.args.types.now) c.args.places.now c.args.from (c.args.to - c.args.from) c.args.states.now.items c.feed_column.new.states.items
    c.args.columns.now c.args.arguments.now c.index-columns-only.result (omega (arith, c.in-len1.len_at_least)) (omega (arith, c.in-len1.len_below)) (search rules) (search rules) (omega (arith, m, c.requires.order))
    c.in_ok-feed_column-in-len1.ensures.rows
