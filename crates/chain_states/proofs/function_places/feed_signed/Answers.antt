-- Answers for chain_states::function_places::feed_signed.
use Rattle.std.proofs.Common.{◌-◌, map, Bor, List, ℕ}
use Rattle.agg_terms.specs.Chains.{Of}
use Rattle.value_types.specs.Folds.{leaf_of, ty_of}
use Rattle.chain_states.proofs.Columned.{signed_fed}
use Rattle.chain_states.proofs.function_places.feed_signed.Goals as goal

pub returns-in-Some-clause-rows : goal.returns-in-Some-clause-rows
returns-in-Some-clause-rows c =
    signed_fed (λ (all : Bor (List ℕ)). all.now) c.args.conditions (Of (leaf_of c.args.leaf.now)) (map ty_of c.args.types.now) c.args.places.now c.args.from (c.args.to - c.args.from) c.args.states.now.items c.feed_each.new.states.items
    c.feed_each.result c.in-Some.all.now c.args.column.now.values c.in-Some.ensures.all c.feed_each.ensures.rows

pub returns-in-Some-numbers_i16-clause-rows : goal.returns-in-Some-numbers_i16-clause-rows
returns-in-Some-numbers_i16-clause-rows c =
    signed_fed (λ (all : Bor (List ℕ)). all.now) c.args.conditions (Of (leaf_of c.args.leaf.now)) (map ty_of c.args.types.now) c.args.places.now c.args.from (c.args.to - c.args.from) c.args.states.now.items c.feed_each-in-Some-numbers_i16.new.states.items
    c.feed_each-in-Some-numbers_i16.result c.in-Some-numbers_i16.all.now c.args.column.now.values c.in-Some-numbers_i16.ensures.all c.feed_each-in-Some-numbers_i16.ensures.rows

pub returns-in-Some-numbers_i32-clause-rows : goal.returns-in-Some-numbers_i32-clause-rows
returns-in-Some-numbers_i32-clause-rows c =
    signed_fed (λ (all : Bor (List ℕ)). all.now) c.args.conditions (Of (leaf_of c.args.leaf.now)) (map ty_of c.args.types.now) c.args.places.now c.args.from (c.args.to - c.args.from) c.args.states.now.items c.feed_each-in-Some-numbers_i32.new.states.items
    c.feed_each-in-Some-numbers_i32.result c.in-Some-numbers_i32.all.now c.args.column.now.values c.in-Some-numbers_i32.ensures.all c.feed_each-in-Some-numbers_i32.ensures.rows

pub returns-in-Some-numbers_i64-clause-rows : goal.returns-in-Some-numbers_i64-clause-rows
returns-in-Some-numbers_i64-clause-rows c =
    signed_fed (λ (all : Bor (List ℕ)). all.now) c.args.conditions (Of (leaf_of c.args.leaf.now)) (map ty_of c.args.types.now) c.args.places.now c.args.from (c.args.to - c.args.from) c.args.states.now.items c.feed_each-in-Some-numbers_i64.new.states.items
    c.feed_each-in-Some-numbers_i64.result c.in-Some-numbers_i64.all.now c.args.column.now.values c.in-Some-numbers_i64.ensures.all c.feed_each-in-Some-numbers_i64.ensures.rows
