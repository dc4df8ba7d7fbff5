use Rattle.std.proofs.Common.{◌≡◌, ◌++◌, ◌∷◌, [], map}
use Rattle.std.proofs.lemmas.Result.{err_from_is_err_and}
use Rattle.std.proofs.lemmas.List.{map_push}
use Rattle.state_codec.specs.Reading.{items_at, value_at, pair_at}
use Rattle.value_types.specs.Folds.{ty_of, value_of}
use Rattle.state_codec.specs.proving.Views.{pair_view}
use Rattle.state_codec.proofs.Loop.{goes_on, ends, is_done}
use Rattle.state_codec.proofs.values.+value.Goals as goal

pub values_at-returns-in_err-value : goal.values_at-returns-in_err-value
values_at-returns-in_err-value t c =
    let p = err_from_is_err_and c.from_residual.result c.from_residual.ensures.1 in
    rw (p.1, p.2) (ends (λ e. value_at c.args.whole (ty_of c.args.ty.now)) c.in_err-value.field-0.0 (map value_of c.loop.items) c.args.count c.loop.counter c.loop.rest.now (items_at (λ e. value_at c.args.whole (ty_of c.args.ty.now)) c.args.count [] c.args.bytes.now) c.loop-test.true c.in_err-value.ensures c.loop.invariant)

pub values_at-loop-preserved : goal.values_at-loop-preserved
values_at-loop-preserved t c =
    let e : map value_of c.push.new.self ≡ map value_of c.loop.items ++ value_of c.in_ok-value.value ∷ [] = rw c.in_ok-push.ensures.ok (map_push value_of c.loop.items c.in_ok-value.value) in
    rw e (goes_on (λ z. value_at c.args.whole (ty_of c.args.ty.now)) (map value_of c.loop.items) c.args.count c.loop.counter c.loop.rest.now (value_of c.in_ok-value.value) c.in_ok-value.after.now (items_at (λ z. value_at c.args.whole (ty_of c.args.ty.now)) c.args.count [] c.args.bytes.now) c.loop-test.true c.in_ok-value.ensures c.loop.invariant)

pub values_at-returns : goal.values_at-returns
values_at-returns t c = is_done (λ e. value_at c.args.whole (ty_of c.args.ty.now)) (map value_of c.loop.items) c.args.count c.loop.counter c.loop.rest.now (items_at (λ e. value_at c.args.whole (ty_of c.args.ty.now)) c.args.count [] c.args.bytes.now) c.loop-test.false c.loop.invariant

pub all_pairs_at-returns-in_err-pair : goal.all_pairs_at-returns-in_err-pair
all_pairs_at-returns-in_err-pair t c =
    let p = err_from_is_err_and c.from_residual.result c.from_residual.ensures.1 in
    rw (p.1, p.2) (ends (λ e. pair_at c.args.whole (ty_of c.args.ty.now)) c.in_err-pair.field-0.0 (map pair_view c.loop.pairs) c.args.count c.loop.counter c.loop.rest.now (items_at (λ e. pair_at c.args.whole (ty_of c.args.ty.now)) c.args.count [] c.args.bytes.now) c.loop-test.true c.in_err-pair.ensures c.loop.invariant)

pub all_pairs_at-loop-preserved : goal.all_pairs_at-loop-preserved
all_pairs_at-loop-preserved t c =
    let e : map pair_view c.push.new.self ≡ map pair_view c.loop.pairs ++ pair_view c.in_ok-pair.pair ∷ [] = rw c.in_ok-push.ensures.ok (map_push pair_view c.loop.pairs c.in_ok-pair.pair) in
    rw e (goes_on (λ z. pair_at c.args.whole (ty_of c.args.ty.now)) (map pair_view c.loop.pairs) c.args.count c.loop.counter c.loop.rest.now (pair_view c.in_ok-pair.pair) c.in_ok-pair.after.now (items_at (λ z. pair_at c.args.whole (ty_of c.args.ty.now)) c.args.count [] c.args.bytes.now) c.loop-test.true c.in_ok-pair.ensures c.loop.invariant)

pub all_pairs_at-returns : goal.all_pairs_at-returns
all_pairs_at-returns t c = is_done (λ e. pair_at c.args.whole (ty_of c.args.ty.now)) (map pair_view c.loop.pairs) c.args.count c.loop.counter c.loop.rest.now (items_at (λ e. pair_at c.args.whole (ty_of c.args.ty.now)) c.args.count [] c.args.bytes.now) c.loop-test.false c.loop.invariant
