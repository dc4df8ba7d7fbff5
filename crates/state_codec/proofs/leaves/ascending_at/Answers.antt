use Rattle.std.proofs.Common.{◌≡◌, ◌++◌, ◌∷◌, [], map}
use Rattle.std.proofs.lemmas.Result.{err_from_is_err_and}
use Rattle.std.proofs.lemmas.List.{map_push}
use Rattle.agg_terms.specs.Order.{compare}
use Rattle.value_types.specs.Folds.{ty_of, value_of}
use Rattle.state_codec.specs.Reading.{holds_up, items_at, kept_at, value_at}
use Rattle.state_codec.proofs.Loop.{ends, goes_on, is_done}
use Rattle.state_codec.proofs.leaves.ascending_at.Goals as goal

pub returns-in_err-value : goal.returns-in_err-value
returns-in_err-value c =
    let p = err_from_is_err_and c.from_residual.result c.from_residual.ensures.1 in
    rw (p.1, p.2) (ends (λ e. kept_at c.args.whole (holds_up compare e) (value_at c.args.whole (ty_of c.args.ty.now))) c.in_err-value.field-0.0 (map value_of c.loop.items) c.args.count c.loop.counter c.loop.rest.now (items_at (λ e. kept_at c.args.whole (holds_up compare e) (value_at c.args.whole (ty_of c.args.ty.now))) c.args.count [] c.args.bytes.now) c.loop-test.true c.in_err-value.ensures c.loop.invariant)

pub loop-preserved : goal.loop-preserved
loop-preserved c =
    let e : map value_of c.push.new.self ≡ map value_of c.loop.items ++ value_of c.in_ok-value.value ∷ [] = rw c.in_ok-push.ensures.ok (map_push value_of c.loop.items c.in_ok-value.value) in
    rw e (goes_on (λ e. kept_at c.args.whole (holds_up compare e) (value_at c.args.whole (ty_of c.args.ty.now))) (map value_of c.loop.items) c.args.count c.loop.counter c.loop.rest.now (value_of c.in_ok-value.value) c.in_ok-value.after.now (items_at (λ e. kept_at c.args.whole (holds_up compare e) (value_at c.args.whole (ty_of c.args.ty.now))) c.args.count [] c.args.bytes.now) c.loop-test.true c.in_ok-value.ensures c.loop.invariant)

pub returns : goal.returns
returns c = is_done (λ e. kept_at c.args.whole (holds_up compare e) (value_at c.args.whole (ty_of c.args.ty.now))) (map value_of c.loop.items) c.args.count c.loop.counter c.loop.rest.now (items_at (λ e. kept_at c.args.whole (holds_up compare e) (value_at c.args.whole (ty_of c.args.ty.now))) c.args.count [] c.args.bytes.now) c.loop-test.false c.loop.invariant
