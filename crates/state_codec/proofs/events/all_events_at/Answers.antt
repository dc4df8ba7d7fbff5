use Rattle.std.proofs.Common.{◌≡◌, ◌++◌, ◌∷◌, [], map}
use Rattle.std.proofs.lemmas.Result.{err_from_is_err_and}
use Rattle.std.proofs.lemmas.List.{map_push}
use Rattle.value_types.specs.Folds.{event_of}
use Rattle.state_codec.specs.Reading.{event_at, is_event, items_at, kept_at}
use Rattle.state_codec.proofs.Loop.{ends, goes_on, is_done}
use Rattle.state_codec.proofs.events.all_events_at.Goals as goal

pub returns-in_err-event : goal.returns-in_err-event
returns-in_err-event c =
    let p = err_from_is_err_and c.from_residual.result c.from_residual.ensures.1 in
    rw (p.1, p.2) (ends (λ e. kept_at c.args.whole (is_event c.args.conditions e) event_at) c.in_err-event.field-0.0 (map event_of c.loop.events) c.args.count c.loop.counter c.loop.rest.now (items_at (λ e. kept_at c.args.whole (is_event c.args.conditions e) event_at) c.args.count [] c.args.bytes.now) c.loop-test.true c.in_err-event.ensures c.loop.invariant)

pub loop-preserved : goal.loop-preserved
loop-preserved c =
    let e : map event_of c.push.new.self ≡ map event_of c.loop.events ++ event_of c.in_ok-event.event ∷ [] = rw c.in_ok-push.ensures.ok (map_push event_of c.loop.events c.in_ok-event.event) in
    rw e (goes_on (λ e. kept_at c.args.whole (is_event c.args.conditions e) event_at) (map event_of c.loop.events) c.args.count c.loop.counter c.loop.rest.now (event_of c.in_ok-event.event) c.in_ok-event.after.now (items_at (λ e. kept_at c.args.whole (is_event c.args.conditions e) event_at) c.args.count [] c.args.bytes.now) c.loop-test.true c.in_ok-event.ensures c.loop.invariant)

pub returns : goal.returns
returns c = is_done (λ e. kept_at c.args.whole (is_event c.args.conditions e) event_at) (map event_of c.loop.events) c.args.count c.loop.counter c.loop.rest.now (items_at (λ e. kept_at c.args.whole (is_event c.args.conditions e) event_at) c.args.count [] c.args.bytes.now) c.loop-test.false c.loop.invariant
