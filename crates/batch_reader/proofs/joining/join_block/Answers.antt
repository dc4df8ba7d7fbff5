use Rattle.std.proofs.Common.{◌∙◌, ap, sym}
use Rattle.batch_reader.proofs.Lanes.{all-pushed, first-refused, found-refused}
use Rattle.batch_reader.proofs.joining.join_block.Goals as goal

pub returns-in_default-clause-ok : goal.returns-in_default-clause-ok
returns-in_default-clause-ok g c = λ reads lines has.
    all-pushed reads c.args.batch.now c.join_lanes.new.batch lines c.args.lanes.now c.first_refused.result has c.first_refused.ensures c.in_default.is c.in_ok-join_lanes.ensures.ok

pub unreachable-requires : goal.unreachable-requires
unreachable-requires g c =
    found-refused c.args.lanes.now c.first_refused.result c.in-Some.place c.index-lanes-place.result c.replace.result c.first_refused.ensures c.in-Some.is c.replace.ensures.value c.in-Ok.is

pub returns-clause-err : goal.returns-clause-err
returns-clause-err g c = λ reads lines has.
    let refused = ap (λ it. it.pushed) c.index-lanes-place.is ∙ sym c.replace.ensures.value ∙ c.in-Err.is in
    first-refused reads c.args.batch.now c.join_lanes-2.new.batch lines c.args.lanes.now c.first_refused.result c.in-Some.place c.index-lanes-place.result c.in-Err.refusal
    has c.first_refused.ensures c.in-Some.is c.index-lanes-place.is refused c.in_ok-join_lanes-2.ensures.ok
