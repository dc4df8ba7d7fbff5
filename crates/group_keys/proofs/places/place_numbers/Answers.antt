use Rattle.group_keys.proofs.KeyLists.{placed-next}
use Rattle.group_keys.proofs.places.place_numbers.Goals as goal

pub loop-number-preserved : goal.loop-number-preserved
loop-number-preserved g c =
    placed-next g.N.PartialEq.eq c.args.set.now.keys c.args.numbers.now c.loop-number.set.keys c.place_number.new.set.keys c.loop-number.number-index c.number-item.result
    c.loop-number.places.items c.push.new.self.items c.in_ok-place_number.field-0 c.loop-number.invariant c.loop-number-test.true c.number-item.is c.in_ok-place_number.ensures.keys
    c.in_ok-place_number.ensures.place c.in_ok-push.ensures.items
