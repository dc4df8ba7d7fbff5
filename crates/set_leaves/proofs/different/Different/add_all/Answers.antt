use Rattle.std.proofs.Common.{map, refl}
use Rattle.set_leaves.proofs.Keys.{rows_added, same_front}
use Rattle.set_leaves.proofs.different.Different.add_all.Goals as goal

pub loop-key-preserved : goal.loop-key-preserved
loop-key-preserved g c = (
  rows_added g.K.Key.tuple (map g.K.Key.tuple c.args.self.now) (map g.K.Key.tuple c.loop-key.self) (map g.K.Key.tuple c.add.new.self) c.args.keys.now c.loop-key.key-index
      c.key-item.result (g.K.Key.tuple c.key-item.result) c.loop-key-test.true c.key-item.is refl c.loop-key.invariant.0 c.in_ok-add.ensures.ok,
  same_front c.args.self.now c.loop-key.self c.add.new.self c.loop-key.invariant.1 c.in_ok-add.ensures.front,
)
