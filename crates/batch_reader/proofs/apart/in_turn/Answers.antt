use Rattle.std.proofs.Common.{◌∙◌, ◌+◌, ◌<◌, ℕ, arith, length}
use Rattle.std.specs.Fork.{ChangesAt}
use Rattle.std.proofs.lemmas.List.{get_or-set_other}
use Rattle.batch_reader.proofs.Places.{turn-more}
use Rattle.batch_reader.proofs.apart.in_turn.Goals as goal

pub loop-k-preserved : goal.loop-k-preserved
loop-k-preserved g c =
    let k = c.loop-k.k in
    let within : k < length c.loop-k.items = omega (arith, c.loop-k-test.true, c.loop-k.auto.items) in
    let R : ℕ → g.row.T.Denot → g.row.T.Denot → Type 0 = λ j. ChangesAt g.F.Fn c.args.f.now (c.args.base + j) in
    record {
      ahead = λ j d past. get_or-set_other c.loop-k.items k j c.call_at.new.item d (λ same. omega (arith, past, same)) ∙ c.loop-k.invariant.ahead j d (omega (arith, past));
      done = turn-more R c.args.items.now c.loop-k.items k c.index-items-k.result c.call_at.new.item within c.loop-k.invariant.ahead c.loop-k.invariant.done c.call_at.ensures;
    }
