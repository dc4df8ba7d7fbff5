use Rattle.std.proofs.Common.{List, take, ◌+◌, sym, subst, arith}
use Rattle.quick_rows.specs.Keeping.{AreSteps}
use Rattle.quick_rows.specs.declared.walk.Step.{Step}
use Rattle.batch_reader.proofs.Kept.{steps-more}
use Rattle.batch_reader.proofs.streaming.steps_of.Goals as goal

pub loop-i-preserved : goal.loop-i-preserved
loop-i-preserved c =
    let i = c.loop-i.i in
    subst (λ (xs : List Step). AreSteps (take (i + 1) c.args.types.now) (take (i + 1) c.args.keep.now) xs) (sym c.in_ok-push.ensures.items)
    (steps-more c.args.types.now c.args.keep.now c.loop-i.steps.items i c.index-types-i.result c.step_of.result c.loop-i.invariant c.requires (omega (arith, c.loop-i-test.true)) c.index-types-i.is c.step_of.ensures)
