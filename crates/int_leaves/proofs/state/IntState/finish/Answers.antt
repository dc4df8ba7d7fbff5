use Rattle.std.proofs.lemmas.Result.{IfOk-weaker}
use Rattle.value_types.specs.Folds.{value_of}
use Rattle.int_leaves.proofs.Meanings.{finished}
use Rattle.int_leaves.proofs.state.IntState.finish.Goals as goal

pub returns : goal.returns
returns c = IfOk-weaker _ _ _ (λ v h. finished _ _ (value_of v) c.self.view_is c.self.invariant.0 h) c.word_means.ensures
