use Rattle.std.proofs.Common.{◌++◌, ◌∙◌, ap}
use Rattle.std.proofs.lemmas.Result.{on_ok_weaker}
use Rattle.list_leaves.proofs.Quantiles.{rows_taken}
use Rattle.list_leaves.proofs.quantile.QuantileState.merge.Goals as goal

pub returns-clause-rows : goal.returns-clause-rows
returns-clause-rows c =
    on_ok_weaker _
    (λ h. rows_taken c.args.self.now.made c.args.later.now.made c.args.self.now.numbers c.args.later.now.numbers c.extend_from_slice.new.self (h ∙ ap (λ l. c.args.self.now.numbers ++ l) c.as_slice.ensures))
    c.extend_from_slice.ensures.ok
