use mir.Syntax.{w128}
use Rattle.std.proofs.Common.{◌++◌, ◌∙◌, [], ◌∷◌, ap, map}
use Rattle.std.proofs.lemmas.Result.{on_ok_weaker}
use Rattle.std.proofs.Math.Facts.{to_z-of_z}
use Rattle.agg_meaning.specs.Functions.{number}
use Rattle.list_leaves.specs.Rows.{argument}
use Rattle.list_leaves.proofs.Quantiles.{row_taken}
use Rattle.list_leaves.proofs.quantile.QuantileState.feed_items.Goals as goal

pub returns-clause-row : goal.returns-clause-row
returns-clause-row c =
    on_ok_weaker _
    (λ h. row_taken c.args.self.now.made c.args.self.now.numbers c.push.new.self (map argument c.args.row.now) c.number_in-number.result (c.number_in-number.ensures ∙ ap number c.first_item.ensures)
    (h ∙ ap (λ z. c.args.self.now.numbers ++ z ∷ []) (to_z-of_z {w = w128} {z = c.number_in-number.result} (record { sfits = c.number_in-number.type_inv }))))
    c.push.ensures.ok
