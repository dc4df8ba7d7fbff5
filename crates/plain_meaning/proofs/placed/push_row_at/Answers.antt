use Rattle.std.proofs.Common.{◌∙◌, ap, arith}
use Rattle.std.proofs.lemmas.Result.{on_ok_weaker}
use Rattle.plain_rows.specs.Rows.{row_of, rows_of}
use Rattle.plain_meaning.proofs.Rows.{pushed_there}
use Rattle.plain_meaning.proofs.placed.push_row_at.Goals as goal

pub returns : goal.returns
returns c =
    on_ok_weaker c.push.result
    (pushed_there c.args.place c.as_slice-elements.result.now c.args.into.now c.push.new.self c.in_ok-found.found c.index-elements-place.result (row_of c.args.row.now)
    (ap rows_of c.as_slice-elements.ensures ∙ c.in_ok-elements.ensures) (omega (arith, c.if-place-elements.false))
    (c.in_ok-found.ensures ∙ c.as_slice.ensures ∙ c.index-elements-place.is)) c.push.ensures.ok
