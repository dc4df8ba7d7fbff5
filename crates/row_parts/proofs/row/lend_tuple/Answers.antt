-- Answers of the goals that the search leaves open in row_parts::row::lend_tuple.
use Rattle.std.proofs.Common.{sym, ap, ◌∙◌, map}
use Rattle.std.proofs.lemmas.List.{take_all}
use Rattle.row_parts.specs.Rows.{arguments}
use Rattle.row_parts.proofs.Tuples.{at_place, item_reaches, tuple_at}
use Rattle.row_parts.proofs.row.lend_tuple.Goals as goal

pub element-requires : goal.element-requires
element-requires c = item_reaches c.args.row.now c.args.place c.requires.within c.loop-i.i c.index-row-i.result c.loop-i-test.true c.index-row-i.is

pub returns : goal.returns
returns c =
    c.loop-i.invariant ∙ ap (λ z. map (at_place c.args.place) (arguments z)) (take_all c.loop-i.i c.args.row.now c.loop-i-test.false)
    ∙ sym (tuple_at (arguments c.args.row.now) c.args.place c.requires.within)
