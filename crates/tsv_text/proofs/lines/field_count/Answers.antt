use Rattle.std.proofs.Common.{arith}
use Rattle.std.proofs.lemmas.List.Splits.{length-slice_split}
use Rattle.tsv_text.specs.Lines.{fields_of, is_tab}
use Rattle.tsv_text.proofs.lines.field_count.Goals as goal

pub returns : goal.returns
unfolding fields_of
returns c = omega (arith, length-slice_split is_tab c.args.line.now)
