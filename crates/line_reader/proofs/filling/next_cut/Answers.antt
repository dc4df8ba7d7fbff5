use Rattle.std.proofs.Common.{arith}
use Rattle.line_reader.proofs.Filled.{further-cut, open-behind, run-few}
use Rattle.line_reader.proofs.filling.next_cut.Goals as goal

pub returns-clause-cut : goal.returns-clause-cut
returns-clause-cut c =
    let end = c.min-end.result in
    let fits = run-few c.args.bytes.now c.args.cut end c.whole_len.result c.whole_len.ensures.within in
    further-cut c.args.most_line c.args.room c.args.bytes.now c.args.cut end c.whole_len.result c.requires (omega arith) (omega arith) fits (omega arith) c.whole_len.ensures.ends

pub returns-clause-unbroken : goal.returns-clause-unbroken
returns-clause-unbroken c =
    let end = c.min-end.result in
    let fits = run-few c.args.bytes.now c.args.cut end c.whole_len.result c.whole_len.ensures.within in
    open-behind c.args.bytes.now c.args.cut end c.whole_len.result c.args.room fits (omega arith) c.min-end.ensures c.whole_len.ensures.unbroken
