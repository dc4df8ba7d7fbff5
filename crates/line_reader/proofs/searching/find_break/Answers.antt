use Rattle.std.proofs.Common.{arith}
use Rattle.line_reader.proofs.Next.{long-within, long-over, large-cut, large-few, is-newline, not-newline}
use Rattle.line_reader.proofs.searching.find_break.Goals as goal

pub returns-else-len-most_line : goal.returns-else-len-most_line
returns-else-len-most_line c = long-within c.args.most_line c.args.room c.args.tail.now (omega arith) c.requires.unbroken (omega arith)

pub returns-then-len-most_line-2 : goal.returns-then-len-most_line-2
returns-then-len-most_line-2 c = large-few c.args.most_line c.args.room c.args.tail.now (omega arith) c.requires.unbroken (omega arith)

pub returns-then-tail-room-eq10 : goal.returns-then-tail-room-eq10
returns-then-tail-room-eq10 c =
    large-cut c.args.most_line c.args.room c.args.tail.now (omega arith) c.requires.unbroken (is-newline _ c.if-tail-room-eq10.true) (omega arith)

pub returns-else-tail-room-eq10 : goal.returns-else-tail-room-eq10
returns-else-tail-room-eq10 c =
    long-over c.args.most_line c.args.room c.args.tail.now (omega arith) c.requires.unbroken (not-newline _ c.if-tail-room-eq10.false) (omega arith)
