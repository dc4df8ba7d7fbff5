use Rattle.line_reader.proofs.Found.{finds-line}
use Rattle.line_reader.proofs.awaiting.find_line.Goals as goal

pub returns : goal.returns
returns c = finds-line c.args.bytes.now c.args.room c.min-end.result c.newline.result c.min-end.ensures c.newline.ensures
