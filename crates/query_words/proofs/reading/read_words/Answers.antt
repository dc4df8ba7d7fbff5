use Rattle.std.proofs.Common.{sym, ◌∙◌}
use Rattle.query_words.specs.Words.{texts_of}
use Rattle.query_words.proofs.Ranges.{in_range}
use Rattle.query_words.proofs.reading.read_words.Goals as goal

pub returns : goal.returns
returns c = record {
  command = sym c.ok_or.ensures.ok_part ∙ c.command.ensures;
  ranges = in_range c.ok_or.result (texts_of c.args.words.now) (sym c.ok_or.ensures.ok_part ∙ c.command.ensures);
}
