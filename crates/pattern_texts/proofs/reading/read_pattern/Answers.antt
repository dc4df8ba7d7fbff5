use Rattle.std.proofs.Common.{subst}
use Rattle.pattern_texts.specs.Answer.{Gives}
use Rattle.pattern_texts.proofs.Law.{answered, law_only, reader_is}
use Rattle.pattern_texts.proofs.reading.read_pattern.Goals as goal

pub returns : goal.returns
returns c = record {
  exact = answered c.args.conditions c.requires.0 c.requires.1 c.args.text.now c.read.result c.read.ensures;
  only = λ p spelled. subst (λ r. Gives c.read.result r) (law_only c.args.conditions c.requires.1 c.args.text.now p spelled) c.read.ensures;
  reader = subst (λ r. Gives c.read.result r) (reader_is c.args.conditions c.requires.0 c.requires.1 c.args.text.now) c.read.ensures;
}
