use Rattle.shape_types.proofs.ShortTexts.{short_texts}
use Rattle.shape_types.proofs.laws.law_short_texts_are_countable.Goals as goal

pub returns : goal.returns
returns c = short_texts
