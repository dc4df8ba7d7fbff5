use Rattle.std.proofs.Common.{ap, sym, ◌∙◌, ◌∷◌, subst}
use Rattle.typed_columns.specs.Views.{view_of}
use Rattle.quick_rows.specs.Taking.{TakesElements, TakesFirst, numbers_seen, texts_seen}
use Rattle.quick_rows.proofs.list.take_inside.Goals as goal

pub returns-in-Numbers : goal.returns-in-Numbers
returns-in-Numbers c =
    subst (λ x. TakesFirst TakesElements x (91 ∷ c.args.inside.now) (numbers_seen c.take_numbers.new.numbers) c.take_numbers.result) (ap view_of (sym c.in-Numbers.is) ∙ c.elements.view_is) c.take_numbers.ensures

pub returns-in-Texts : goal.returns-in-Texts
returns-in-Texts c =
    subst (λ x. TakesFirst TakesElements x (91 ∷ c.args.inside.now) (texts_seen c.take_texts.new.texts) c.take_texts.result) (ap view_of (sym c.in-Texts.is) ∙ c.elements.view_is) c.take_texts.ensures
