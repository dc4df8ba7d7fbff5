use Rattle.std.proofs.Common.{ap, sym, ◌∙◌, subst}
use Rattle.typed_columns.specs.Views.{view_of}
use Rattle.quick_rows.specs.Taking.{TakesFilled, TakesFirst, numbers_seen, texts_seen}
use Rattle.quick_rows.proofs.FirstLaws.{numbers_first, texts_first}
use Rattle.quick_rows.proofs.field.take_value.Goals as goal

pub returns-in-Numbers : goal.returns-in-Numbers
returns-in-Numbers c =
    subst (λ x. TakesFirst TakesFilled x c.args.text.now (numbers_seen c.take_number.new.numbers) c.take_number.result) (ap view_of (sym c.in-Numbers.is) ∙ c.values.view_is)
    (numbers_first c.in-Numbers.numbers c.take_number.new.numbers c.args.text.now c.take_number.result c.take_number.ensures)

pub returns-in-Texts : goal.returns-in-Texts
returns-in-Texts c =
    subst (λ x. TakesFirst TakesFilled x c.args.text.now (texts_seen c.take_text.new.texts) c.take_text.result) (ap view_of (sym c.in-Texts.is) ∙ c.values.view_is)
    (texts_first c.in-Texts.texts c.take_text.new.texts c.args.text.now c.take_text.result c.take_text.ensures)
