use Rattle.std.proofs.Common.{◌∙◌, ap, map, sym, true≢false}
use Rattle.std.proofs.lemmas.Result.{IfOk-weaker}
use Rattle.std.specs.Ordering.{int_cmp}
use Rattle.agg_terms.specs.Order.{ascending}
use Rattle.agg_terms.specs.Values.{Num}
use Rattle.agg_meaning.specs.Functions as terms
use Rattle.value_types.specs.Folds.{value_of}
use Rattle.list_leaves.proofs.Quantiles.{none_means, some_means}
use Rattle.list_leaves.proofs.quantile.QuantileState.finish.Goals as goal

pub returns-then-is_empty : goal.returns-then-is_empty
returns-then-is_empty c =
    none_means c.args.self.now.made c.args.self.now.numbers (value_of c.value_of_none.result) (c.is_empty.ensures.0 c.if-is_empty.true) c.value_of_none.ensures

pub returns : goal.returns
returns c =
    IfOk-weaker _ _ _
    (λ v h. some_means c.args.self.now.made c.args.self.now.numbers c.quantile_place-place.result (value_of v)
    (λ e. true≢false (sym (c.is_empty.ensures.1 e) ∙ c.if-is_empty.false))
    (c.quantile_place-place.ensures ∙ ap (terms.quantile_place c.args.self.now.made.level) c.len.ensures)
    (h ∙ ap (λ l. terms.arg c.quantile_place-place.result (map Num (ascending int_cmp l))) c.as_slice.ensures))
    c.value_at.ensures
