-- Answers of the goals that the search leaves open in boxed_leaves::state::BoxedState::merge.
use Rattle.std.proofs.Common.{sym, ap, ◌∙◌}
use Rattle.agg_terms.specs.Chains.{Str, Ty}
use Rattle.agg_meaning.specs.States.{Held}
use Rattle.event_leaves.specs.Funnels as funnel
use Rattle.event_leaves.specs.Matches as matches
use Rattle.list_leaves.specs.Arrays as array
use Rattle.list_leaves.specs.Quantiles as quantile
use Rattle.set_leaves.specs.Sets as set
use Rattle.boxed_leaves.specs.Boxed.{held}
use Rattle.boxed_leaves.proofs.Arms.{array_at, funnel_at, joins_at, joins_one, made_alike, match_at, only_array, only_best, only_funnel, only_match, only_quantile, only_set, quantile_at, set_at}
use Rattle.boxed_leaves.proofs.Making.{number_of, one_kind}
use Rattle.boxed_leaves.proofs.state.BoxedState.merge.Goals as goal

pub unreachable-requires : goal.unreachable-requires
unreachable-requires c = only_best c.args.later.now (sym (one_kind c.args.self.now c.args.later.now c.requires.same) ∙ ap number_of c.in-Best.is) c.in_default.not-Best

pub unreachable-requires-in_default-later : goal.unreachable-requires-in_default-later
unreachable-requires-in_default-later c = only_array c.args.later.now (sym (one_kind c.args.self.now c.args.later.now c.requires.same) ∙ ap number_of c.in-Array.is) c.in_default-later.not-Array

pub unreachable-requires-in_default-later-2 : goal.unreachable-requires-in_default-later-2
unreachable-requires-in_default-later-2 c = only_quantile c.args.later.now (sym (one_kind c.args.self.now c.args.later.now c.requires.same) ∙ ap number_of c.in-Quantile.is) c.in_default-later-2.not-Quantile

pub unreachable-requires-in_default-later-3 : goal.unreachable-requires-in_default-later-3
unreachable-requires-in_default-later-3 c = only_set c.args.later.now (sym (one_kind c.args.self.now c.args.later.now c.requires.same) ∙ ap number_of c.in-Set.is) c.in_default-later-3.not-Set

pub unreachable-requires-in_default-later-4 : goal.unreachable-requires-in_default-later-4
unreachable-requires-in_default-later-4 c = only_funnel c.args.later.now (sym (one_kind c.args.self.now c.args.later.now c.requires.same) ∙ ap number_of c.in-Funnel.is) c.in_default-later-4.not-Funnel

pub unreachable-requires-in_default-later-5 : goal.unreachable-requires-in_default-later-5
unreachable-requires-in_default-later-5 c = only_match c.args.later.now (sym (one_kind c.args.self.now c.args.later.now c.requires.same) ∙ ap number_of c.in-Match.is) c.in_default-later-5.not-Match

pub merge-requires-in-Set-later : goal.merge-requires-in-Set-later
merge-requires-in-Set-later c = record {
  same = made_alike (held Str c.args.self.now) (held Str c.args.later.now) (set.held c.deref_mut-in-Set-later.result.now) (set.held c.deref-in-Set-later.result.now)
      (set_at c.args.self.now c.in-Set.of c.deref_mut-in-Set-later.result.now c.in-Set.is c.deref_mut-in-Set-later.ensures.value Str)
      (set_at c.args.later.now c.in-Set-later.rows c.deref-in-Set-later.result.now c.in-Set-later.is c.deref-in-Set-later.ensures Str) (c.requires.same Str);
}

pub merge-requires-in-Funnel-later : goal.merge-requires-in-Funnel-later
merge-requires-in-Funnel-later c = record {
  same = made_alike (held Str c.args.self.now) (held Str c.args.later.now) (funnel.held c.deref_mut-in-Funnel-later.result.now) (funnel.held c.deref-in-Funnel-later.result.now)
      (funnel_at c.args.self.now c.in-Funnel.of c.deref_mut-in-Funnel-later.result.now c.in-Funnel.is c.deref_mut-in-Funnel-later.ensures.value Str)
      (funnel_at c.args.later.now c.in-Funnel-later.rows c.deref-in-Funnel-later.result.now c.in-Funnel-later.is c.deref-in-Funnel-later.ensures Str) (c.requires.same Str);
}

pub merge-requires-in-Match-later : goal.merge-requires-in-Match-later
merge-requires-in-Match-later c = record {
  same = made_alike (held Str c.args.self.now) (held Str c.args.later.now) (matches.held c.deref_mut-in-Match-later.result.now) (matches.held c.deref-in-Match-later.result.now)
      (match_at c.args.self.now c.in-Match.of c.deref_mut-in-Match-later.result.now c.in-Match.is c.deref_mut-in-Match-later.ensures.value Str)
      (match_at c.args.later.now c.in-Match-later.rows c.deref-in-Match-later.result.now c.in-Match-later.is c.deref-in-Match-later.ensures Str) (c.requires.same Str);
}

pub returns-in-Array-later-clause-rows : goal.returns-in-Array-later-clause-rows
returns-in-Array-later-clause-rows c =
    joins_at c.merge-in-Array-later.result (λ (t : Ty). held t c.args.self.now) (λ (t : Ty). held t c.args.later.now) (λ (t : Ty). array.held t c.deref_mut-in-Array-later.result.now) (λ (t : Ty). array.held t c.deref-in-Array-later.result.now)
    (λ (t : Ty). array.held t c.merge-in-Array-later.new.self)
    (array_at c.args.self.now c.in-Array.of c.deref_mut-in-Array-later.result.now c.in-Array.is c.deref_mut-in-Array-later.ensures.value)
    (array_at c.args.later.now c.in-Array-later.rows c.deref-in-Array-later.result.now c.in-Array-later.is c.deref-in-Array-later.ensures) c.merge-in-Array-later.ensures.rows

pub returns-in-Array-later-clause-made : goal.returns-in-Array-later-clause-made
returns-in-Array-later-clause-made c = λ t.
    c.merge-in-Array-later.ensures.made t
    ∙ ap (λ (z : Held). z.made) (sym (array_at c.args.self.now c.in-Array.of c.deref_mut-in-Array-later.result.now c.in-Array.is c.deref_mut-in-Array-later.ensures.value t))

pub returns-in-Quantile-later-clause-rows : goal.returns-in-Quantile-later-clause-rows
returns-in-Quantile-later-clause-rows c =
    joins_one c.merge-in-Quantile-later.result (λ (t : Ty). held t c.args.self.now) (λ (t : Ty). held t c.args.later.now) (quantile.held c.deref_mut-in-Quantile-later.result.now) (quantile.held c.deref-in-Quantile-later.result.now)
    (quantile.held c.merge-in-Quantile-later.new.self)
    (quantile_at c.args.self.now c.in-Quantile.of c.deref_mut-in-Quantile-later.result.now c.in-Quantile.is c.deref_mut-in-Quantile-later.ensures.value)
    (quantile_at c.args.later.now c.in-Quantile-later.rows c.deref-in-Quantile-later.result.now c.in-Quantile-later.is c.deref-in-Quantile-later.ensures) c.merge-in-Quantile-later.ensures.rows
