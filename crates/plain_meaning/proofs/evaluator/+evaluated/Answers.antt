use Rattle.std.proofs.Common.{◌≡◌, ◌∙◌, ap, ap₂, subst, map, refl, cond, take, arith, rules, to_z, of_z}
use Rattle.std.proofs.lemmas.List.{take_all}
use mir.Syntax.{w64}
use Rattle.agg_terms.specs.Types.{intervals}
use Rattle.agg_terms.specs.Values.{Cell, Nil}
use Rattle.agg_meaning.specs.Results.{can_be_null, default, result}
use Rattle.value_types.specs.declared.value.Value.TheVariants as value
use Rattle.value_types.specs.declared.value.Tree.TheVariants as tree
use Rattle.value_types.specs.Folds.{chain_of, tree_of, ty_of, value_of}
use Rattle.value_types.proofs.FoldLaws.{tree_of-Rows, value_of-Cell}
use Rattle.plain_rows.specs.Rows.{rows_of}
use Rattle.plain_meaning.specs.proving.Answers.{Answers}
use Rattle.plain_meaning.specs.Inward.{rows_at, rows_inside}
use Rattle.plain_meaning.proofs.Links.{array_ok, distinct_answers, if_ok, is_array, is_distinct, is_each, is_if, is_map, is_or_default, is_or_null, is_resample, is_state, or_default_answers, or_null_answers, state_answers}
use Rattle.plain_meaning.proofs.Parts.{each_answers, keys_turn, map_answers, parts_turn, resample_answers}
use Rattle.plain_meaning.proofs.evaluator.+evaluated.Goals as goal

pub loop-place-preserved : goal.loop-place-preserved
loop-place-preserved t c =
    let added = c.in_ok-gathered-in-ForEach.ensures in
    parts_turn (chain_of c.in-ForEach.of) (chain_of c.get-in-loop-place.result.now) (map ty_of c.as_slice-inner.result.now) (map ty_of c.as_slice-inner.result.now)
    (λ i. rows_at i (rows_of c.args.rows.now)) c.loop-place.place (rows_of c.as_slice-in-loop-place.result.now)
    c.loop-place.gathered c.in_ok-gathered-in-ForEach.gathered c.in_ok-answer-in-ForEach.answer
    c.loop-place.invariant (ap chain_of c.get-in-loop-place.ensures) refl
    (ap rows_of c.as_slice-in-loop-place.ensures ∙ c.in_ok-part-in-ForEach.ensures) c.in_ok-answer-in-ForEach.ensures added.values added.is_fed added.states

pub loop-key-preserved : goal.loop-key-preserved
loop-key-preserved t c =
    let added = c.in_ok-gathered-in-MapOf.ensures in
    keys_turn (chain_of c.in-MapOf.of) (chain_of c.get-in-loop-key.result.now) (map ty_of c.as_slice-inner-in-MapOf.result.now) (map ty_of c.as_slice-inner-in-MapOf.result.now)
    (rows_of c.args.rows.now) (rows_of c.as_slice-in-loop-key.result.now) c.as_slice-keys.result.now c.loop-key.key-index c.key-item.result
    c.loop-key.gathered c.in_ok-gathered-in-MapOf.gathered c.in_ok-answer-in-MapOf.answer
    c.loop-key.invariant (ap chain_of c.get-in-loop-key.ensures) refl c.loop-key-test.true c.key-item.is
    (ap rows_of c.as_slice-in-loop-key.ensures ∙ c.in_ok-part-in-MapOf.ensures) c.in_ok-answer-in-MapOf.ensures added.pairs added.is_fed added.entries

pub loop-interval-preserved : goal.loop-interval-preserved
loop-interval-preserved t c =
    let added = c.in_ok-gathered-in-Resample.ensures in
    let start_is : to_z w64 (of_z w64 c.in-Resample.start) ≡ c.in-Resample.start = search rules in
    let end_is : to_z w64 (of_z w64 c.in-Resample.end) ≡ c.in-Resample.end = search rules in
    parts_turn (chain_of c.in-Resample.of) (chain_of c.get-in-loop-interval.result.now) (map ty_of c.front_types-inner.result.now) (map ty_of c.front_types-inner.result.now)
    (λ j. rows_inside c.in-Resample.start c.in-Resample.end c.in-Resample.step j (rows_of c.args.rows.now)) c.loop-interval.interval (rows_of c.as_slice-in-loop-interval.result.now)
    c.loop-interval.gathered c.in_ok-gathered-in-Resample.gathered c.in_ok-answer-in-Resample.answer
    c.loop-interval.invariant (ap chain_of c.get-in-loop-interval.ensures) refl
    (ap rows_of c.as_slice-in-loop-interval.ensures ∙ c.in_ok-part-in-Resample.ensures
    ∙ ap₂ (λ a b. rows_inside a b c.in-Resample.step c.loop-interval.interval (rows_of c.args.rows.now)) start_is end_is) c.in_ok-answer-in-Resample.ensures added.values added.is_fed added.states

pub returns-in_ok-met-in-If : goal.returns-in_ok-met-in-If
returns-in_ok-met-in-If t c =
    if_ok (chain_of c.args.chain.now) (chain_of c.get.result.now) (map ty_of c.args.types.now) (map ty_of c.front_types.result.now) (rows_of c.args.rows.now) (rows_of c.as_slice.result.now) c.evaluated.result
    (is_if c.args.chain.now c.in-If.of c.get.result.now c.get.ensures c.in-If.is) c.front_types.ensures (ap rows_of c.as_slice.ensures ∙ c.in_ok-met-in-If.ensures) c.evaluated.ensures

pub returns-in_ok-elements-in-Array : goal.returns-in_ok-elements-in-Array
returns-in_ok-elements-in-Array t c =
    array_ok (chain_of c.args.chain.now) (chain_of c.get-in-Array.result.now) (map ty_of c.args.types.now) (map ty_of c.as_slice-in-Array.result.now)
    (rows_of c.args.rows.now) (rows_of c.as_slice-in-Array-2.result.now) c.evaluated-in-Array.result
    (is_array c.args.chain.now c.in-Array.of c.get-in-Array.result.now c.get-in-Array.ensures c.in-Array.is)
    (ap (map ty_of) c.as_slice-in-Array.ensures ∙ c.in_ok-inner-in-Array.ensures) (ap rows_of c.as_slice-in-Array-2.ensures ∙ c.in_ok-elements-in-Array.ensures) c.evaluated-in-Array.ensures

pub returns-in_ok-or_null-in-OrNull : goal.returns-in_ok-or_null-in-OrNull
returns-in_ok-or_null-in-OrNull t c =
    let ts = map ty_of c.args.types.now in
    let a = c.in_ok-answer-in-OrNull.answer in
    or_null_answers (chain_of c.args.chain.now) (chain_of c.in-OrNull.of) ts (rows_of c.args.rows.now) a c.in_ok-or_null-in-OrNull.or_null
    (is_or_null c.args.chain.now c.in-OrNull.of c.in-OrNull.of refl c.in-OrNull.is)
    (subst (λ x. Answers (chain_of x) ts (rows_of c.args.rows.now) a) c.get-in-OrNull.ensures c.in_ok-answer-in-OrNull.ensures)
    (c.in_ok-or_null-in-OrNull.ensures ∙ ap (λ x. cond a.is_fed (value_of a.value) (cond (can_be_null (result (chain_of x) ts)) Nil (value_of a.value))) c.get-in-OrNull-2.ensures)

pub returns-in_ok-or_default-in-OrDefault : goal.returns-in_ok-or_default-in-OrDefault
returns-in_ok-or_default-in-OrDefault t c =
    let ts = map ty_of c.args.types.now in
    let a = c.in_ok-answer-in-OrDefault.answer in
    or_default_answers (chain_of c.args.chain.now) (chain_of c.in-OrDefault.of) ts (rows_of c.args.rows.now) a c.in_ok-or_default-in-OrDefault.or_default
    (is_or_default c.args.chain.now c.in-OrDefault.of c.in-OrDefault.of refl c.in-OrDefault.is)
    (subst (λ x. Answers (chain_of x) ts (rows_of c.args.rows.now) a) c.get-in-OrDefault.ensures c.in_ok-answer-in-OrDefault.ensures)
    (c.in_ok-or_default-in-OrDefault.ensures ∙ ap (λ x. cond a.is_fed (value_of a.value) (default (result (chain_of x) ts))) c.get-in-OrDefault-2.ensures)

pub returns-in_ok-answer-in-Distinct : goal.returns-in_ok-answer-in-Distinct
returns-in_ok-answer-in-Distinct t c =
    let ts = map ty_of c.args.types.now in
    let first = c.in_ok-first-in-Distinct.first in
    let a = c.in_ok-answer-in-Distinct.answer in
    distinct_answers (chain_of c.args.chain.now) (chain_of c.get-in-Distinct.result.now) ts (rows_of c.args.rows.now) (rows_of first) a (tree.Rows first)
    (is_distinct c.args.chain.now c.in-Distinct.of c.get-in-Distinct.result.now c.get-in-Distinct.ensures c.in-Distinct.is) c.in_ok-first-in-Distinct.ensures
    (subst (λ rows. Answers (chain_of c.get-in-Distinct.result.now) ts (rows_of rows) a) c.as_slice-in-Distinct.ensures c.in_ok-answer-in-Distinct.ensures) (tree_of-Rows first)

pub returns-in_ok-cell-in-State : goal.returns-in_ok-cell-in-State
returns-in_ok-cell-in-State t c =
    let cell = c.in_ok-cell-in-State.cell in
    state_answers (chain_of c.args.chain.now) (chain_of c.get-in-State.result.now) (map ty_of c.args.types.now) (rows_of c.args.rows.now) c.in_ok-answer-in-State.answer (value.Cell cell)
    (is_state c.args.chain.now c.in-State.of c.get-in-State.result.now c.get-in-State.ensures c.in-State.is) c.in_ok-answer-in-State.ensures
    (value_of-Cell cell ∙ ap (λ s. Cell (tree_of s)) c.in_ok-cell-in-State.ensures)

pub returns-after-loop-place : goal.returns-after-loop-place
returns-after-loop-place t c =
    let all : c.loop-place.place ≡ c.in_ok-count-in-ForEach.count = omega (arith, c.loop-place.auto.place-end, c.loop-place-test.false) in
    each_answers (chain_of c.args.chain.now) (chain_of c.in-ForEach.of) (map ty_of c.args.types.now) (map ty_of c.as_slice-inner.result.now) (rows_of c.args.rows.now)
    c.loop-place.place c.loop-place.gathered c.listed.result
    (is_each c.args.chain.now c.in-ForEach.of c.in-ForEach.of refl c.in-ForEach.is)
    (ap (map ty_of) c.as_slice-inner.ensures ∙ c.in_ok-elements-in-ForEach.ensures) (all ∙ c.in_ok-count-in-ForEach.ensures)
    c.loop-place.invariant c.listed.ensures.value c.listed.ensures.is_fed c.listed.ensures.state

pub returns-after-loop-key : goal.returns-after-loop-key
returns-after-loop-key t c =
    map_answers (chain_of c.args.chain.now) (chain_of c.in-MapOf.of) (map ty_of c.args.types.now) (map ty_of c.as_slice-inner-in-MapOf.result.now) (rows_of c.args.rows.now)
    (map value_of (take c.loop-key.key-index c.as_slice-keys.result.now)) c.loop-key.gathered c.mapped.result
    (is_map c.args.chain.now c.in-MapOf.of c.in-MapOf.of refl c.in-MapOf.is)
    (ap (map ty_of) c.as_slice-inner-in-MapOf.ensures ∙ c.in_ok-items-in-MapOf.ensures)
    (ap (map value_of) (take_all c.loop-key.key-index c.as_slice-keys.result.now (omega (arith, c.loop-key-test.false)) ∙ c.as_slice-keys.ensures) ∙ c.in_ok-different-in-MapOf.ensures)
    c.loop-key.invariant c.mapped.ensures.value c.mapped.ensures.is_fed c.mapped.ensures.state

pub returns-after-loop-interval : goal.returns-after-loop-interval
returns-after-loop-interval t c =
    let start_is : to_z w64 (of_z w64 c.in-Resample.start) ≡ c.in-Resample.start = search rules in
    let end_is : to_z w64 (of_z w64 c.in-Resample.end) ≡ c.in-Resample.end = search rules in
    let all : c.loop-interval.interval ≡ c.intervals-count.result = omega (arith, c.loop-interval.auto.interval-end, c.loop-interval-test.false) in
    resample_answers c.in-Resample.start c.in-Resample.end c.in-Resample.step (chain_of c.args.chain.now) (chain_of c.in-Resample.of) (map ty_of c.args.types.now) (map ty_of c.front_types-inner.result.now) (rows_of c.args.rows.now)
    c.loop-interval.interval c.loop-interval.gathered c.listed-in-Resample.result
    (is_resample c.args.chain.now c.in-Resample.of c.in-Resample.of refl c.in-Resample.start c.in-Resample.end c.in-Resample.step c.in-Resample.is)
    c.front_types-inner.ensures (all ∙ c.intervals-count.ensures ∙ ap₂ (λ a b. intervals a b c.in-Resample.step) start_is end_is)
    c.loop-interval.invariant c.listed-in-Resample.ensures.value c.listed-in-Resample.ensures.is_fed c.listed-in-Resample.ensures.state
