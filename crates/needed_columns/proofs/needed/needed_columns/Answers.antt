use Rattle.std.proofs.Common.{◌≡◌, ◌<◌, ap, ◌∙◌, sym, subst, List, Bool, length}
use Rattle.agg_terms.specs.Lists.{Each}
use Rattle.agg_defs.specs.Plans.{view_in}
use Rattle.agg_defs.specs.declared.plan.Call.{Call}
use Rattle.needed_columns.specs.Columns.{kept_schema, marks_of, narrowed}
use Rattle.needed_columns.proofs.Narrow.{arguments_low, keys_are_low, plan_fits}
use Rattle.needed_columns.proofs.Rows.{rows_same}
use Rattle.needed_columns.proofs.needed.needed_columns.Goals as goal

pub narrowed_plan-requires-clause-calls : goal.narrowed_plan-requires-clause-calls
narrowed_plan-requires-clause-calls c =
    let plan = c.args.plan.now in
    let are : c.in_ok-keep.keep.items ≡ marks_of (length c.args.schema.now.columns) (view_in plan) = c.in_ok-keep.ensures ∙ ap (λ n. marks_of n (view_in plan)) c.len.ensures in
    subst (λ (marks : List Bool). Each (λ (call : Call). Each (λ i. i < length marks) call.columns) plan.calls) (sym c.deref-2.ensures.value)
    (arguments_low c.args.schema.now plan c.in_ok-keep.keep.items c.requires.fits are)

pub narrowed_plan-requires-clause-keys : goal.narrowed_plan-requires-clause-keys
narrowed_plan-requires-clause-keys c =
    let plan = c.args.plan.now in
    let are : c.in_ok-keep.keep.items ≡ marks_of (length c.args.schema.now.columns) (view_in plan) = c.in_ok-keep.ensures ∙ ap (λ n. marks_of n (view_in plan)) c.len.ensures in
    subst (λ (marks : List Bool). Each (λ i. i < length marks) plan.keys) (sym c.deref-2.ensures.value)
    (keys_are_low c.args.schema.now plan c.in_ok-keep.keep.items c.requires.fits are)

pub returns-clause-fits : goal.returns-clause-fits
returns-clause-fits c =
    let plan = c.args.plan.now in
    let keep = c.in_ok-keep.keep.items in
    let are : keep ≡ marks_of (length c.args.schema.now.columns) (view_in plan) = c.in_ok-keep.ensures ∙ ap (λ n. marks_of n (view_in plan)) c.len.ensures in
    plan_fits c.args.schema.now c.in_ok-few.few plan c.in_ok-narrow.narrow keep c.requires.fits are
    (c.in_ok-few.ensures ∙ ap (λ (marks : List Bool). kept_schema marks c.args.schema.now) c.deref.ensures.value)
    (c.in_ok-narrow.ensures ∙ ap (λ (marks : List Bool). narrowed marks (view_in plan)) c.deref-2.ensures.value)

pub returns-clause-same : goal.returns-clause-same
returns-clause-same c =
    let plan = c.args.plan.now in
    let keep = c.in_ok-keep.keep.items in
    let are : keep ≡ marks_of (length c.args.schema.now.columns) (view_in plan) = c.in_ok-keep.ensures ∙ ap (λ n. marks_of n (view_in plan)) c.len.ensures in
    rows_same c.args.schema.now plan c.in_ok-narrow.narrow keep c.requires.fits are
    (c.in_ok-narrow.ensures ∙ ap (λ (marks : List Bool). narrowed marks (view_in plan)) c.deref-2.ensures.value)
