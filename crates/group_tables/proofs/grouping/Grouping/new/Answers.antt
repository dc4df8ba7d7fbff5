use Rattle.std.proofs.Common.{◌<◌, ◌∙◌, ap, length, map, subst, sym}
use Rattle.std.specs.List.{All}
use Rattle.agg_defs.specs.Plans.{call_in}
use Rattle.group_tables.proofs.Agreeing.{keys-in}
use Rattle.group_tables.proofs.Facts.{made-ready, same-view}
use Rattle.group_tables.proofs.grouping.Grouping.new.Goals as goal

pub types_at-requires : goal.types_at-requires
types_at-requires c =
    subst (All (λ k. k < length c.args.types.now)) (sym c.as_slice-plan_keys.ensures) (keys-in c.args.types.now c.args.plan.now.keys c.requires.keys)

pub returns-clause-view : goal.returns-clause-view
returns-clause-view c =
    same-view (c.in_ok-keys.ensures ∙ c.as_slice-plan_keys.ensures) (c.in_ok-calls.ensures ∙ ap (map call_in) c.as_slice-plan_calls.ensures)

pub returns-clause-ready : goal.returns-clause-ready
returns-clause-ready c =
    made-ready _ c.args.plan.now c.args.types.now c.in_ok-types.ensures
    (same-view (c.in_ok-keys.ensures ∙ c.as_slice-plan_keys.ensures) (c.in_ok-calls.ensures ∙ ap (map call_in) c.as_slice-plan_calls.ensures)) c.requires
    c.as_slice-plan_keys.result.now c.in_ok-keys.ensures c.in_ok-key_types.ensures
