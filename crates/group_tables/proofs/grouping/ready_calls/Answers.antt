use Rattle.std.proofs.Common.{◌++◌, ◌∷◌, [], ◌∙◌, ap, ap₂, map, sym}
use Rattle.std.proofs.lemmas.List.{map_more, map_push}
use Rattle.agg_defs.specs.Plans.{call_in}
use Rattle.group_tables.specs.Calls.{call_of}
use Rattle.group_tables.proofs.grouping.ready_calls.Goals as goal

pub loop-i-preserved : goal.loop-i-preserved
loop-i-preserved c =
    ap (map call_of) c.in_ok-push.ensures.ok
    ∙ map_push call_of c.loop-i.ready c.in_ok-ready_call.field-0
    ∙ ap₂ (λ l x. l ++ x ∷ []) c.loop-i.invariant (c.in_ok-ready_call.ensures ∙ ap call_in c.index-calls-i.is)
    ∙ sym (map_more call_in c.args.calls.now c.loop-i.i c.index-calls-i.result c.loop-i-test.true)
