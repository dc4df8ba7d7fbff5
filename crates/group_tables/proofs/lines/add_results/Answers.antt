use Rattle.std.proofs.Common.{◌++◌, ◌∷◌, [], ◌∙◌, ap, ap₂, map, sym, take, append_assoc}
use Rattle.std.proofs.lemmas.List.{map_more, map_push}
use Rattle.value_types.specs.Folds.{ty_of}
use Rattle.group_tables.specs.proving.Lines.{result_of}
use Rattle.group_tables.proofs.lines.add_results.Goals as goal

pub loop-i-preserved : goal.loop-i-preserved
loop-i-preserved c =
    let calls = c.args.calls.now in
    let old = map ty_of c.args.types.now in
    ap (map ty_of) c.in_ok-push.ensures.ok
    ∙ map_push ty_of c.loop-i.types c.in_ok-result_type.field-0
    ∙ ap₂ (λ l x. l ++ x ∷ []) c.loop-i.invariant (c.in_ok-result_type.ensures ∙ ap result_of c.index-calls-i.is)
    ∙ append_assoc old (map result_of (take c.loop-i.i calls)) _
    ∙ ap (λ l. old ++ l) (sym (map_more result_of calls c.loop-i.i c.index-calls-i.result c.loop-i-test.true))
