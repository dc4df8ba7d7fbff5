use Rattle.std.proofs.Common.{map, ap, ◌∙◌}
use Rattle.agg_typing.specs.Legal.{are_legal_types}
use Rattle.line_forms.specs.Views.{name_of}
use Rattle.request_rules.specs.Selects.{named_types}
use Rattle.request_rules.specs.Views.{column_of, named_of}
use Rattle.request_rules.proofs.KnownTypes.{known_legal}
use Rattle.request_rules.proofs.calls.judge_call.Goals as goal

pub resolve_call-requires-clause-legal : goal.resolve_call-requires-clause-legal
resolve_call-requires-clause-legal c =
    let names = map name_of c.as_slice.result.now in
    let all = map named_of c.in_ok-found.found.items in
    ap (λ found. are_legal_types (named_types (map named_of found))) c.deref.ensures.value
    ∙ known_legal (map column_of c.args.columns.now) names all c.requires.legal c.in_ok-found.ensures.known
