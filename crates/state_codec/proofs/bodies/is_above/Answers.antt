use Rattle.std.proofs.Common.{◌≡◌, ap, rules, sym, ◌∙◌}
use Rattle.std.specs.Ordering.{is_lt}
use Rattle.agg_terms.specs.Order.{compare}
use Rattle.value_types.specs.Folds.{entry_of, value_of}
use Rattle.state_codec.proofs.Last.{entry_key, last_key}
use Rattle.state_codec.proofs.bodies.is_above.Goals as goal

pub returns-in-Some : goal.returns-in-Some
returns-in-Some c =
    let last = c.in-Some.last.now in
    let key = value_of c.args.key.now in
    let compared : c.is_lt.result ≡ is_lt (compare (value_of last.key) key) = search rules in
    compared
    ∙ ap (λ v. is_lt (compare v key)) (sym (entry_key last))
    ∙ sym (last_key entry_of compare c.args.earlier.now c.in-Some.field-0-1.now last key c.in-Some.ensures.cases.0)
