use Rattle.std.proofs.Common.{ap, sym, ◌∙◌}
use Rattle.std.proofs.Common.{Some, false}
use Rattle.tsv_values.specs.proving.Reading.{behind_quote}
use Rattle.tsv_values.proofs.Closing.{at_backslash, at_mark, at_quote, lone_backslash, no_quote, special_there}
use Rattle.tsv_values.proofs.quotes.behind_quote.Goals as goal

pub returns-then-marked-eq39 : goal.returns-then-marked-eq39
returns-then-marked-eq39 c =
    let marked = c.split_at.result.1.now in
    let there = special_there c.loop-at.rest.now c.in-Some.at (sym c.in-Some.ensures) marked c.split_at.ensures.back in
    sym (at_mark c.args.text.now c.loop-at.rest.now marked c.in-Some.at (sym c.in-Some.ensures) c.split_at.ensures.back c.loop-at.invariant ∙ at_quote marked there.0 c.if-marked-eq39.true ∙ ap Some (sym c.split_at-then-marked-eq39.ensures.back))

pub returns-then-marked-lt2 : goal.returns-then-marked-lt2
returns-then-marked-lt2 c =
    let marked = c.split_at.result.1.now in
    let there = special_there c.loop-at.rest.now c.in-Some.at (sym c.in-Some.ensures) marked c.split_at.ensures.back in
    sym (at_mark c.args.text.now c.loop-at.rest.now marked c.in-Some.at (sym c.in-Some.ensures) c.split_at.ensures.back c.loop-at.invariant ∙ lone_backslash marked there.0 c.if-marked-lt2.true there.1 c.if-marked-eq39.false)

pub loop-at-preserved : goal.loop-at-preserved
loop-at-preserved c =
    let marked = c.split_at.result.1.now in
    let there = special_there c.loop-at.rest.now c.in-Some.at (sym c.in-Some.ensures) marked c.split_at.ensures.back in
    sym (at_mark c.args.text.now c.loop-at.rest.now marked c.in-Some.at (sym c.in-Some.ensures) c.split_at.ensures.back c.loop-at.invariant ∙ at_backslash marked c.if-marked-lt2.false there.1 c.if-marked-eq39.false ∙ ap (λ t. behind_quote false t) (sym c.split_at-in-Some.ensures.back))

pub returns : goal.returns
returns c = sym (sym c.loop-at.invariant ∙ no_quote c.loop-at.rest.now (sym c.in_default.ensures))
