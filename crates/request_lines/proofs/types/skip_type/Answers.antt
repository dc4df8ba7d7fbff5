use Rattle.line_tokens.specs.Views.{token_seen}
use Rattle.request_lines.proofs.TypesSkipped.{skip_on, skipped}
use Rattle.request_lines.proofs.types.skip_type.Goals as goal

pub loop-goal-preserved : goal.loop-goal-preserved
loop-goal-preserved c =
    skip_on c.args.rest c.loop-goal.left c.in-Some-first.first.behind c.loop-goal.goals c.pop.new.self c.in-Some-goals_for.more.now c.extend_from_slice.new.self c.in-Some.goal (token_seen c.in-Some-first.first.token) c.in-Some-first.first.at
    c.loop-goal.invariant c.in-Some.ensures c.in-Some-first.ensures.letters c.in-Some-first.ensures.further c.in-Some-goals_for.ensures c.in_ok-extend_from_slice.ensures.ok

pub returns : goal.returns
returns c = skipped c.args.rest c.loop-goal.left c.loop-goal.goals c.loop-goal.invariant c.in_default.ensures.0
