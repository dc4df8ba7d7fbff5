use Rattle.std.proofs.Common.{◌≡◌, ◌∙◌, rules, to_z, of_z}
use Rattle.std.specs.Int.{w128}
use Rattle.request_lines.proofs.ScriptsRead.{number_ends, session_read}
use Rattle.request_lines.proofs.script.session_in.Goals as goal

pub returns-in_default : goal.returns-in_default
returns-in_default c = number_ends c.args.rest c.fault.result c.fault.ensures c.in_default.ensures.letters

pub returns : goal.returns
returns c =
    let same : to_z w128 (of_z w128 c.integer-2.result) ≡ c.integer-2.result = search rules in
    session_read c.args.rest c.in-Some.first.behind c.in-Some.first.digits.now c.in-Some.first.at (to_z w128 (of_z w128 c.integer-2.result)) c.in-Some.ensures.letters (same ∙ c.integer-2.ensures) c.in_ok-end.ensures
