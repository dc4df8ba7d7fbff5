use Rattle.std.proofs.Common.{sym, ◌∙◌}
use Rattle.request_lines.proofs.Steps.{keyword_fails, keyword_other}
use Rattle.request_lines.proofs.marks.skip_keyword.Goals as goal
use Rattle.request_lines.proofs.marks.skip_keyword.Goals.{in_default-via-in-Some+else-is, in_default-via-in_default}

pub returns-in_default : goal.returns-in_default
returns-in_default c =
    elim c.in_default.branch [
      | in_default-via-in-Some+else-is w ↦ keyword_other c.args.name.now _ _ _ c.args.rest _ c.fault.ensures w.in-Some.ensures.letters (sym w.is.ensures ∙ w.if-is.false)
      | in_default-via-in_default w ↦ keyword_fails c.args.name.now c.args.rest _ c.fault.ensures w.in_default.ensures.letters
    ]
