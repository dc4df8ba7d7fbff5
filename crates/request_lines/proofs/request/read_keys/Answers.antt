use Rattle.std.proofs.Common.{sym, ap, ◌∙◌, codes}
use Rattle.std.specs.Str.{bytes_eq}
use Rattle.request_lines.proofs.CallsRead.{keys_told, no_keys, same_word}
use Rattle.request_lines.proofs.request.read_keys.Goals.{in_default-via-in-Some+else-is, in_default-via-in_default}
use Rattle.request_lines.proofs.request.read_keys.Goals as goal

pub returns-in_ok-keys-in-Some : goal.returns-in_ok-keys-in-Some
returns-in_ok-keys-in-Some c =
    keys_told c.args.rest c.in-Some.first.behind c.in_ok-keys-in-Some.keys c.in-Some.first.word.now c.in-Some.first.at c.read_names.result c.in-Some.ensures.letters (sym c.is.ensures ∙ c.if-is.true) c.in-Some.ensures.further
    c.in_ok-keys-in-Some.ensures.0 c.in_ok-keys-in-Some.ensures.1 c.in_ok-keys-in-Some.ensures.2 c.read_names.ensures

pub returns-in_default : goal.returns-in_default
returns-in_default c =
    no_keys c.args.rest c.new.result c.new.ensures (λ name at more e. elim c.in_default.branch [
      | in_default-via-in-Some+else-is w ↦ ap (λ x. bytes_eq x (codes "GROUP")) (same_word _ _ _ _ _ _ _ e w.in-Some.ensures.letters) ∙ (sym w.is.ensures ∙ w.if-is.false)
      | in_default-via-in_default w ↦ absurd (w.in_default.ensures.letters name at more e)
    ])
