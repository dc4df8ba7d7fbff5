-- A short line spells few things of each kind.
use Rattle.std.proofs.Common.{ℕ, ◌<◌, ◌^◌, List, length, map, Bool, arith}
use Rattle.std.proofs.lemmas.List.{length-append}
use Rattle.line_forms.specs.Letters.{divided}
use Rattle.line_forms.specs.ScriptLines.{LineText, view, session, insert, load, read, states, line_signs, Line, View, Session, Insert, Load, Read, States, IsLineOf}
use Rattle.line_forms.specs.Selects.{call_signs, group_signs}
use Rattle.request_text.proofs.ShortLines.{calls_few, few_signs}
use Rattle.script_text.specs.Forms.{SpellsLineIn}
use Rattle.script_text.specs.proving.Taking.{IsFewLine}

text_few : (text : LineText) (form : Line) → IsLineOf text form → length (line_signs text) < 2 ^ 32 → IsFewLine form
text_few (view name q) (View n w) h few =
    let both = length-append (divided (map call_signs q.calls)) (group_signs q.keys) in
    calls_few q.calls w.calls h.1.0 (omega (arith, few, both))
text_few (view name q) (Session at number) h few = absurd h
text_few (view name q) (Insert count) h few = absurd h
text_few (view name q) (Load n count) h few = absurd h
text_few (view name q) (Read n) h few = absurd h
text_few (view name q) (States n) h few = absurd h
text_few (session place digits) (View n w) h few = absurd h
text_few (insert digits) (View n w) h few = absurd h
text_few (load name digits) (View n w) h few = absurd h
text_few (read name) (View n w) h few = absurd h
text_few (states name) (View n w) h few = absurd h
text_few text (Session at number) h few = tt
text_few text (Insert count) h few = tt
text_few text (Load n count) h few = tt
text_few text (Read n) h few = tt
text_few text (States n) h few = tt

pub line_few : (started : Bool) (line : List ℕ) (form : Line) → length line < 2 ^ 32 → SpellsLineIn started line form → IsFewLine form
line_few started line form few h = text_few h.0 form h.2 (few_signs line (line_signs h.0) few h.1.1.1)
