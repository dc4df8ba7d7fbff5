-- The rules on the sessions of a script, and which of them is broken first.
use Rattle.std.specs.Prelude.{ℕ, suc, ℤ, pos, nat_le, Result}
use Rattle.std.specs.Ordering.{int_eq}
use Rattle.refusals.specs.declared.why.LimitName.{LimitName}
use Rattle.refusals.specs.declared.why.Why.{Why}
use Rattle.request_rules.specs.Turns.{and_then, check}

-- Limit: with one more session, a script has at most 32.
abbrev pub has_few_sessions : ℕ → Result (Unit {0}) Why
has_few_sessions before = check (nat_le (suc before) 32) (Why.Limit LimitName.Sessions)

-- Session order: the number is one more than that of the session before, and 1 for the first session.
abbrev pub is_next_session : ℕ → ℕ → ℤ → Result (Unit {0}) Why
is_next_session before at number = check (int_eq number (pos (suc before))) (Why.SessionOrder at)

-- The rules on a session whose number stands at a place of its line, behind so many sessions: the number of sessions, and
-- then its own number. Since every session is numbered one more than the one before, and the first 1, the number of the
-- session before is how many stand there.
abbrev pub judged_session : ℕ → ℕ → ℤ → Result (Unit {0}) Why
judged_session before at number = and_then (has_few_sessions before) (λ (_ : Unit {0}). is_next_session before at number)
