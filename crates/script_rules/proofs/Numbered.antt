-- Sessions that are judged from top to bottom are numbered from 1 on.
use Rattle.std.proofs.Common.{◌≡◌, refl, sym, ap, ◌∙◌, ℕ, ℤ, suc, pos, ◌+◌, ◌≤◌, nat_le, List, [], ◌∷◌, ◌++◌, length, map, Result, Ok, Err, arith, length-append}
use Rattle.std.specs.List.{range_with_len}
use Rattle.std.specs.Ordering.{int_eq}
use Rattle.refusals.specs.declared.why.LimitName.{LimitName}
use Rattle.refusals.specs.declared.why.Why.{Why}
use Rattle.request_rules.specs.Turns.{and_then, in_turn}
use Rattle.request_rules.proofs.AllJudged.{past}
use Rattle.script_rules.specs.Laws.{Head, SessionsAreNumbered}
use Rattle.script_rules.specs.Sessions.{has_few_sessions, is_next_session, judged_session}
use Rattle.script_rules.proofs.Rules.{passed, passed_first}

rules_met : (before at : ℕ) (number : ℤ) (u : Unit {0}) → judged_session before at number ≡ Ok u → (suc before ≤ 32) × (number ≡ pos (suc before))
rules_met before at number u e =
    let few = passed_first (nat_le (suc before) 32) (Why.Limit LimitName.Sessions) _ u e in
    let next = passed (int_eq number (pos (suc before))) (Why.SessionOrder at) u (past (has_few_sessions before) (is_next_session before at number) u e) in
    (grind arith, grind (arith, next))

abbrev judge : List (Unit {0}) → Head → Result (Unit {0}) Why
judge before head = judged_session (length before) head.0 head.1

-- behind these sessions, the heads are few enough and numbered on
abbrev Numbered : List (Unit {0}) → List Head → Type 0
Numbered before heads =
    (length before + length heads ≤ 32) × (map (λ (head : Head). head.1) heads ≡ map pos (range_with_len (length before + 1) (length heads)))

next : (r : Result (Unit {0}) Why) (before all : List (Unit {0})) (head : Head) (heads : List Head) → r ≡ judge before head →
    ((u : Unit {0}) → length (before ++ u ∷ []) ≤ 32 → in_turn judge (before ++ u ∷ []) heads ≡ Ok all → Numbered (before ++ u ∷ []) heads) →
    and_then r (λ u. in_turn judge (before ++ u ∷ []) heads) ≡ Ok all → Numbered before (head ∷ heads)
next (Ok u) before all head heads is more e =
    let met = rules_met (length before) head.0 head.1 u (sym is) in
    let many = length-append before (u ∷ []) in
    let one : length (before ++ u ∷ []) ≡ length before + 1 = omega (arith, many) in
    let up : suc (length before) ≡ length before + 1 = omega arith in
    let rest = more u (omega (arith, met.0, one)) e in (
      omega (arith, rest.0, one),
      ap (λ (z : ℤ). z ∷ map (λ (h : Head). h.1) heads) (met.1 ∙ ap pos up)
          ∙ ap (λ (zs : List ℤ). pos (length before + 1) ∷ zs) (rest.1 ∙ ap (λ (n : ℕ). map pos (range_with_len (n + 1) (length heads))) one),
    )
next (Err why) before all head heads is more e = absurd cc

numbered : (heads : List Head) (before all : List (Unit {0})) → length before ≤ 32 → in_turn judge before heads ≡ Ok all → Numbered before heads
numbered [] before all few e = (omega arith, refl)
numbered (head ∷ heads) before all few e = next (judge before head) before all head heads refl (λ u. numbered heads (before ++ u ∷ []) all) e

pub sessions_are_numbered : SessionsAreNumbered
sessions_are_numbered heads judged e = let all = numbered heads [] judged (omega arith) e in (omega (arith, all.0), all.1)
