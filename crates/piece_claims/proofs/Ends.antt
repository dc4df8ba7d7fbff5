-- The board at the start, and at the end.
use Rattle.std.proofs.Common.{◌≡◌, ◌≢◌, ℕ, zero, suc, ◌+◌, ◌-◌, ◌^◌, ◌<◌, ◌≤◌, List, [], ◌∷◌, map, length, refl, sym, ap, ◌∙◌, subst, arith, true, false, true≢false}
use Rattle.std.specs.Prelude.{sum_by, min}
use Rattle.std.specs.List.{AllZip}
use mathlib.Core.Logic.{dite}
use mathlib.Core.Option.{some, none, some-ne-none, some-injective}
use mathlib.Core.Option as maybe
use lib.ListN.{get_elem?, length-map}
use native.Mathlib.Decide.{dec_le}
use Rattle.atomic_table.specs.Table.{State, opening}
use Rattle.atomic_table.proofs.Lists.{at_map}
use Rattle.piece_claims.specs.declared.board.Slot.{Slot}
use Rattle.piece_claims.specs.declared.board.Slot.TheVariants.{Ready, Done}
use Rattle.piece_claims.specs.declared.board.Stage.{Stage}
use Rattle.piece_claims.specs.declared.board.Stage.TheVariants.{Spent, Free, Holds}
use Rattle.piece_claims.specs.declared.board.Worker.{Worker}
use Rattle.piece_claims.specs.proving.Rule.{lists, holding, times, unspent, unspent_of, IsDone, Knows, Claimed, IsOver, opener}
use Rattle.piece_claims.proofs.Sums.{below_length, sum_only, sum_two}
use Rattle.piece_claims.proofs.Seats.{free_holds, unspent_one}

module _ {J X : Type 0} (meets : J → X → Type 0) (jobs : List J) where
  opens : length jobs < 2 ^ 32 → (slots : List (Slot J X)) → length (map some slots) ≡ length jobs → ((k : ℕ) (job : J) → get_elem? jobs k ≡ some job → get_elem? (map some slots) k ≡ some (some (Ready job)))
      → Claimed meets jobs (opening (0 ∷ 0 ∷ []) slots opener)
  opens few slots wide ready = record {
    next = 0;
    words = refl;
    wide = wide;
    waiting = λ k job le e. ready k job e;
    once = λ k lt inside. absurd (omega arith);
    no_other = λ k le. refl;
    claimed = omega arith;
    within = omega arith;
    knows = one;
  }
    where
      one : (j : ℕ) (v : Worker J) → get_elem? (opener ∷ []) j ≡ some v → Knows meets jobs (map some slots) 0 1 j v
      one zero v at = subst (Knows meets jobs (map some slots) 0 1 zero) (some-injective opener v at) (record {
        spent = λ _. refl;
        held = λ k job is. absurd (free_holds k job is);
        done = λ k l. absurd (omega arith);
        ended = λ e. absurd (true≢false (sym e));
        enough = λ _. omega arith;
        root = λ _. (refl, refl);
      })
      one (suc j) v at = absurd (some-ne-none v (sym at))

  pub opens_ready : length jobs < 2 ^ 32 → (slots : List (Slot J X)) → slots ≡ map Ready jobs → Claimed meets jobs (opening (0 ∷ 0 ∷ []) slots opener)
  opens_ready few slots is =
      let R : J → Slot J X = Ready in
      opens few slots (length-map slots some ∙ (ap length is ∙ length-map jobs R))
      (λ k job e. at_map some slots k (Ready job) (ap (λ l. get_elem? l k) is ∙ at_map R jobs k job e))

  -- at the end the outcome of each job is at home
  over : (s : State (Slot J X) (Worker J)) (id : ℕ) (v : Worker J) → Claimed meets jobs s → get_elem? s.views id ≡ some v → IsOver v → (k : ℕ) → k < length jobs → IsDone meets jobs s.homes k
  over s id v r at is_over k inside =
      let mine = r.knows id v at in
      let root : v.unjoined + 1 ≡ sum_by unspent_of s.views = (mine.root is_over.1).1 in
      let last : v.unjoined ≡ 0 = is_over.3 in
      let all : length jobs ≤ r.next = mine.ended is_over.2 in
      let one : sum_by (times k) s.views ≡ 1 = r.once k (omega arith) inside in
      let live : unspent v.stage ≡ 1 = ap unspent is_over.0 in
      let none_held : holding k v.stage ≡ 0 = ap (holding k) is_over.0 in
      let only : sum_by (times k) s.views ≡ times k v = sum_only (times k) s.views id v at (λ j u other was.
      let two : unspent v.stage + unspent u.stage ≤ sum_by unspent_of s.views = sum_two unspent_of s.views id j v u (λ e. other (sym e)) at was in
      gone u.stage k (lists k u.listed) (omega arith) (ap (lists k) ((r.knows j u was).spent (spent_none u.stage (omega arith))))) in
      mine.done k (omega arith)
    where
      spent_none : (stage : Stage J) → unspent stage ≡ 0 → stage ≡ Spent
      spent_none Spent e = refl
      spent_none Free e = absurd (omega arith)
      spent_none (Holds i job) e = absurd (omega arith)

      gone : (stage : Stage J) (k n : ℕ) → unspent stage ≡ 0 → n ≡ 0 → holding k stage + n ≡ 0
      gone Spent k n e z = omega arith
      gone Free k n e z = absurd (omega arith)
      gone (Holds i job) k n e z = absurd (omega arith)

  -- and so it is where the board is taken apart
  pub ends : (s : State (Slot J X) (Worker J)) (id : ℕ) (v : Worker J) → Claimed meets jobs s → get_elem? s.views id ≡ some v → IsOver v
      → (slots : List (Slot J X)) → ((k : ℕ) (y : Slot J X) → get_elem? s.homes k ≡ some (some y) → get_elem? slots k ≡ some y)
      → (k : ℕ) (job : J) → get_elem? jobs k ≡ some job → (x : X) × (get_elem? slots k ≡ some (Done x)) × meets job x
  ends s id v r at is_over slots homes k job is =
      let d = over s id v r at is_over k (below_length jobs k job is) in
      let same : d.0 ≡ job = some-injective d.0 job (sym d.2 ∙ is) in
      (d.1, homes k (Done d.1) d.3, subst (λ j. meets j d.1) same d.4)
