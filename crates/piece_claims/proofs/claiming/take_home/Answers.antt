use Rattle.std.proofs.Common.{rules, arith, ◌≡◌, ◌≤◌, ◌<◌, ◌+◌, ◌∷◌, [], ℕ, List, length, refl, ap, sym, ◌∙◌, subst, ⊎_elim, get_or, set, false, get_or-set_other, length-append}
use mathlib.Core.Logic.{dite}
use native.Mathlib.Decide.{ℕ_discrete}
use mathlib.Core.Option.{some, some-injective}
use lib.ListN.{get_elem?}
use Rattle.std.specs.Mem.Slots.{slots_items, slots_len, slots_filled}
use Rattle.piece_claims.specs.declared.board.Slot.TheVariants.{Done}
use Rattle.piece_claims.specs.Jobs.{Answers}
use Rattle.piece_claims.proofs.Sums.{there}
use Rattle.piece_claims.proofs.Outcomes.{at_end, cleared, zipped, outcome_or}
use Rattle.piece_claims.proofs.Ends.{ends}
use Rattle.piece_claims.proofs.claiming.take_home.Goals as goal

pub take-requires : goal.take-requires
take-requires g c =
    let i = c.loop-number.invariant in
    let long : slots_len c.close_with-closed.result.slots ≡ c.args.count = c.close_with-closed.ensures.counts.1 ∙ (c.requires.table.2 ∙ sym c.requires.count) in
    let same : slots_len c.loop-number.closed.slots ≡ slots_len c.close_with-closed.result.slots = i.3 in
    let lt : c.loop-number.number < c.args.count = c.loop-number-test.true in
    let inside : c.loop-number.number < slots_len c.loop-number.closed.slots = omega arith in
    (inside, i.0 c.loop-number.number (omega arith) inside)

pub unreachable-requires : goal.unreachable-requires
unreachable-requires g c =
    let i = c.loop-number.invariant in
    let f = c.close_with-closed.ensures.values.2 in
    let jobs = c.args.board.shared.key.value.items in
    let size : c.args.count ≡ length jobs = c.requires.count in
    let lt : c.loop-number.number < c.args.count = c.loop-number-test.true in
    let job = there jobs c.loop-number.number (omega arith) in
    let d = ends (Answers g.J.Job.gives g.J.Job.fault) jobs f.0 _ _ f.1.0 f.1.1 c.requires.ended (slots_items c.close_with-closed.result.slots) f.4 c.loop-number.number job.0 job.1 in
    let is = some-injective _ _ (sym c.take.ensures.value ∙ (ap (λ l. get_elem? l c.loop-number.number) i.2 ∙ d.1)) in
    c.in_default.not-Done d.0 is

pub loop-number-preserved : goal.loop-number-preserved
loop-number-preserved g c =
    let i = c.loop-number.invariant in
    let o = c.take.ensures.others in
    let at : ℕ = c.loop-number.number in
    let lt : at < c.args.count = c.loop-number-test.true in
    let n : length c.loop-number.outcomes.items ≡ at = i.5 in
    let old = slots_filled c.loop-number.closed.slots in
    let long : slots_len c.take.new.self.slots ≡ slots_len c.loop-number.closed.slots = o.2 in
    let pushed = c.push_reserved.ensures.items in (
      λ k le below. ap (λ l. get_or l k false) o.1 ∙ (get_or-set_other old at k false false (λ e. absurd (omega arith)) ∙ i.0 k (omega arith) (omega arith)),
      λ k below. ap (λ l. get_or l k false) o.1 ∙ dite (ℕ_discrete k at) (λ e. subst (λ m. get_or (set old at false) m false ≡ false) (sym e) (cleared old at)) (λ ne. get_or-set_other old at k false false ne ∙ i.1 k (omega arith)),
      o.0 ∙ i.2,
      o.2 ∙ i.3,
      omega arith,
      ap length pushed ∙ omega (arith, length-append c.loop-number.outcomes.items (c.in-Done.outcome ∷ [])),
      (let cap = c.push_reserved.ensures.capacity in let enough = i.6 in omega arith),
      λ k x e. ap (λ l. get_elem? l k) o.0 ∙ ⊎_elim
          (λ h. i.7 k x h)
          (λ h. ap (get_elem? (slots_items c.loop-number.closed.slots)) (h.0 ∙ n) ∙ (c.take.ensures.value ∙ ap some (c.in-Done.is ∙ ap Done h.1)))
          (at_end c.loop-number.outcomes.items c.in-Done.outcome x k (ap (λ l. get_elem? l k) (sym pushed) ∙ e)),
    )

pub returns : goal.returns
returns g c =
    let i = c.loop-number.invariant in
    let f = c.close_with-closed.ensures.values.2 in
    let jobs = c.args.board.shared.key.value.items in
    let outcomes = c.loop-number.outcomes.items in
    let meets = Answers g.J.Job.gives g.J.Job.fault in
    let size : c.args.count ≡ length jobs = c.requires.count in
    let le : c.loop-number.number ≤ c.args.count = i.4 in
    let ge : c.args.count ≤ c.loop-number.number = c.loop-number-test.false in
    let n : length outcomes ≡ c.loop-number.number = i.5 in
    let each = ends meets jobs f.0 _ _ f.1.0 f.1.1 c.requires.ended (slots_items c.close_with-closed.result.slots) f.4 in
    zipped meets jobs outcomes (omega arith) (λ k job x is out.
    let d = each k job is in
    let same = some-injective _ _ (sym (i.7 k x out) ∙ (ap (λ l. get_elem? l k) i.2 ∙ d.1)) in
    subst (λ y. meets job y) (sym (ap (outcome_or x) same)) d.2)
