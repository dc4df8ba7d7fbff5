use Rattle.std.proofs.Common.{rules, arith, ◌≡◌, ◌≤◌, ◌<◌, ◌+◌, ◌*◌, ◌^◌, ℕ, map, min, length, ap, sym, ◌∙◌, subst}
use Rattle.std.specs.List.{AllZip}
use Rattle.std.proofs.lemmas.Slice.Zip.{AllZip-long}
use Rattle.piece_claims.specs.Jobs.{Answers}
use Rattle.piece_claims.specs.declared.board.Slot.TheVariants.{Ready}
use Rattle.piece_claims.proofs.Ends.{opens_ready}
use Rattle.piece_claims.proofs.Outcomes.{all_given, refuses, few_claims, IfOk-then, IfErr-then}
use Rattle.piece_claims.proofs.claiming.claim_all.Goals as goal

pub new-requires : goal.new-requires
new-requires g c =
    let about = c.of-about.result.value.items in
    let same = ap (λ v. v.items) c.of-about.ensures in
    let few : length c.args.jobs.items < 2 ^ 32 = c.requires.few in
    let long : length about ≡ length c.args.jobs.items = ap length same in
    opens_ready (Answers g.J.Job.gives g.J.Job.fault) about (omega arith) c.in_ok-slots.slots.items (c.in_ok-slots.ensures ∙ ap (map Ready) (sym same))

pub spread-root-requires-clause-ready : goal.spread-root-requires-clause-ready
spread-root-requires-clause-ready g c κs within =
    let me = c.in_ok-board.ensures.ok.4 in
    let threads : c.min-threads.result ≡ min c.min.result 1024 = c.min-threads.ensures in
    let few : length c.args.jobs.items < 2 ^ 32 = c.requires.few in
    let n : length c.args.jobs.items ≡ c.len-count.result = search rules in
    let quota : c.in_ok-board.root.me.0.quota ≡ 2 ^ 62 = ap (λ m. m.0.quota) me in (
      (ap (λ m. m.1) me, ap (λ m. m.0.stage) me, omega arith),
      ap (λ m. m.0.root) me,
      subst (λ q. c.min-threads.result * (c.len-count.result + 1) ≤ q) (sym quota) (few_claims c.min-threads.result c.len-count.result (omega arith) (omega arith)),
    )

pub outputs_of-requires : goal.outputs_of-requires
outputs_of-requires g c =
    let key = ap (λ k. k.value.items) c.in_ok-board.ensures.ok.5 ∙ ap (λ v. v.items) c.of-about.ensures in
    let jobs = c.in_ok-board.board.shared.key.value.items in
    let outcomes = c.take_home-outcomes.result.items in
    let few : length c.args.jobs.items < 2 ^ 32 = c.requires.few in
    let same : length jobs ≡ length c.args.jobs.items = ap length key in
    let long : length outcomes ≡ length jobs = AllZip-long (Answers g.J.Job.gives g.J.Job.fault) jobs outcomes c.take_home-outcomes.ensures in
    record { few = omega arith }

pub returns-clause-outputs : goal.returns-clause-outputs
returns-clause-outputs g c =
    let key = ap (λ k. k.value.items) c.in_ok-board.ensures.ok.5 ∙ ap (λ v. v.items) c.of-about.ensures in
    let gives = g.J.Job.gives in
    let fault = g.J.Job.fault in
    let outcomes = c.take_home-outcomes.result.items in
    let all = subst (λ js. AllZip (Answers gives fault) js outcomes) key c.take_home-outcomes.ensures in
    IfOk-then c.outputs_of.result _ _ c.outputs_of.ensures.outputs (λ outputs is. all_given gives fault c.args.jobs.items outcomes outputs.items all is)

pub returns-clause-fault : goal.returns-clause-fault
returns-clause-fault g c =
    let key = ap (λ k. k.value.items) c.in_ok-board.ensures.ok.5 ∙ ap (λ v. v.items) c.of-about.ensures in
    let gives = g.J.Job.gives in
    let fault = g.J.Job.fault in
    let outcomes = c.take_home-outcomes.result.items in
    let all = subst (λ js. AllZip (Answers gives fault) js outcomes) key c.take_home-outcomes.ensures in
    IfErr-then c.outputs_of.result _ _ c.outputs_of.ensures.fault (λ why stop. refuses gives fault c.args.jobs.items outcomes why all stop)
