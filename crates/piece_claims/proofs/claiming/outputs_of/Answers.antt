use Rattle.std.proofs.Common.{◌≡◌, ◌++◌, ◌∷◌, map, length, ap, sym, ◌∙◌, Err}
use lib.ListN.{length-map}
use Rattle.std.specs.declared.result.Result.TheVariants.{Ok}
use Rattle.piece_claims.proofs.claiming.outputs_of.Goals as goal

pub returns-in-Err-Own-clause-fault : goal.returns-in-Err-Own-clause-fault
returns-in-Err-Own-clause-fault g c =
    let i = c.loop-outcome.invariant in
    let n = c.in-Some.ensures.steps in
    let x = c.in-Some.outcome in
    let after = c.next.new.self.rest.items in
    let seen = c.loop-outcome.yielded in
    let outputs = c.loop-outcome.outputs.items in
    let is = c.in-Err-Own.is ∙ ap (λ f. Err f) c.in-Err-Own.field-0-is in (
      outputs,
      after,
      sym (i.0 ∙ (ap length i.1 ∙ length-map outputs Ok)),
      sym i.2 ∙ (ap (λ l. seen ++ l) n.0 ∙ (ap (λ l. l ++ x ∷ after) i.1 ∙ ap (λ y. map Ok outputs ++ y ∷ after) is)),
    )
