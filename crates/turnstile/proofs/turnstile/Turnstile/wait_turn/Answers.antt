use Rattle.std.proofs.Common.{rules, ap, ◌∙◌}
use Rattle.turnstile.proofs.Coming.{polls}
use Rattle.turnstile.proofs.turnstile.Turnstile.wait_turn.Goals as goal

pub load-found-requires : goal.load-found-requires
load-found-requires g c =
    let i = c.loop.invariant in
    let at = g.T.Turned.basis c.args.self.now.table.shared.key.value in (
      i.0 ∙ c.requires.table,
      search rules,
      polls g.T.Turned.history g.T.Turned.basis at _ _ c.loop.seat.me c.args.ticket (ap (λ m. m.0.stage) i.1 ∙ c.requires.waits.0) (ap (λ m. m.1) i.1 ∙ c.requires.waits.1),
    )
