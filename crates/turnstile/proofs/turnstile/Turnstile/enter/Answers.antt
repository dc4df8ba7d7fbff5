use Rattle.std.proofs.Common.{rules, ◌∙◌, eqb}
use prog.Atomic.{either}
use Rattle.turnstile.proofs.Coming.{knocks}
use Rattle.turnstile.proofs.turnstile.Turnstile.enter.Goals as goal

pub compare_exchange-requires : goal.compare_exchange-requires
compare_exchange-requires g c =
    let at = g.T.Turned.basis c.args.self.now.table.shared.key.value in
    (c.requires, search rules, knocks g.T.Turned.history g.T.Turned.basis at _ _ c.args.seat.now.me (λ n. either (eqb n 0) 1 n))

pub swap-requires : goal.swap-requires
swap-requires g c =
    let i = c.loop.invariant in
    let at = g.T.Turned.basis c.args.self.now.table.shared.key.value in
    (i.0 ∙ (c.compare_exchange.ensures.0 ∙ c.requires), search rules, knocks g.T.Turned.history g.T.Turned.basis at _ _ c.loop.seat.me (λ _. 2))
