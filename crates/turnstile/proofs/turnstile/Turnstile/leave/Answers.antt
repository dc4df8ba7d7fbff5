use Rattle.std.proofs.Common.{rules}
use Rattle.turnstile.proofs.Coming.{knocks}
use Rattle.turnstile.proofs.turnstile.Turnstile.leave.Goals as goal

pub swap-requires : goal.swap-requires
swap-requires g c =
    let at = g.T.Turned.basis c.args.self.now.table.shared.key.value in
    (c.requires, search rules, knocks g.T.Turned.history g.T.Turned.basis at _ _ c.args.seat.now.me (λ _. 0))
