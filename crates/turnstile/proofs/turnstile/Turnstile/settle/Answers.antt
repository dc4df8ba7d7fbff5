use Rattle.std.proofs.Common.{rules, subst}
use Rattle.turnstile.specs.Turns.{Adds}
use Rattle.turnstile.proofs.Acting.{commits, looks}
use Rattle.turnstile.proofs.turnstile.Turnstile.settle.Goals as goal

pub fetch_add-requires : goal.fetch_add-requires
fetch_add-requires g c =
    let at = g.T.Turned.basis c.args.self.now.table.shared.key.value in
    let a = c.requires.acted in
    let adds = subst (λ d. Adds c.args.seat.now.me.0.number a.1 d (g.T.Turned.history a.2)) c.in-Commit.is a.5 in
    (c.requires.table, search rules, commits g.T.Turned.history g.T.Turned.basis at _ _ c.args.seat.now.me a.0 a.1 a.2 adds.0 a.3 a.4 adds.2 adds.1)

pub load-requires : goal.load-requires
load-requires g c =
    let at = g.T.Turned.basis c.args.self.now.table.shared.key.value in
    let a = c.requires.acted in
    let adds = subst (λ d. Adds c.args.seat.now.me.0.number a.1 d (g.T.Turned.history a.2)) c.in-Look.is a.5 in
    (c.requires.table, search rules, looks g.T.Turned.history g.T.Turned.basis at _ _ c.args.seat.now.me a.0 a.1 a.2 a.3 a.4 adds)
