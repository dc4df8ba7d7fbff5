use Rattle.std.proofs.Common.{rules, arith, ◌≡◌, ◌<◌}
use Rattle.turnstile.proofs.Joining.{splits}
use Rattle.turnstile.proofs.turnstile.Turnstile.cut.Goals as goal

pub split_seat-seat-requires : goal.split_seat-seat-requires
split_seat-seat-requires g c =
    let at = g.T.Turned.basis c.args.self.now.table.shared.key.value in
    let v = c.args.root.now.seat.me.0 in
    let part : c.args.quota ≡ g.Q.Part.part = c.requires.part in
    let few : c.args.quota < v.quota = c.requires.quota in
    (c.requires.table, search rules, splits g.T.Turned.history g.T.Turned.basis at _ v g.Q.Part.part c.args.root.now.idle c.requires.root (omega arith))
