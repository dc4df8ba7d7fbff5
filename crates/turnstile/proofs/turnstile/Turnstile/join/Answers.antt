use Rattle.std.proofs.Common.{rules, ◌∙◌}
use Rattle.turnstile.proofs.Joining.{joins, checks}
use Rattle.turnstile.proofs.turnstile.Turnstile.join.Goals as goal

pub join_seat-requires : goal.join_seat-requires
join_seat-requires g c =
    let at = g.T.Turned.basis c.args.self.now.table.shared.key.value in (
      c.requires.table.0,
      c.requires.table.1,
      c.args.pass.empty,
      search rules,
      joins g.T.Turned.history g.T.Turned.basis at _ _ _ _ c.args.root.now.idle c.requires.root c.args.pass.idle,
    )

pub load-requires : goal.load-requires
load-requires g c =
    let at = g.T.Turned.basis c.args.self.now.table.shared.key.value in
    (c.join_seat.ensures.0 ∙ c.requires.table.0, search rules, checks g.T.Turned.history g.T.Turned.basis at _ _ _)
