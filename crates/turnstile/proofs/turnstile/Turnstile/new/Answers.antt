use Rattle.std.proofs.Common.{◌∷◌, ◌++◌, [], ap, sym, ◌∙◌, subst, Some}
use Rattle.atomic_table.specs.Table.{opening}
use Rattle.turnstile.specs.proving.Rules.{Turning, root}
use Rattle.turnstile.proofs.Coming.{opens}
use Rattle.turnstile.proofs.turnstile.Turnstile.new.Goals as goal

pub new-requires : goal.new-requires
new-requires g c =
    let at = g.T.Turned.basis c.of-about.result.value in
    let items = c.push_reserved.ensures.items ∙ ap (λ l. l ++ Some c.args.value ∷ []) c.in-Ok.ensures.items in
    subst (λ l. Turning g.T.Turned.history g.T.Turned.basis at (opening (0 ∷ 0 ∷ 0 ∷ 0 ∷ []) l (root at))) (sym items)
    (opens g.T.Turned.history g.T.Turned.basis at c.args.value c.requires (ap g.T.Turned.basis (sym c.of-about.ensures)))
