use Rattle.std.proofs.Common.{refl, ap, sym, subst, ◌∙◌, Some}
use Rattle.std.specs.Prelude.{IsSome}
use mathlib.Core.Option.{some-injective}
use Rattle.turnstile.proofs.Stands.{some_of}
use Rattle.turnstile.proofs.Joining.{closes}
use Rattle.turnstile.proofs.turnstile.Turnstile.close.Goals as goal

pub unwrap-value-requires : goal.unwrap-value-requires
unwrap-value-requires g c =
    let at = g.T.Turned.basis c.args.self.table.shared.key.value in
    let f = c.close_with-closed.ensures.values.2 in
    let e = closes g.T.Turned.history g.T.Turned.basis at f.0 _ _ f.1.0 f.1.1 c.args.root.idle c.requires.root c.requires.joined in
    let is = some-injective _ _ (sym (f.4 0 (Some e.0) e.1) ∙ c.take.ensures.value) in
    subst IsSome is refl

pub returns-clause-history : goal.returns-clause-history
returns-clause-history g c =
    let at = g.T.Turned.basis c.args.self.table.shared.key.value in
    let f = c.close_with-closed.ensures.values.2 in
    let e = closes g.T.Turned.history g.T.Turned.basis at f.0 _ _ f.1.0 f.1.1 c.args.root.idle c.requires.root c.requires.joined in
    let is = some-injective _ _ (sym (f.4 0 (Some e.0) e.1) ∙ c.take.ensures.value) in
    let same = some_of _ _ (is ∙ c.unwrap-value.ensures) in
    ap g.T.Turned.history (sym same) ∙ e.2

pub returns-clause-basis : goal.returns-clause-basis
returns-clause-basis g c =
    let at = g.T.Turned.basis c.args.self.table.shared.key.value in
    let f = c.close_with-closed.ensures.values.2 in
    let e = closes g.T.Turned.history g.T.Turned.basis at f.0 _ _ f.1.0 f.1.1 c.args.root.idle c.requires.root c.requires.joined in
    let is = some-injective _ _ (sym (f.4 0 (Some e.0) e.1) ∙ c.take.ensures.value) in
    let same = some_of _ _ (is ∙ c.unwrap-value.ensures) in
    e.3 ∙ ap (λ x. Some (g.T.Turned.basis x)) same

pub returns-clause-settled : goal.returns-clause-settled
returns-clause-settled g c =
    let at = g.T.Turned.basis c.args.self.table.shared.key.value in
    let f = c.close_with-closed.ensures.values.2 in
    (closes g.T.Turned.history g.T.Turned.basis at f.0 _ _ f.1.0 f.1.1 c.args.root.idle c.requires.root c.requires.joined).4
