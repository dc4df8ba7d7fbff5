use Rattle.std.proofs.Common.{rules, ℕ, List, [], ◌∷◌, ap, sym, ◌∙◌, subst, Some}
use Rattle.atomic_table.specs.Table.{rest}
use Rattle.history_core.specs.declared.entry.Entry.{Entry}
use Rattle.turnstile.specs.Turns.{Adds}
use Rattle.turnstile.proofs.Stands.{one_hand}
use Rattle.turnstile.proofs.Coming.{draws}
use Rattle.turnstile.proofs.Acting.{passes, in_hand}
use Rattle.turnstile.proofs.turnstile.Turnstile.turn_once.Goals as goal

pub fetch_add-ticket-requires : goal.fetch_add-ticket-requires
fetch_add-ticket-requires g c =
    let at = g.T.Turned.basis c.args.self.now.table.shared.key.value in
    (c.requires.table, search rules, draws g.T.Turned.history g.T.Turned.basis at _ _ c.args.pass.now.seat.me c.args.pass.now.idle c.requires.quota)

pub exchange-requires : goal.exchange-requires
exchange-requires g c =
    let has = c.wait_turn.ensures.turn in
    let hand = ap (λ m. m.1) has.1 in
    (c.wait_turn.ensures.table ∙ c.fetch_add-ticket.ensures.0 ∙ c.requires.table, (Some has.0, hand ∙ ap (λ l. (0, Some has.0) ∷ rest l) (sym hand)))

pub settle-note-requires-clause-acted : goal.settle-note-requires-clause-acted
settle-note-requires-clause-acted g c κs within =
    let b = c.wait_turn.ensures.turn in
    let d = c.exchange.ensures in
    let y = c.act-did.new.value in
    let k = in_hand g.T.Turned.history g.T.Turned.basis (g.T.Turned.basis y) c.args.pass.now.seat.me c.fetch_add-ticket.new.seat.me c.wait_turn.new.seat.me c.exchange.new.seat.me c.exchange-2.new.seat.me
    c.fetch_add-ticket.result c.exchange.result b.0 c.unwrap-value.result y c.fetch_add-ticket.ensures.2 b.1 d.2 c.unwrap-value.ensures d.3 c.exchange-2.ensures.3 in
    let number = c.requires.number ∙ sym (ap (λ m. m.0.number) k.1) in (
      c.fetch_add-ticket.result,
      g.T.Turned.history b.0,
      y,
      ap (λ m. m.0.stage) k.1,
      ap (λ m. m.1) k.1,
      subst (λ (p : ℕ × List Entry). Adds p.0 p.1 c.act-did.result (g.T.Turned.history y)) (λ i. (number i, sym (ap g.T.Turned.history k.0) i)) c.act-did.ensures.history,
    )

pub fetch_add-served-requires : goal.fetch_add-served-requires
fetch_add-served-requires g c =
    let at = g.T.Turned.basis c.args.self.now.table.shared.key.value in
    let b = c.wait_turn.ensures.turn in
    let d = c.exchange.ensures in
    let y = c.act-did.new.value in
    let k = in_hand g.T.Turned.history g.T.Turned.basis (g.T.Turned.basis y) c.args.pass.now.seat.me c.fetch_add-ticket.new.seat.me c.wait_turn.new.seat.me c.exchange.new.seat.me c.exchange-2.new.seat.me
    c.fetch_add-ticket.result c.exchange.result b.0 c.unwrap-value.result y c.fetch_add-ticket.ensures.2 b.1 d.2 c.unwrap-value.ensures d.3 c.exchange-2.ensures.3 in
    let s = c.settle-note.ensures.settled in
    let left = one_hand y s.0 [] [] (sym (ap (λ m. m.1) k.1) ∙ s.1) in
    let based = b.2 ∙ ap Some (ap g.T.Turned.basis k.0 ∙ (sym c.act-did.ensures.basis ∙ ap g.T.Turned.basis left)) in
    let table = c.settle-note.ensures.table ∙ (c.exchange-2.ensures.0 ∙ (d.0 ∙ (c.wait_turn.ensures.table ∙ (c.fetch_add-ticket.ensures.0 ∙ c.requires.table)))) in (
      table,
      search rules,
      passes g.T.Turned.history g.T.Turned.basis at _ _ c.settle-note.new.seat.me _ s.0 (ap (λ m. m.0.stage) s.5) (ap (λ m. m.1) s.5 ∙ s.1) (sym s.4)
          (ap (λ m. m.0.basis) s.5 ∙ (ap (λ m. m.0.basis) k.1 ∙ (sym (ap (λ m. m.0.basis) c.fetch_add-ticket.ensures.2) ∙ based))),
    )
