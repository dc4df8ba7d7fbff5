use Rattle.std.proofs.Common.{rules, ◌≡◌, ◌∷◌, [], ap, sym, ◌∙◌}
use Rattle.atomic_table.specs.Table.{rest}
use Rattle.piece_claims.specs.declared.board.Slot.TheVariants.{Taken}
use Rattle.piece_claims.specs.Jobs.{Answers}
use Rattle.piece_claims.proofs.CountMoves.{counts_as}
use Rattle.piece_claims.proofs.Hands.{in_hand, has_returned}
use Rattle.piece_claims.proofs.worker.finish.Goals as goal

pub exchange-requires : goal.exchange-requires
exchange-requires g c =
    let hand = c.requires.taken in
    (c.requires.table.0, (Taken, hand ∙ ap (λ l. (c.args.number, Taken) ∷ rest l) (sym hand)))

pub fetch_add-requires : goal.fetch_add-requires
fetch_add-requires g c =
    let held = c.requires.held in
    let k = in_hand c.args.place.now.me c.exchange.new.seat.me c.args.number c.args.outcome c.requires.taken c.exchange.ensures.3 in
    (c.exchange.ensures.0 ∙ c.requires.table.0, search rules, counts_as (Answers g.J.Job.gives g.J.Job.fault) c.args.board.now.key.value.items _ _ c.exchange.new.seat.me c.args.number held.0 c.args.outcome (ap (λ m. m.1) k) (ap (λ m. m.0.stage) k ∙ held.1) held.2)

pub returns-clause-free : goal.returns-clause-free
returns-clause-free g c =
    let held = c.requires.held in
    let k = in_hand c.args.place.now.me c.exchange.new.seat.me c.args.number c.args.outcome c.requires.taken c.exchange.ensures.3 in
    has_returned c.args.place.now.me c.exchange.new.seat.me c.fetch_add.new.seat.me c.args.number _ k (c.fetch_add.ensures.2 c.args.number held.0 (ap (λ m. m.0.stage) k ∙ held.1))
