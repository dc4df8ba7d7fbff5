use Rattle.std.proofs.Common.{rules, arith, ◌≡◌, ◌<◌, ℕ, ◌∷◌, [], length, ap, sym, ◌∙◌}
use Rattle.atomic_table.specs.Table.{rest}
use Rattle.piece_claims.specs.declared.board.Slot.TheVariants.{Ready}
use Rattle.piece_claims.specs.Jobs.{Answers}
use Rattle.piece_claims.proofs.ClaimMoves.{claims_as}
use Rattle.piece_claims.proofs.worker.claim.Goals as goal

pub fetch_add-found-requires : goal.fetch_add-found-requires
fetch_add-found-requires g c =
    let m = c.requires.ready in
    (c.requires.table.0, search rules, claims_as (Answers g.J.Job.gives g.J.Job.fault) c.args.board.now.key.value.items _ _ c.args.place.now.me m.0 m.1 m.2)

pub exchange-requires : goal.exchange-requires
exchange-requires g c =
    let n = c.fetch_add-found.result in
    let lt : n < c.args.count = c.if-found-count.false in
    let size : c.args.count ≡ length c.args.board.now.key.value.items = c.requires.count in
    let slots : c.args.board.now.table_id.slots ≡ length c.args.board.now.key.value.items = c.requires.table.2 in
    let got = c.fetch_add-found.ensures.2.0 (omega arith) in
    let hand = ap (λ m. m.1) got.2 in
    (c.fetch_add-found.ensures.0 ∙ c.requires.table.0, (Ready got.0, hand ∙ ap (λ l. (n, Ready got.0) ∷ rest l) (sym hand)))
