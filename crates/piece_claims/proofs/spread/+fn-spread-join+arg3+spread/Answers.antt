use Rattle.std.proofs.Common.{rules, arith, ◌≡◌, ◌+◌, ◌-◌, ◌||◌, ℕ, ap, ◌∙◌}
use Rattle.piece_claims.specs.Jobs.{Answers}
use Rattle.piece_claims.proofs.SeatMoves.{joins}
use Rattle.piece_claims.proofs.spread.+fn-spread-join+arg3+spread.Goals as goal

pub join_seat-requires : goal.join_seat-requires
join_seat-requires g t c =
    let other = c.join-done.ensures.first in
    let root = c.join-done.ensures.second in
    let tables = c.split-place.ensures.table in
    let is_root = ap (λ m. m.0.root) c.split-place.ensures.root ∙ c.requires.ready.1 in (
      root.0 ∙ (tables.0 ∙ c.requires.table.0),
      other.0 ∙ (tables.1 ∙ c.requires.table.0),
      other.1.0,
      search rules,
      joins (Answers g.J.Job.gives g.J.Job.fault) c.args.board.now.key.value.items _ _ _ _ root.1.1 (root.1.3.0 ∙ is_root) other.1.1,
    )

pub returns-clause-ended : goal.returns-clause-ended
returns-clause-ended g t c =
    let root = c.join-done.ensures.second in
    let me = c.join_seat.ensures.2 in
    let start = c.split-place.ensures.root in
    let left : c.join_seat.new.seat.me.0.unjoined ≡ c.join-done.result.1.me.0.unjoined - 1 = ap (λ m. m.0.unjoined) me in
    let before : c.join-done.result.1.me.0.unjoined ≡ c.args.root.me.0.unjoined + 1 = root.1.3.1 ∙ ap (λ m. m.0.unjoined) start in (
      ap (λ m. m.1) me ∙ root.1.0,
      ap (λ m. m.0.stage) me ∙ root.1.1,
      ap (λ m. m.0.ended) me ∙ ap (λ b. b || c.join-done.result.0.me.0.ended) root.1.2,
      (ap (λ m. m.0.root) me ∙ (root.1.3.0 ∙ ap (λ m. m.0.root) start), omega arith),
    )
