use Rattle.std.proofs.Common.{rules, arith, ◌≡◌, ◌+◌, ◌<◌, ℕ, length, sym, subst}
use Rattle.piece_claims.specs.Jobs.{Answers}
use Rattle.piece_claims.proofs.SeatMoves.{splits}
use Rattle.piece_claims.proofs.spread.cut.Goals as goal

pub split_seat-requires : goal.split_seat-requires
split_seat-requires g c =
    let part : c.args.quota ≡ g.Q.Part.part = c.requires.part in
    let jobs = c.args.board.now.key.value.items in
    let new : length jobs < c.args.quota = c.requires.enough.0 in
    let left : length jobs + c.args.quota < c.args.root.now.me.0.quota = c.requires.enough.1 in
    (c.requires.table.0, search rules, splits (Answers g.J.Job.gives g.J.Job.fault) jobs _ _ g.Q.Part.part c.requires.root.0 c.requires.root.1 (omega arith) (omega arith))
