use Rattle.std.proofs.Common.{List, ℕ, ◌+◌, subst, ◌∙◌, arith}
use Rattle.std.specs.List.{slice_range}
use Rattle.agg_ports.specs.declared.ports.Taken.TheVariants as taken
use Rattle.line_reader.specs.Taking.{TakesBehind}
use Rattle.line_reader.proofs.Ranges.{piece-taken}
use Rattle.line_reader.proofs.block.Block.take_from.Goals as goal

pub returns-in-Bytes-clause-bytes : goal.returns-in-Bytes-clause-bytes
returns-in-Bytes-clause-bytes g c =
    let ys = c.take_into.new.bytes.items in
    let taken_here = piece-taken (g.S.Source.left c.args.source.now) (g.S.Source.left c.take_into.new.source) c.self.inside.bytes.items ys c.self.inside.from c.self.inside.to
    c.in-Bytes.count c.args.most (omega arith) (omega (arith, c.in_ok-make_room.ensures.room, c.take_into.ensures.len)) (c.take_into.ensures.front ∙ c.make_room.ensures.front) c.in-Bytes.ensures.bytes in
    subst (λ (before : List ℕ). TakesBehind (g.S.Source.left c.args.source.now) (g.S.Source.left c.take_into.new.source) c.args.most before (slice_range ys c.self.inside.from (c.self.inside.to + c.in-Bytes.count)) (taken.Bytes c.in-Bytes.count))
    (c.self.view_is ∙ c.settle.ensures) taken_here
