use Rattle.std.proofs.Common.{◌∙◌, List, ℕ, arith, subst}
use Rattle.std.specs.List.{AllZip, HoldsAt}
use Rattle.std.proofs.Crossing.{crosses}
use denote.Param.Send.{sendable}
use denote.Ref.{Bor}
use Rattle.batch_reader.specs.proving.Pieces.{HasPiece}
use Rattle.batch_reader.specs.declared.lane.Lane.{Lane}
use Rattle.batch_reader.proofs.Lanes.{zip-each, zip-types}
use Rattle.batch_reader.proofs.Crossing.{column-send}
use Rattle.batch_reader.proofs.filling.fill_lanes.Given.{Over}
use Rattle.batch_reader.proofs.filling.fill_lanes.Goals.{After-for_each_apart}
use Rattle.batch_reader.proofs.filling.fill_lanes.Goals as goal

pub for_each_apart-requires-send-T : goal.for_each_apart-requires-send-T
for_each_apart-requires-send-T g c κs within = search (sendable, crosses, column-send) depth 60 fits 4000

filled : (g : Over) (c : After-for_each_apart g) → AllZip (λ (text : Bor (List ℕ)) (lane : Lane). HasPiece (g.R.StateReader.reads c.args.reader.now) c.args.types.now text.now lane) c.args.pieces.now c.for_each_apart.new.items
filled g c =
    let Has = λ (text : Bor (List ℕ)) (lane : Lane). HasPiece (g.R.StateReader.reads c.args.reader.now) c.args.types.now text.now lane in
    zip-each Has c.args.pieces.now c.for_each_apart.new.items (c.for_each_apart.auto.items ∙ c.requires.same) (λ i d within.
    let at = (c.for_each_apart.ensures.items i d (omega (arith, within, c.for_each_apart.auto.items))).1 in
    subst (λ (lane : Lane). HoldsAt (λ text. Has text lane) c.args.pieces.now i) at.left at.call)

pub returns-clause-filled : goal.returns-clause-filled
returns-clause-filled g c = filled g c.before

pub returns-clause-types : goal.returns-clause-types
returns-clause-types g c = zip-types (g.R.StateReader.reads c.args.reader.now) c.args.types.now c.args.pieces.now c.for_each_apart.new.items (filled g c.before)
