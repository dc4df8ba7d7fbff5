use Rattle.std.proofs.Common.{ap, sym, ◌∙◌, arith}
use Rattle.value_types.specs.declared.ty.Ty.TheVariants as ty
use Rattle.value_types.specs.Folds.{value_of}
use Rattle.tsv_values.proofs.Texts.{array_done, entry_more, fits_Map, map_done}
use Rattle.tsv_values.proofs.writing.+write_element.Goals as goal

pub entries_of-entries-requires : goal.entries_of-entries-requires
entries_of-entries-requires g t c =
    let fits = fits_Map c.args.ty.now (value_of c.args.value.now) c.in-Map.key c.in-Map.item c.in-Map.is c.requires.fits in
    rw (c.get-key.ensures, c.get-item.ensures) fits

pub loop-j-preserved : goal.loop-j-preserved
loop-j-preserved g t c =
    entry_more (g.W.StateWriter.writes c.args.writer.now) c.get-key.result.now c.get-item.result.now c.entries_of-entries.result.now c.loop-j.j c.index-entries-j.result
    _ c.loop-j.text.items c.write_comma-in-loop-j.new.text.items c.write_element-in-loop-j.new.text.items c.push-in-loop-j.new.self.items c.write_element-in-loop-j-2.new.text.items
    (omega arith) c.index-entries-j.is c.loop-j.invariant c.in_ok-write_comma-in-Map.ensures c.in_ok-write_element-in-Map.ensures c.in_ok-push-in-Map-2.ensures.items c.in_ok-write_element-in-Map-2.ensures

pub returns-in_ok-push-in-Arr-2 : goal.returns-in_ok-push-in-Arr-2
returns-in_ok-push-in-Arr-2 g t c =
    array_done (g.W.StateWriter.writes c.args.writer.now) c.args.ty.now c.args.value.now c.in-Arr.item c.items_of-items.result.now c.loop-i.i c.args.text.now.items c.loop-i.text.items c.push-in-Arr.new.self.items
    c.in-Arr.is c.items_of-items.ensures.same (omega arith) c.loop-i.invariant c.in_ok-push-in-Arr-2.ensures.items

pub returns-in_ok-push-in-Map-3 : goal.returns-in_ok-push-in-Map-3
returns-in_ok-push-in-Map-3 g t c =
    map_done (g.W.StateWriter.writes c.args.writer.now) c.args.ty.now c.args.value.now c.get-key.result.now c.get-item.result.now c.entries_of-entries.result.now c.loop-j.j c.args.text.now.items c.loop-j.text.items c.push-in-Map-2.new.self.items
    (c.in-Map.is ∙ ap (λ u. ty.Map u c.in-Map.item) (sym c.get-key.ensures) ∙ ap (λ u. ty.Map c.get-key.result.now u) (sym c.get-item.ensures)) c.entries_of-entries.ensures.same (omega arith) c.loop-j.invariant c.in_ok-push-in-Map-3.ensures.items
