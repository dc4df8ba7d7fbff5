use Rattle.std.proofs.Common.{get_or, ◌+◌, ◌++◌, ◌∷◌, [], ap, sym, ◌∙◌, arith}
use Rattle.std.proofs.lemmas.List.{append-nil}
use Rattle.column_parts.proofs.Cuts.{moved_all, moved_more, place_fits}
use Rattle.column_parts.proofs.places.append_places.Goals as goal

pub overflow_add-base : goal.overflow_add-base
overflow_add-base c = omega (arith, place_fits c.args.more.now c.args.end c.args.base c.loop-i.i 0 c.requires.cut c.requires.room c.loop-i-test.true)

pub loop-i-init : goal.loop-i-init
loop-i-init c = sym (append-nil _)

pub loop-i-preserved : goal.loop-i-preserved
loop-i-preserved c =
    c.in-Ok.ensures.items ∙ ap (λ xs. xs ++ (c.args.base + get_or c.args.more.now c.loop-i.i 0) ∷ []) c.loop-i.invariant
    ∙ moved_more (λ place. c.args.base + place) c.reserve.new.self.items c.args.more.now c.loop-i.i c.loop-i.auto.i c.loop-i-test.true

pub returns-clause-ok : goal.returns-clause-ok
returns-clause-ok c =
    c.loop-i.invariant
    ∙ rw (c.in_ok-reserve.ensures.items, moved_all c.args.more.now c.loop-i.i c.loop-i-test.false)
