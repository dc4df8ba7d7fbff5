use Rattle.std.proofs.Common.{◌≡◌, ◌++◌, ◌∷◌, [], get_or, map, ap, rules, sym, ◌∙◌}
use Rattle.std.proofs.lemmas.Result.{err_from_is_err_and}
use Rattle.std.proofs.lemmas.List.{map_push}
use Rattle.agg_values.specs.Peels.{peeled_types}
use Rattle.value_types.specs.Folds.{chain_of, entry_of, tree_of, ty_of}
use Rattle.state_codec.specs.Reading.{body_at, entry_at, items_at}
use Rattle.state_codec.proofs.Loop.{ends, gives_as, goes_on, is_done}
use Rattle.agg_terms.specs.Types.{intervals, key_type}
use Rattle.value_types.proofs.FoldLaws.{ty_of-Str}
use Rattle.value_types.specs.declared.chain.Chain.TheVariants as chain
use Rattle.state_codec.proofs.ReadLinks.{in_for_each, in_map, in_places}
use Rattle.state_codec.proofs.bodies.+body.Goals as goal

pub bodies_at-returns-in_err-slot : goal.bodies_at-returns-in_err-slot
bodies_at-returns-in_err-slot t c =
    let p = err_from_is_err_and c.from_residual.result c.from_residual.ensures.1 in
    rw (p.1, p.2) (ends (λ e. body_at c.args.from.version c.args.from.whole (chain_of c.args.chain.now) (peeled_types c.args.peels.now c.args.types.now)) c.in_err-slot.field-0.0 (map tree_of c.loop.slots) c.args.count c.loop.counter c.loop.rest.now (items_at (λ e. body_at c.args.from.version c.args.from.whole (chain_of c.args.chain.now) (peeled_types c.args.peels.now c.args.types.now)) c.args.count [] c.args.bytes.now) c.loop-test.true c.in_err-slot.ensures c.loop.invariant)

pub bodies_at-loop-preserved : goal.bodies_at-loop-preserved
bodies_at-loop-preserved t c =
    let e : map tree_of c.push.new.self ≡ map tree_of c.loop.slots ++ tree_of c.in_ok-slot.slot ∷ [] = rw c.in_ok-push.ensures.ok (map_push tree_of c.loop.slots c.in_ok-slot.slot) in
    rw e (goes_on (λ e. body_at c.args.from.version c.args.from.whole (chain_of c.args.chain.now) (peeled_types c.args.peels.now c.args.types.now)) (map tree_of c.loop.slots) c.args.count c.loop.counter c.loop.rest.now (tree_of c.in_ok-slot.slot) c.in_ok-slot.after.now (items_at (λ e. body_at c.args.from.version c.args.from.whole (chain_of c.args.chain.now) (peeled_types c.args.peels.now c.args.types.now)) c.args.count [] c.args.bytes.now) c.loop-test.true c.in_ok-slot.ensures c.loop.invariant)

pub bodies_at-returns : goal.bodies_at-returns
bodies_at-returns t c = is_done (λ e. body_at c.args.from.version c.args.from.whole (chain_of c.args.chain.now) (peeled_types c.args.peels.now c.args.types.now)) (map tree_of c.loop.slots) c.args.count c.loop.counter c.loop.rest.now (items_at (λ e. body_at c.args.from.version c.args.from.whole (chain_of c.args.chain.now) (peeled_types c.args.peels.now c.args.types.now)) c.args.count [] c.args.bytes.now) c.loop-test.false c.loop.invariant

pub entries_at-returns-in_err-entry : goal.entries_at-returns-in_err-entry
entries_at-returns-in_err-entry t c =
    let p = err_from_is_err_and c.from_residual.result c.from_residual.ensures.1 in
    rw (p.1, p.2) (ends (entry_at c.args.from.whole (ty_of c.args.key.now) (body_at c.args.from.version c.args.from.whole (chain_of c.args.chain.now) (peeled_types c.args.peels.now c.args.types.now))) c.in_err-entry.field-0.0 (map entry_of c.loop.entries) c.args.count c.loop.counter c.loop.rest.now (items_at (entry_at c.args.from.whole (ty_of c.args.key.now) (body_at c.args.from.version c.args.from.whole (chain_of c.args.chain.now) (peeled_types c.args.peels.now c.args.types.now))) c.args.count [] c.args.bytes.now) c.loop-test.true c.in_err-entry.ensures c.loop.invariant)

pub entries_at-loop-preserved : goal.entries_at-loop-preserved
entries_at-loop-preserved t c =
    let e : map entry_of c.push.new.self ≡ map entry_of c.loop.entries ++ entry_of c.in_ok-entry.entry ∷ [] = rw c.in_ok-push.ensures.ok (map_push entry_of c.loop.entries c.in_ok-entry.entry) in
    rw e (goes_on (entry_at c.args.from.whole (ty_of c.args.key.now) (body_at c.args.from.version c.args.from.whole (chain_of c.args.chain.now) (peeled_types c.args.peels.now c.args.types.now))) (map entry_of c.loop.entries) c.args.count c.loop.counter c.loop.rest.now (entry_of c.in_ok-entry.entry) c.in_ok-entry.after.now (items_at (entry_at c.args.from.whole (ty_of c.args.key.now) (body_at c.args.from.version c.args.from.whole (chain_of c.args.chain.now) (peeled_types c.args.peels.now c.args.types.now))) c.args.count [] c.args.bytes.now) c.loop-test.true c.in_ok-entry.ensures c.loop.invariant)

pub entries_at-returns : goal.entries_at-returns
entries_at-returns t c = is_done (entry_at c.args.from.whole (ty_of c.args.key.now) (body_at c.args.from.version c.args.from.whole (chain_of c.args.chain.now) (peeled_types c.args.peels.now c.args.types.now))) (map entry_of c.loop.entries) c.args.count c.loop.counter c.loop.rest.now (items_at (entry_at c.args.from.whole (ty_of c.args.key.now) (body_at c.args.from.version c.args.from.whole (chain_of c.args.chain.now) (peeled_types c.args.peels.now c.args.types.now))) c.args.count [] c.args.bytes.now) c.loop-test.false c.loop.invariant

pub body_at-returns-in-MapOf : goal.body_at-returns-in-MapOf
body_at-returns-in-MapOf t c =
    gives_as _ c.keyed_at.result _ _
    (in_map c.args.from.version c.args.from.whole c.args.chain.now c.get-in-MapOf.result.now c.args.types.now c.args.peels c.args.bytes.now c.map_key-key.result.now
    (c.in-MapOf.is ∙ ap chain.MapOf (sym c.get-in-MapOf.ensures))
    (c.map_key-key.ensures ∙ ap key_type (c.first_type.ensures ∙ ap (λ u. get_or (peeled_types c.args.peels.now c.args.types.now) 0 u) ty_of-Str)))
    c.keyed_at.ensures

pub body_at-returns-in-ForEach : goal.body_at-returns-in-ForEach
body_at-returns-in-ForEach t c =
    gives_as _ c.slots_at.result _ _
    (in_for_each c.args.from.version c.args.from.whole c.args.chain.now c.get-in-ForEach.result.now c.args.types.now c.args.peels c.args.bytes.now
    (c.in-ForEach.is ∙ ap chain.ForEach (sym c.get-in-ForEach.ensures)))
    c.slots_at.ensures

pub body_at-returns-in-Resample : goal.body_at-returns-in-Resample
body_at-returns-in-Resample t c =
    let counted : c.intervals-count.result ≡ intervals c.in-Resample.start c.in-Resample.end c.in-Resample.step = search rules in
    gives_as _ c.places_at.result _ _
    (in_places c.args.from.version c.args.from.whole c.args.chain.now c.args.types.now c.args.peels.now c.args.bytes.now c.in-Resample.start c.in-Resample.end c.in-Resample.step c.get-in-Resample.result.now
    c.front-in-Resample.result.now c.intervals-count.result (c.in-Resample.is ∙ ap (chain.Resample c.in-Resample.start c.in-Resample.end c.in-Resample.step) (sym c.get-in-Resample.ensures))
    c.front-in-Resample.ensures counted)
    c.places_at.ensures
