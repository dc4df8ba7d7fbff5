use Rattle.std.proofs.Common.{get_or, length, rules, ap, sym, ◌∙◌}
use Rattle.agg_terms.specs.Types.{key_type}
use Rattle.agg_values.specs.Peels.{peeled_types}
use Rattle.value_types.proofs.FoldLaws.{ty_of-Str}
use Rattle.value_types.specs.declared.chain.Chain.TheVariants as chain
use Rattle.state_texts.specs.Figures.{high}
use Rattle.state_texts.proofs.Written.{puts_on}
use Rattle.state_texts.proofs.WrittenLinks.{each_put, keyed_put}
use Rattle.state_texts.proofs.bodies.+write.Goals as goal

pub put_body-returns-in_ok-put_count-in-MapOf : goal.put_body-returns-in_ok-put_count-in-MapOf
put_body-returns-in_ok-put_count-in-MapOf t c =
    puts_on c.put_entries.result c.args.out.now.items c.put_count.new.out.items c.put_entries.new.out.items (high 8 (length c.keyed_in-entries.result.now)) _ _
    (search rules)
    (keyed_put c.args.version c.args.chain.now c.get-in-MapOf.result.now c.args.types.now c.args.peels _ c.map_key-key.result.now c.keyed_in-entries.result.now
    (c.in-MapOf.is ∙ ap chain.MapOf (sym c.get-in-MapOf.ensures)) (c.map_key-key.ensures ∙ ap key_type (c.first_type.ensures ∙ ap (λ u. get_or (peeled_types c.args.peels.now c.args.types.now) 0 u) ty_of-Str)) c.keyed_in-entries.ensures)
    c.put_entries.ensures

pub put_body-returns-in_ok-put_count-in-ForEach : goal.put_body-returns-in_ok-put_count-in-ForEach
put_body-returns-in_ok-put_count-in-ForEach t c =
    puts_on c.put_slots.result c.args.out.now.items c.put_count-in-ForEach.new.out.items c.put_slots.new.out.items (high 8 (length c.slots_in-slots.result.now)) _ _
    (search rules)
    (each_put c.args.version c.args.chain.now c.get-in-ForEach.result.now c.args.types.now c.args.peels _ c.slots_in-slots.result.now
    (c.in-ForEach.is ∙ ap chain.ForEach (sym c.get-in-ForEach.ensures)) c.slots_in-slots.ensures)
    c.put_slots.ensures
