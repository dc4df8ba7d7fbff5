use Rattle.std.proofs.Common.{subst, sym}
use Rattle.key_methods.proofs.Undone.{ok_as}
use Rattle.group_keys.specs.Sets.{PlacesKeysOf}
use Rattle.group_keys.specs.declared.key_set.KeySet.TheVariants.{Words, Wide, Texts}
use Rattle.group_keys.proofs.Merged.{One-merged, Texts-merged, Wide-merged, Words-merged}
use Rattle.group_keys.proofs.Placing.{ok_of}
use Rattle.group_keys.proofs.key_set.KeySet.place_keys.Goals as goal

pub returns-in-One : goal.returns-in-One
returns-in-One c =
    ok_as c.all_at_first.result _ _
    (λ places is. subst (λ s. PlacesKeysOf c.args.types.now s s c.args.later.now places.items) (sym c.in-One.is)
    (One-merged c.args.types.now c.requires.types c.args.later.now places.items is))
    c.all_at_first.ensures

pub returns-in-Words : goal.returns-in-Words
returns-in-Words c =
    ok_of c.place_numbers.result c.place_numbers.ensures.keys c.place_numbers.ensures.places
    (λ k places p. subst (λ s. PlacesKeysOf c.args.types.now s (Words c.place_numbers.new.set) c.args.later.now places.items) (sym c.in-Words.is)
    (Words-merged c.args.types.now c.requires.types c.args.later.now places.items c.in-Words.set c.place_numbers.new.set c.words.result.now c.words.ensures k p))

pub returns-in-Wide : goal.returns-in-Wide
returns-in-Wide c =
    ok_of c.place_numbers-in-Wide.result c.place_numbers-in-Wide.ensures.keys c.place_numbers-in-Wide.ensures.places
    (λ k places p. subst (λ s. PlacesKeysOf c.args.types.now s (Wide c.place_numbers-in-Wide.new.set) c.args.later.now places.items) (sym c.in-Wide.is)
    (Wide-merged c.args.types.now c.requires.types c.args.later.now places.items c.in-Wide.set c.place_numbers-in-Wide.new.set c.wide_words.result.now c.wide_words.ensures k p))

pub returns-in-Texts : goal.returns-in-Texts
returns-in-Texts c =
    ok_of c.place_copies.result c.place_copies.ensures.keys c.place_copies.ensures.places
    (λ k places p. subst (λ s. PlacesKeysOf c.args.types.now s (Texts c.place_copies.new.set) c.args.later.now places.items) (sym c.in-Texts.is)
    (Texts-merged c.args.types.now c.requires.types c.args.later.now places.items c.in-Texts.set c.place_copies.new.set c.texts.result.now c.texts.ensures k p))
