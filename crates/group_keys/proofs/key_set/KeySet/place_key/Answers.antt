use Rattle.std.proofs.Common.{refl, subst, sym}
use Rattle.group_keys.specs.proving.Packed.{PlacesKey}
use Rattle.group_keys.specs.declared.key_set.KeySet.TheVariants.{Words, Wide, Texts}
use Rattle.group_keys.proofs.Merged.{One-added, Texts-added, Wide-added, Words-added}
use Rattle.group_keys.proofs.Placing.{ok_of}
use Rattle.group_keys.proofs.key_set.KeySet.place_key.Goals as goal

pub returns-in-One : goal.returns-in-One
returns-in-One c = subst (λ s. PlacesKey s s c.args.key.now 0) (sym c.in-One.is) (One-added c.args.key.now 0 refl)

pub returns-in-Words : goal.returns-in-Words
returns-in-Words c =
    ok_of c.place_number.result c.place_number.ensures.keys c.place_number.ensures.place
    (λ k place p. subst (λ s. PlacesKey s (Words c.place_number.new.set) c.args.key.now place) (sym c.in-Words.is)
    (Words-added c.args.key.now place c.in-Words.set c.place_number.new.set c.small_word.result c.small_word.ensures k p))

pub returns-in-Wide : goal.returns-in-Wide
returns-in-Wide c =
    ok_of c.place_number-in-Wide.result c.place_number-in-Wide.ensures.keys c.place_number-in-Wide.ensures.place
    (λ k place p. subst (λ s. PlacesKey s (Wide c.place_number-in-Wide.new.set) c.args.key.now place) (sym c.in-Wide.is)
    (Wide-added c.args.key.now place c.in-Wide.set c.place_number-in-Wide.new.set c.wide_word.result c.wide_word.ensures k p))

pub returns-in-Texts : goal.returns-in-Texts
returns-in-Texts c =
    ok_of c.place_text.result c.place_text.ensures.keys c.place_text.ensures.place
    (λ k place p. subst (λ s. PlacesKey s (Texts c.place_text.new.set) c.args.key.now place) (sym c.in-Texts.is)
    (Texts-added c.args.key.now place c.in-Texts.set c.place_text.new.set c.long_bytes.result.now c.long_bytes.ensures k p))
