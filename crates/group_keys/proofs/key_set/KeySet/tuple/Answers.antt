use Rattle.std.proofs.Common.{◌∙◌, map, subst}
use Rattle.value_types.specs.Folds.{ty_of, value_of}
use Rattle.key_methods.proofs.Undone.{ok_as}
use Rattle.group_keys.specs.Sets.{IsSetOf}
use Rattle.group_keys.proofs.Codes.{fits-one}
use Rattle.group_keys.proofs.Unpacked.{fits-more, key-there, small-there, text-there, tuple-there, wide-there}
use Rattle.group_keys.proofs.key_set.KeySet.tuple.Goals as goal

pub width_of-width-requires : goal.width_of-width-requires
width_of-width-requires c =
    let set = subst (IsSetOf c.args.types.now) c.in-Words.is c.requires.set in
    fits-more (map ty_of c.args.types.now) (fits-one c.args.types.now c.requires.types set.1.keys.0)

pub unpack-requires-clause-packed : goal.unpack-requires-clause-packed
unpack-requires-clause-packed c =
    key-there c.args.types.now c.args.place c.args.self.now _ c.requires.set
    (small-there c.args.types.now c.args.place c.args.self.now c.requires.place c.in-Words.set c.as_slice-words.result.now c.width_of-width.result c.in-Words.is c.as_slice-words.ensures.keys c.width_of-width.ensures)

pub unpack-requires-in-Wide-clause-packed : goal.unpack-requires-in-Wide-clause-packed
unpack-requires-in-Wide-clause-packed c =
    key-there c.args.types.now c.args.place c.args.self.now _ c.requires.set
    (wide-there c.args.types.now c.args.place c.args.self.now c.requires.place c.in-Wide.set c.as_slice-words-in-Wide.result.now c.width_of-width-in-Wide.result c.in-Wide.is c.as_slice-words-in-Wide.ensures.keys c.width_of-width-in-Wide.ensures)

pub unpack-requires-in-Texts-clause-packed : goal.unpack-requires-in-Texts-clause-packed
unpack-requires-in-Texts-clause-packed c =
    key-there c.args.types.now c.args.place c.args.self.now _ c.requires.set
    (text-there c.args.types.now c.args.place c.args.self.now c.requires.place c.in-Texts.set c.as_slice-texts.result.now c.index-texts-place.result c.in_ok-bytes-in-Texts.bytes c.in-Texts.is c.as_slice-texts.ensures.keys c.index-texts-place.is
    (c.in_ok-bytes-in-Texts.ensures ∙ c.as_slice.ensures.value))

pub returns-in-Words : goal.returns-in-Words
returns-in-Words c =
    ok_as c.unpack.result _ _
    (λ values undone. tuple-there c.args.types.now c.args.place c.args.self.now _ (map value_of values)
    (small-there c.args.types.now c.args.place c.args.self.now c.requires.place c.in-Words.set c.as_slice-words.result.now c.width_of-width.result c.in-Words.is c.as_slice-words.ensures.keys c.width_of-width.ensures) undone)
    c.unpack.ensures

pub returns-in-Wide : goal.returns-in-Wide
returns-in-Wide c =
    ok_as c.unpack-in-Wide.result _ _
    (λ values undone. tuple-there c.args.types.now c.args.place c.args.self.now _ (map value_of values)
    (wide-there c.args.types.now c.args.place c.args.self.now c.requires.place c.in-Wide.set c.as_slice-words-in-Wide.result.now c.width_of-width-in-Wide.result c.in-Wide.is c.as_slice-words-in-Wide.ensures.keys c.width_of-width-in-Wide.ensures) undone)
    c.unpack-in-Wide.ensures

pub returns-in_ok-bytes-in-Texts : goal.returns-in_ok-bytes-in-Texts
returns-in_ok-bytes-in-Texts c =
    ok_as c.unpack-in-Texts.result _ _
    (λ values undone. tuple-there c.args.types.now c.args.place c.args.self.now _ (map value_of values)
    (text-there c.args.types.now c.args.place c.args.self.now c.requires.place c.in-Texts.set c.as_slice-texts.result.now c.index-texts-place.result c.in_ok-bytes-in-Texts.bytes c.in-Texts.is c.as_slice-texts.ensures.keys c.index-texts-place.is
    (c.in_ok-bytes-in-Texts.ensures ∙ c.as_slice.ensures.value)) undone)
    c.unpack-in-Texts.ensures
