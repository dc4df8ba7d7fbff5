use Rattle.std.proofs.Common.{◌-◌, ◌∙◌, ap, map, subst, sym}
use Rattle.value_types.specs.Folds.{ty_of}
use Rattle.key_methods.specs.Kinds.{kind_of}
use Rattle.key_methods.proofs.Undone.{ok_as}
use Rattle.key_columns.specs.Words.{key_tuples}
use Rattle.group_keys.specs.Sets.{IsSetOf, Places}
use Rattle.group_keys.specs.declared.key_set.KeySet.TheVariants.{Words, Wide, Texts}
use Rattle.group_keys.proofs.Codes.{fits-one, is_word, one-word}
use Rattle.group_keys.proofs.Placing.{One-rows, Texts-placed, Wide-placed, Words-placed, number-rows, ok_of, on_both, text-rows}
use Rattle.group_keys.proofs.key_set.KeySet.place_rows.Goals as goal

pub key_words-requires-clause-plain : goal.key_words-requires-clause-plain
key_words-requires-clause-plain c =
    let set = subst (IsSetOf c.args.types.now) c.in-Words.is c.requires.set in
    fits-one c.args.types.now c.requires.types set.1.keys.0

pub returns-in-One : goal.returns-in-One
returns-in-One c =
    ok_as c.all_at_first.result _ _
    (λ places is. subst (λ s. Places c.args.types.now s s (key_tuples c.args.columns.now c.args.keys.now c.args.from (c.args.to - c.args.from)) places.items) (sym c.in-One.is)
    (One-rows c.args.types.now c.args.columns.now c.args.keys.now c.args.from c.args.to c.requires.order c.requires.columns places.items is))
    c.all_at_first.ensures

pub returns-in_ok-words-in-Words : goal.returns-in_ok-words-in-Words
returns-in_ok-words-in-Words c =
    let types = c.args.types.now in
    let rows = key_tuples c.args.columns.now c.args.keys.now c.args.from (c.args.to - c.args.from) in
    let set = subst (IsSetOf types) c.in-Words.is c.requires.set in
    let all = number-rows types c.args.columns.now c.args.keys.now c.args.from c.args.to c.requires.order c.requires.columns (one-word (kind_of (map ty_of types)) set.1.keys.0) in
    ok_of c.place_numbers.result c.place_numbers.ensures.keys c.place_numbers.ensures.places
    (λ k places p. subst (λ s. Places types s (Words c.place_numbers.new.set) rows places.items) (sym c.in-Words.is)
    (Words-placed types c.requires.types rows all places.items c.in-Words.set c.place_numbers.new.set c.deref.result.now
    (c.deref.ensures.value ∙ c.in_ok-words-in-Words.ensures) k p))

pub returns-in_ok-words-in-Wide : goal.returns-in_ok-words-in-Wide
returns-in_ok-words-in-Wide c =
    let types = c.args.types.now in
    let rows = key_tuples c.args.columns.now c.args.keys.now c.args.from (c.args.to - c.args.from) in
    let set = subst (IsSetOf types) c.in-Wide.is c.requires.set in
    let all = number-rows types c.args.columns.now c.args.keys.now c.args.from c.args.to c.requires.order c.requires.columns (ap is_word set.1.keys.0) in
    ok_of c.place_numbers-in-Wide.result c.place_numbers-in-Wide.ensures.keys c.place_numbers-in-Wide.ensures.places
    (λ k places p. subst (λ s. Places types s (Wide c.place_numbers-in-Wide.new.set) rows places.items) (sym c.in-Wide.is)
    (Wide-placed types c.requires.types rows all places.items c.in-Wide.set c.place_numbers-in-Wide.new.set c.deref-in-Wide.result.now
    (c.deref-in-Wide.ensures.value ∙ c.in_ok-words-in-Wide.ensures) k p))

pub returns-in-Texts : goal.returns-in-Texts
returns-in-Texts c =
    let types = c.args.types.now in
    let rows = key_tuples c.args.columns.now c.args.keys.now c.args.from (c.args.to - c.args.from) in
    ok_of c.place_texts.result (on_both _ _ c.place_texts.result c.place_texts.ensures.keys c.place_texts.ensures.short) c.place_texts.ensures.places
    (λ k places p. subst (λ s. Places types s (Texts c.place_texts.new.set) rows places.items) (sym c.in-Texts.is)
    (Texts-placed types c.requires.types rows (text-rows types c.args.columns.now c.args.keys.now c.args.from c.args.to c.requires.order c.requires.columns k.1) places.items
    c.in-Texts.set c.place_texts.new.set k.0 p))
