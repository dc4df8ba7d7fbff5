use Rattle.std.proofs.Common.{◌∙◌, subst, sym}
use Rattle.key_methods.proofs.Undone.{ok_as}
use Rattle.group_keys.specs.Sets.{IsSetOf}
use Rattle.group_keys.proofs.AllPlaced.{tuples-in-order, wide-in-order, words-in-order}
use Rattle.group_keys.proofs.key_set.KeySet.places_in_order.Goals as goal

pub returns-in-Words : goal.returns-in-Words
returns-in-Words c =
    let types = c.args.types.now in
    let set = subst (IsSetOf types) c.in-Words.is c.requires.set in
    ok_as c.word_places.result _ _
    (λ places put. words-in-order types c.requires.types places.items c.args.self.now c.in-Words.set c.first_half.result c.as_slice.result.now c.in-Words.is c.first_half.ensures.value c.as_slice.ensures.keys set.1.keys.0 put)
    c.word_places.ensures

pub returns-in-Texts : goal.returns-in-Texts
returns-in-Texts c =
    ok_as c.tuple_places-in-Texts.result _ _ (λ places put. tuples-in-order c.args.types.now c.args.self.now places.items put) c.tuple_places-in-Texts.ensures

pub returns-then-are_unsigned : goal.returns-then-are_unsigned
returns-then-are_unsigned c =
    let types = c.args.types.now in
    ok_as c.number_places.result _ _
    (λ places put. wide-in-order types c.requires.types places.items c.args.self.now c.in-Wide.set c.as_slice-then-are_unsigned.result.now c.in-Wide.is c.as_slice-then-are_unsigned.ensures.keys (sym c.are_unsigned.ensures ∙ c.if-are_unsigned.true) put)
    c.number_places.ensures

pub returns-else-are_unsigned : goal.returns-else-are_unsigned
returns-else-are_unsigned c =
    ok_as c.tuple_places.result _ _ (λ places put. tuples-in-order c.args.types.now c.args.self.now places.items put) c.tuple_places.ensures
