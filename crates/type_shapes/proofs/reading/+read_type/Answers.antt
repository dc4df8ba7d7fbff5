use Rattle.std.proofs.Common.{sym, ap, subst, ◌∙◌, map, arith, rules, Some, codes}
use Rattle.chain_params.specs.Literals.{literal_of}
use Rattle.type_shapes.specs.Folds.{shape_of}
use Rattle.type_shapes.specs.Reading.{ReadsType, ReadsInside, ReadsBehind, ReadsTypes, ReadsLiterals}
use Rattle.type_shapes.specs.Shapes.{Arr, Nullable, MapOf, State, shapes}
use Rattle.type_shapes.proofs.FoldLaws.{shape_of-Arr, shape_of-Map, shape_of-Nullable, shape_of-State}
use Rattle.type_shapes.proofs.Lists.{type_seen, types_seen, literals_seen, map_push, some_shape, no_shape}
use Rattle.type_shapes.proofs.TypesRead.{no_levels, no_name, a_plain, another_name, deep_array, an_array, deep_nullable, a_nullable, unopened_map, deep_key, undivided, HasKey, deep_item, unclosed_map, a_map, unopened_state, unnamed, HasName, no_literals, deep_types, a_state}
use Rattle.type_shapes.proofs.ListsRead.{AtTypes, deep_type, type_more, types_end, types_break}
use Rattle.type_shapes.proofs.reading.+read_type.Goals as goal

-- ---- a type

pub read_type-returns-then-most-eq0-clause-read : goal.read_type-returns-then-most-eq0-clause-read
read_type-returns-then-most-eq0-clause-read t c = no_levels c.args.most c.args.text.now c.if-most-eq0.true

pub read_type-returns-in_default-clause-read : goal.read_type-returns-in_default-clause-read
read_type-returns-in_default-clause-read t c = no_name c.args.most c.args.text.now c.in_default.ensures.tokens

pub read_type-returns-in-Some-plain_shape-clause-read : goal.read_type-returns-in-Some-plain_shape-clause-read
read_type-returns-in-Some-plain_shape-clause-read t c =
    a_plain c.args.most c.args.text.now c.in-Some.name.now c.in-Some.rest.now (shape_of c.in-Some-plain_shape.plain) (omega (arith, c.if-most-eq0.false)) c.in-Some.ensures.tokens (some_shape c.plain_shape.result c.in-Some-plain_shape.plain _ c.in-Some-plain_shape.is c.plain_shape.ensures)

pub read_type-returns-clause-read : goal.read_type-returns-clause-read
read_type-returns-clause-read t c =
    another_name c.args.most c.args.text.now c.in-Some.name.now c.in-Some.rest.now c.in-Some.ensures.tokens (no_shape c.plain_shape.result _ c.in_default-plain_shape.is c.plain_shape.ensures)
    (sym c.is.ensures ∙ c.if-is.false) (sym c.is-2.ensures ∙ c.if-is-2.false) (sym c.is-3.ensures ∙ c.if-is-3.false) (sym c.is-4.ensures ∙ c.if-is-4.false)

-- ---- Array, Nullable

pub read_array-returns-in_default-clause-read : goal.read_array-returns-in_default-clause-read
read_array-returns-in_default-clause-read t c = deep_array c.args.most c.args.text.now (subst (λ o. ReadsInside c.args.most c.args.text.now (type_seen o)) c.in_default.is c.in_ok-item.ensures.read)

pub read_array-returns-clause-read : goal.read_array-returns-clause-read
read_array-returns-clause-read t c =
    subst (λ s. ReadsBehind (codes "Array") c.args.most c.args.text.now (Some (s, c.in-Some.rest.now))) (sym (shape_of-Arr c.in_ok-new.field-0 ∙ ap (λ x. Arr (shape_of x)) c.in_ok-new.ensures))
    (an_array c.args.most c.args.text.now c.in-Some.rest.now (shape_of c.in-Some.item) (subst (λ o. ReadsInside c.args.most c.args.text.now (type_seen o)) c.in-Some.is c.in_ok-item.ensures.read))

pub read_nullable-returns-in_default-clause-read : goal.read_nullable-returns-in_default-clause-read
read_nullable-returns-in_default-clause-read t c = deep_nullable c.args.most c.args.text.now (subst (λ o. ReadsInside c.args.most c.args.text.now (type_seen o)) c.in_default.is c.in_ok-of.ensures.read)

pub read_nullable-returns-clause-read : goal.read_nullable-returns-clause-read
read_nullable-returns-clause-read t c =
    subst (λ s. ReadsBehind (codes "Nullable") c.args.most c.args.text.now (Some (s, c.in-Some.rest.now))) (sym (shape_of-Nullable c.in_ok-new.field-0 ∙ ap (λ x. Nullable (shape_of x)) c.in_ok-new.ensures))
    (a_nullable c.args.most c.args.text.now c.in-Some.rest.now (shape_of c.in-Some.of) (subst (λ o. ReadsInside c.args.most c.args.text.now (type_seen o)) c.in-Some.is c.in_ok-of.ensures.read))

-- ---- Map

pub read_map-returns-in_default-clause-read : goal.read_map-returns-in_default-clause-read
read_map-returns-in_default-clause-read t c = unopened_map c.args.most c.args.text.now c.in_default.ensures.tokens

pub read_map-returns-in_default-2-clause-read : goal.read_map-returns-in_default-2-clause-read
read_map-returns-in_default-2-clause-read t c =
    deep_key c.args.most c.args.text.now c.in-Some.first.now c.in-Some.ensures.tokens (subst (λ o. ReadsType c.args.most c.in-Some.first.now (type_seen o)) c.in_default-2.is c.in_ok-key.ensures.read)

pub read_map-returns-in_default-behind-clause-read : goal.read_map-returns-in_default-behind-clause-read
read_map-returns-in_default-behind-clause-read t c =
    undivided c.args.most c.args.text.now c.in-Some.first.now c.in-Some-2.after_key.now (shape_of c.in-Some-2.key) c.in-Some.ensures.tokens (subst (λ o. ReadsType c.args.most c.in-Some.first.now (type_seen o)) c.in-Some-2.is c.in_ok-key.ensures.read) c.in_default-behind.ensures.tokens

pub read_map-returns-in_default-3-clause-read : goal.read_map-returns-in_default-3-clause-read
read_map-returns-in_default-3-clause-read t c =
    let key : HasKey c.args.most c.args.text.now c.in-Some-behind.second.now (shape_of c.in-Some-2.key) = record {
      first = c.in-Some.first.now;
      after = c.in-Some-2.after_key.now;
      opened = c.in-Some.ensures.tokens;
      reads = subst (λ o. ReadsType c.args.most c.in-Some.first.now (type_seen o)) c.in-Some-2.is c.in_ok-key.ensures.read;
      divided = c.in-Some-behind.ensures.tokens;
    } in
    deep_item c.args.most c.args.text.now c.in-Some-behind.second.now (shape_of c.in-Some-2.key) key (subst (λ o. ReadsType c.args.most c.in-Some-behind.second.now (type_seen o)) c.in_default-3.is c.in_ok-item.ensures.read)

pub read_map-returns-in_default-behind-2-clause-read : goal.read_map-returns-in_default-behind-2-clause-read
read_map-returns-in_default-behind-2-clause-read t c =
    let key : HasKey c.args.most c.args.text.now c.in-Some-behind.second.now (shape_of c.in-Some-2.key) = record {
      first = c.in-Some.first.now;
      after = c.in-Some-2.after_key.now;
      opened = c.in-Some.ensures.tokens;
      reads = subst (λ o. ReadsType c.args.most c.in-Some.first.now (type_seen o)) c.in-Some-2.is c.in_ok-key.ensures.read;
      divided = c.in-Some-behind.ensures.tokens;
    } in
    unclosed_map c.args.most c.args.text.now c.in-Some-behind.second.now c.in-Some-3.after_item.now (shape_of c.in-Some-2.key) (shape_of c.in-Some-3.item) key
    (subst (λ o. ReadsType c.args.most c.in-Some-behind.second.now (type_seen o)) c.in-Some-3.is c.in_ok-item.ensures.read) c.in_default-behind-2.ensures.tokens

pub read_map-returns-clause-read : goal.read_map-returns-clause-read
read_map-returns-clause-read t c =
    let key : HasKey c.args.most c.args.text.now c.in-Some-behind.second.now (shape_of c.in-Some-2.key) = record {
      first = c.in-Some.first.now;
      after = c.in-Some-2.after_key.now;
      opened = c.in-Some.ensures.tokens;
      reads = subst (λ o. ReadsType c.args.most c.in-Some.first.now (type_seen o)) c.in-Some-2.is c.in_ok-key.ensures.read;
      divided = c.in-Some-behind.ensures.tokens;
    } in
    subst (λ s. ReadsBehind (codes "Map") c.args.most c.args.text.now (Some (s, c.in-Some-behind-2.rest.now)))
    (sym (shape_of-Map c.in_ok-key-2.key c.in_ok-new.field-0 ∙ ap (λ x. MapOf (shape_of x) (shape_of c.in_ok-new.field-0)) c.in_ok-key-2.ensures ∙ ap (λ x. MapOf (shape_of c.in-Some-2.key) (shape_of x)) c.in_ok-new.ensures))
    (a_map c.args.most c.args.text.now c.in-Some-behind.second.now c.in-Some-3.after_item.now c.in-Some-behind-2.rest.now (shape_of c.in-Some-2.key) (shape_of c.in-Some-3.item) key
    (subst (λ o. ReadsType c.args.most c.in-Some-behind.second.now (type_seen o)) c.in-Some-3.is c.in_ok-item.ensures.read) c.in-Some-behind-2.ensures.tokens)

-- ---- AggregateFunction

pub read_state-returns-in_default-clause-read : goal.read_state-returns-in_default-clause-read
read_state-returns-in_default-clause-read t c = unopened_state c.args.most c.args.text.now c.in_default.ensures.tokens

pub read_state-returns-in_default-first_word-clause-read : goal.read_state-returns-in_default-first_word-clause-read
read_state-returns-in_default-first_word-clause-read t c = unnamed c.args.most c.args.text.now c.in-Some.inside.now c.in-Some.ensures.tokens c.in_default-first_word.ensures.tokens

pub read_state-returns-in_default-2-clause-read : goal.read_state-returns-in_default-2-clause-read
read_state-returns-in_default-2-clause-read t c =
    let name : HasName c.args.text.now c.in-Some-first_word.after_name.now c.in-Some-first_word.word.now = record { inside = c.in-Some.inside.now; opened = c.in-Some.ensures.tokens; named = c.in-Some-first_word.ensures.tokens } in
    no_literals c.args.most c.args.text.now c.in-Some-first_word.after_name.now c.in-Some-first_word.word.now name (subst (λ o. ReadsLiterals c.in-Some-first_word.after_name.now (literals_seen o)) c.in_default-2.is c.in_ok-literals.ensures.read)

pub read_state-returns-in_default-3-clause-read : goal.read_state-returns-in_default-3-clause-read
read_state-returns-in_default-3-clause-read t c =
    let name : HasName c.args.text.now c.in-Some-first_word.after_name.now c.in-Some-first_word.word.now = record { inside = c.in-Some.inside.now; opened = c.in-Some.ensures.tokens; named = c.in-Some-first_word.ensures.tokens } in
    deep_types c.args.most c.args.text.now c.in-Some-first_word.after_name.now c.in-Some-first_word.word.now c.in-Some-2.after_literals.now (map literal_of c.in-Some-2.literals) name
    (subst (λ o. ReadsLiterals c.in-Some-first_word.after_name.now (literals_seen o)) c.in-Some-2.is c.in_ok-literals.ensures.read)
    (subst (λ o. ReadsTypes c.args.most c.in-Some-2.after_literals.now (types_seen o)) c.in_default-3.is c.in_ok-types.ensures.read)

pub read_state-returns-clause-read : goal.read_state-returns-clause-read
read_state-returns-clause-read t c =
    let name : HasName c.args.text.now c.in-Some-first_word.after_name.now c.in-Some-first_word.word.now = record { inside = c.in-Some.inside.now; opened = c.in-Some.ensures.tokens; named = c.in-Some-first_word.ensures.tokens } in
    subst (λ s. ReadsBehind (codes "AggregateFunction") c.args.most c.args.text.now (Some (s, c.in-Some-3.rest.now)))
    (sym (shape_of-State c.in_ok-name.name c.in-Some-2.literals c.in-Some-3.types ∙ ap (λ n. State n (map literal_of c.in-Some-2.literals) (shapes (map shape_of c.in-Some-3.types))) c.in_ok-name.ensures))
    (a_state c.args.most c.args.text.now c.in-Some-first_word.after_name.now c.in-Some-first_word.word.now c.in-Some-2.after_literals.now c.in-Some-3.rest.now (map literal_of c.in-Some-2.literals) (map shape_of c.in-Some-3.types) name
    (subst (λ o. ReadsLiterals c.in-Some-first_word.after_name.now (literals_seen o)) c.in-Some-2.is c.in_ok-literals.ensures.read)
    (subst (λ o. ReadsTypes c.args.most c.in-Some-2.after_literals.now (types_seen o)) c.in-Some-3.is c.in_ok-types.ensures.read))

-- ---- types

pub read_types-returns-in_default-2-clause-read : goal.read_types-returns-in_default-2-clause-read
read_types-returns-in_default-2-clause-read t c =
    deep_type c.args.most c.args.text.now c.loop-after.rest.now c.in-Some.after.now (map shape_of c.loop-after.types) c.loop-after.invariant.0 c.in-Some.ensures.tokens
    (subst (λ o. ReadsType c.args.most c.in-Some.after.now (type_seen o)) c.in_default-2.is c.in_ok-shape.ensures.read)

pub read_types-loop-after-preserved : goal.read_types-loop-after-preserved
read_types-loop-after-preserved t c = (
  subst (AtTypes c.args.most c.args.text.now c.in-Some-2.left.now) (sym (map_push shape_of _ _ _ c.in_ok-push.ensures.ok))
      (type_more c.args.most c.args.text.now c.loop-after.rest.now c.in-Some.after.now c.in-Some-2.left.now (map shape_of c.loop-after.types) (shape_of c.in-Some-2.shape) c.loop-after.invariant.0 c.in-Some.ensures.tokens
      (subst (λ o. ReadsType c.args.most c.in-Some.after.now (type_seen o)) c.in-Some-2.is c.in_ok-shape.ensures.read)),
  search rules,
)

pub read_types-returns-in_default-behind-clause-read : goal.read_types-returns-in_default-behind-clause-read
read_types-returns-in_default-behind-clause-read t c =
    types_break c.args.most c.args.text.now c.loop-after.rest.now (map shape_of c.loop-after.types) c.loop-after.invariant.0 c.in_default.ensures.tokens c.in_default-behind.ensures.tokens

pub read_types-returns-clause-read : goal.read_types-returns-clause-read
read_types-returns-clause-read t c =
    types_end c.args.most c.args.text.now c.loop-after.rest.now c.in-Some-behind.after.now (map shape_of c.loop-after.types) c.loop-after.invariant.0 c.in-Some-behind.ensures.tokens
