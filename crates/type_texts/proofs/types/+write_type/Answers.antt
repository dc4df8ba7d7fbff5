use Rattle.std.proofs.Common.{◌≡◌, ◌++◌, codes, sym, ap, subst, ◌∙◌}
use Rattle.std.specs.Prelude.{OnOk}
use Rattle.value_types.specs.Folds.{chain_of, ty_of}
use Rattle.type_texts.specs.TypeNames.{chain_text, ty_text}
use Rattle.type_texts.proofs.Behind.{three}
use Rattle.type_texts.proofs.TypesWritten.{listed, array_text, nullable_text, map_text, state_text}
use Rattle.type_texts.proofs.types.+write_type.Goals as goal

pub write_type-returns-in_ok-write_type-in-Arr : goal.write_type-returns-in_ok-write_type-in-Arr
write_type-returns-in_ok-write_type-in-Arr t c =
    let whole : ty_text (ty_of c.args.ty.now) ≡ codes "Array(" ++ (ty_text (ty_of c.get.result.now) ++ codes ")") =
    ap (λ x. ty_text (ty_of x)) c.in-Arr.is ∙ array_text c.in-Arr.item ∙ ap (λ x. codes "Array(" ++ (ty_text (ty_of x) ++ codes ")")) (sym c.get.ensures) in
    subst (λ w. OnOk c.extend_from_slice-in-Arr-2.result (c.extend_from_slice-in-Arr-2.new.self ≡ c.args.text.now ++ w)) (sym whole)
    (three _ _ _ _ _ _ _ c.extend_from_slice-in-Arr-2.result c.in_ok-extend_from_slice-in-Arr.ensures.ok c.in_ok-write_type-in-Arr.ensures c.extend_from_slice-in-Arr-2.ensures.ok)

pub write_type-returns-in_ok-write_type-in-Nullable : goal.write_type-returns-in_ok-write_type-in-Nullable
write_type-returns-in_ok-write_type-in-Nullable t c =
    let whole : ty_text (ty_of c.args.ty.now) ≡ codes "Nullable(" ++ (ty_text (ty_of c.get-in-Nullable.result.now) ++ codes ")") =
    ap (λ x. ty_text (ty_of x)) c.in-Nullable.is ∙ nullable_text c.in-Nullable.of ∙ ap (λ x. codes "Nullable(" ++ (ty_text (ty_of x) ++ codes ")")) (sym c.get-in-Nullable.ensures) in
    subst (λ w. OnOk c.extend_from_slice-in-Nullable-2.result (c.extend_from_slice-in-Nullable-2.new.self ≡ c.args.text.now ++ w)) (sym whole)
    (three _ _ _ _ _ _ _ c.extend_from_slice-in-Nullable-2.result c.in_ok-extend_from_slice-in-Nullable.ensures.ok c.in_ok-write_type-in-Nullable.ensures c.extend_from_slice-in-Nullable-2.ensures.ok)

pub write_type-returns-in_ok-write_type-in-Map-2 : goal.write_type-returns-in_ok-write_type-in-Map-2
write_type-returns-in_ok-write_type-in-Map-2 t c =
    let whole : ty_text (ty_of c.args.ty.now) ≡ codes "Map(" ++ (ty_text (ty_of c.get-in-Map.result.now) ++ (codes ", " ++ (ty_text (ty_of c.get-in-Map-2.result.now) ++ codes ")"))) =
    ap (λ x. ty_text (ty_of x)) c.in-Map.is ∙ map_text c.in-Map.key c.in-Map.item
    ∙ ap (λ x. codes "Map(" ++ (ty_text (ty_of x) ++ (codes ", " ++ (ty_text (ty_of c.in-Map.item) ++ codes ")")))) (sym c.get-in-Map.ensures)
    ∙ ap (λ x. codes "Map(" ++ (ty_text (ty_of c.get-in-Map.result.now) ++ (codes ", " ++ (ty_text (ty_of x) ++ codes ")")))) (sym c.get-in-Map-2.ensures) in
    subst (λ w. OnOk c.extend_from_slice-in-Map-3.result (c.extend_from_slice-in-Map-3.new.self ≡ c.args.text.now ++ w)) (sym whole)
    (three _ _ _ _ _ _ _ c.extend_from_slice-in-Map-3.result c.in_ok-extend_from_slice-in-Map.ensures.ok c.in_ok-write_type-in-Map.ensures
    (three _ _ _ _ _ _ _ c.extend_from_slice-in-Map-3.result c.in_ok-extend_from_slice-in-Map-2.ensures.ok c.in_ok-write_type-in-Map-2.ensures c.extend_from_slice-in-Map-3.ensures.ok))

pub write_type-returns-in_ok-write_call-in-State : goal.write_type-returns-in_ok-write_call-in-State
write_type-returns-in_ok-write_call-in-State t c =
    let whole : ty_text (ty_of c.args.ty.now) ≡ codes "AggregateFunction(" ++ (chain_text (chain_of c.get-in-State.result.now) ++ listed c.as_slice.result.now) =
    ap (λ x. ty_text (ty_of x)) c.in-State.is ∙ state_text c.in-State.chain c.in-State.args
    ∙ ap (λ x. codes "AggregateFunction(" ++ (chain_text (chain_of x) ++ listed c.in-State.args)) (sym c.get-in-State.ensures)
    ∙ ap (λ x. codes "AggregateFunction(" ++ (chain_text (chain_of c.get-in-State.result.now) ++ listed x)) (sym c.as_slice.ensures) in
    subst (λ w. OnOk c.write_types.result (c.write_types.new.text ≡ c.args.text.now ++ w)) (sym whole)
    (three _ _ _ _ _ _ _ c.write_types.result c.in_ok-extend_from_slice-in-State.ensures.ok c.in_ok-write_call-in-State.ensures c.write_types.ensures)
