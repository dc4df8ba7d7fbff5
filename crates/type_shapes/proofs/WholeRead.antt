-- A whole text that spells a type.
use Rattle.std.proofs.Common.{◌≡◌, ℕ, ◌<◌, ◌≤◌, List, [], Option, Some, None, Bor, sym, subst, ◌∙◌, append-nil}
use Rattle.type_names.specs.Syntax.{tokens_in, IsTypeFault}
use Rattle.type_names.specs.TypeTexts.{WrittenType as Written, IsType, tokens_of}
use Rattle.type_shapes.specs.declared.shape.TypeShape.{TypeShape}
use Rattle.type_shapes.specs.Folds.{shape_of}
use Rattle.type_shapes.specs.Reading.{ReadsType}
use Rattle.type_shapes.specs.Shapes.{Spells, nesting}
use Rattle.type_shapes.proofs.Lists.{type_seen}

pub whole_shape : (text : List ℕ) (fault : Option ℕ) (found : Option (TypeShape × Bor (List ℕ))) (shape : TypeShape) (rest : Bor (List ℕ)) → fault ≡ None → IsTypeFault text fault → found ≡ Some (shape, rest) → ReadsType 16 text (type_seen found)
    → (written : Written) × IsType (tokens_in text) written × Spells written (shape_of shape) × (nesting written ≤ 16)
whole_shape text fault found shape rest none h is reads =
    let spelled : IsTypeFault text None = subst (IsTypeFault text) none h in
    let r = subst (λ o. ReadsType 16 text (type_seen o)) is reads spelled.0 [] spelled.1.0 (spelled.1.1 ∙ sym (append-nil (tokens_of spelled.0))) in
    (spelled.0, spelled.1, r.spelled, r.within)

pub whole_deep : (text : List ℕ) (fault : Option ℕ) (found : Option (TypeShape × Bor (List ℕ))) → fault ≡ None → IsTypeFault text fault → found ≡ None → ReadsType 16 text (type_seen found)
    → (written : Written) × IsType (tokens_in text) written × (16 < nesting written)
whole_deep text fault found none h is reads =
    let spelled : IsTypeFault text None = subst (IsTypeFault text) none h in
    let r = subst (λ o. ReadsType 16 text (type_seen o)) is reads spelled.0 [] spelled.1.0 (spelled.1.1 ∙ sym (append-nil (tokens_of spelled.0))) in
    (spelled.0, spelled.1, r)
