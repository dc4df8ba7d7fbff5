-- A text has one shape.
use Rattle.std.proofs.Common.{◌≡◌, ℕ, ◌<◌, ◌≤◌, List, length, Some, Result, Ok, Err, refl, sym, ap, subst, ◌∙◌, arith}
use Rattle.first_fault.proofs.Unique.{one_place}
use Rattle.line_tokens.specs.Tokens.{Token, tokens_of}
use Rattle.type_names.specs.Syntax.{IsTypeFault, place, tokens_in}
use Rattle.type_names.specs.TypeTexts.{WrittenType as Written, IsType}
use Rattle.type_shapes.specs.declared.shape.TypeShape.{TypeShape}
use Rattle.type_shapes.specs.declared.shape.ShapeFault.{ShapeFault}
use Rattle.type_shapes.specs.Answer.{IsShapeAnswer}
use Rattle.type_shapes.specs.Folds.{shape_of}
use Rattle.type_shapes.specs.OneShape.{IsSameShape, IsToldShape, OneShapeAnswer}
use Rattle.type_shapes.specs.Shapes.{Shape, Spells, nesting}
use Rattle.type_shapes.proofs.OneText.{HasOneAnswer}
use Rattle.type_shapes.proofs.RoundTrip.{one_shape}

abbrev Told : Type 0
Told = Result Shape ShapeFault

abbrev OneType : Type 0
OneType = (tokens : List Token) (one other : Written) → IsType tokens one → IsType tokens other → one ≡ other

-- what may be told of a text
abbrev Tells : List ℕ → Told → Type 0
Tells text (Ok shape) = (written : Written) × IsType (tokens_in text) written × Spells written shape × (nesting written ≤ 16)
Tells text (Err (ShapeFault.Syntax at)) = IsTypeFault text (Some at)
Tells text (Err ShapeFault.Depth) = (written : Written) × IsType (tokens_in text) written × (16 < nesting written)
Tells text (Err ShapeFault.OutOfMemory) = ⊥

told : (text : List ℕ) (answer : Result TypeShape ShapeFault) → IsShapeAnswer text answer → IsToldShape (Tells text) answer
told text (Ok shape) h = h
told text (Err (ShapeFault.Syntax at)) h = h
told text (Err ShapeFault.Depth) h = h
told text (Err ShapeFault.OutOfMemory) h = tt

told_so : (P Q : Told → Type 0) → ((t : Told) → P t → Q t) → (answer : Result TypeShape ShapeFault) → IsToldShape P answer → IsToldShape Q answer
told_so P Q f (Ok shape) h = f _ h
told_so P Q f (Err (ShapeFault.Syntax at)) h = f _ h
told_so P Q f (Err ShapeFault.Depth) h = f _ h
told_so P Q f (Err ShapeFault.OutOfMemory) h = tt

module _ (types : OneType) (texts : HasOneAnswer) (text : List ℕ) where
  no_type : (at : ℕ) (w : Written) → IsTypeFault text (Some at) → IsType (tokens_in text) w → ⊥
  no_type at w h g = h.1.0 w g

  one_deep : (v w : Written) → IsType (tokens_in text) v → IsType (tokens_in text) w → nesting v ≤ 16 → 16 < nesting w → ⊥
  one_deep v w h g few many =
      let same : nesting v ≡ nesting w = ap nesting (types (tokens_in text) v w h g) in
      absurd (omega (arith, same, few, many))

  one_tells : (a b : Told) → Tells text a → Tells text b → a ≡ b
  one_tells (Ok s) (Ok r) h g =
      ap Ok (one_shape texts g.0 s r (subst (λ w. Spells w s) (types (tokens_in text) h.0 g.0 h.1 g.1) h.2) g.2)
  one_tells (Err (ShapeFault.Syntax at)) (Err (ShapeFault.Syntax to)) h g =
      ap (λ n. Err (ShapeFault.Syntax n))
      (h.2 ∙ ap (λ n. place (length text) n (tokens_of text)) (one_place IsType (tokens_in text) h.0 g.0 h.1 g.1) ∙ sym g.2)
  one_tells (Err ShapeFault.Depth) (Err ShapeFault.Depth) h g = refl
  one_tells (Ok s) (Err (ShapeFault.Syntax at)) h g = absurd (no_type at h.0 g h.1)
  one_tells (Err (ShapeFault.Syntax at)) (Ok s) h g = absurd (no_type at g.0 h g.1)
  one_tells (Err ShapeFault.Depth) (Err (ShapeFault.Syntax at)) h g = absurd (no_type at h.0 g h.1)
  one_tells (Err (ShapeFault.Syntax at)) (Err ShapeFault.Depth) h g = absurd (no_type at g.0 h g.1)
  one_tells (Ok s) (Err ShapeFault.Depth) h g = absurd (one_deep h.0 g.0 h.1 g.1 h.3 g.2)
  one_tells (Err ShapeFault.Depth) (Ok s) h g = absurd (one_deep g.0 h.0 g.1 h.1 g.3 h.2)
  one_tells (Err ShapeFault.OutOfMemory) b h g = absurd h
  one_tells a (Err ShapeFault.OutOfMemory) h g = absurd g

pub one_shape_answer : OneType → HasOneAnswer → OneShapeAnswer
one_shape_answer types texts text one other h g =
    told_so (Tells text) (λ a. IsToldShape (λ b. a ≡ b) other)
    (λ a x. told_so (Tells text) (λ b. a ≡ b) (λ b y. one_tells types texts text a b x y) other (told text other g)) one (told text one h)
