-- Columns, read one after another.
use Rattle.std.proofs.Common.{◌≡◌, ℕ, ◌-◌, List, [], ◌∷◌, ◌++◌, map, Option, Some, None, refl, sym, ap, subst, ◌∙◌, Bor}
use Rattle.std.specs.Option.{option_map}
use Rattle.line_tokens.specs.Tokens.{Token, Placed, tokens_of}
use Rattle.type_names.specs.Syntax as syntax
use Rattle.type_names.specs.TypeTexts as texts
use Rattle.type_names.specs.declared.goal.Goal.TheVariants.{AnyType}
use Rattle.type_shapes.specs.Shapes.{Shape, Spells, nesting}
use Rattle.type_shapes.specs.Folds.{shape_of}
use Rattle.type_shapes.specs.Reading.{HasType, IsFound, ReadsType}
use Rattle.type_shapes.specs.declared.shape.TypeShape.{TypeShape}
use Rattle.line_forms.specs.Letters.{Letter, sign, name_part, Leads}
use Rattle.line_forms.specs.Tables.{IsShapeOf}
use Rattle.line_forms.specs.declared.name.WrittenName.{WrittenName}
use Rattle.request_lines.specs.proving.Judging.{a_name, in_type}
use Rattle.request_lines.specs.declared.rest.Rest.{Rest}
use Rattle.request_lines.specs.proving.Letters.{letters_left, IsFurther}
use Rattle.request_lines.specs.proving.Reads.{Passes, IsName, IsType, IsColumn}
use Rattle.request_lines.proofs.Found.{tokens_in}
use Rattle.request_lines.proofs.Leading.{leads_on}
use Rattle.request_lines.proofs.ListsRead.{further_on, passes_on}

-- ---- one column

tokens_seen : (whole : ℕ) (ts : List Placed) → tokens_in (map (λ (t : Placed). let l : Letter = (t.0, whole - t.1) in l) ts) ≡ map (λ (t : Placed). t.0) ts
tokens_seen whole [] = refl
tokens_seen whole (t ∷ ts) = ap (λ x. t.0 ∷ x) (tokens_seen whole ts)

leads_tokens : (ts : List Token) (a b : List Letter) → Leads (map sign ts) a b → tokens_in a ≡ ts ++ tokens_in b
leads_tokens [] a b h = ap tokens_in h
leads_tokens (t ∷ ts) [] b h = absurd h
leads_tokens (t ∷ ts) (l ∷ a) b h = ap (λ x. x ∷ tokens_in a) h.0 ∙ ap (λ x. t ∷ x) (leads_tokens ts a b h.2)

shape_found : (ty : texts.WrittenType) (more : List Token) (seen : Option (Shape × List ℕ)) (shape : Option Shape) → shape ≡ option_map (λ f. f.0) seen → IsFound 16 (nesting ty) (Spells ty) more seen → IsShapeOf ty shape
shape_found ty more None shape e h = subst (IsShapeOf ty) (sym e) h
shape_found ty more (Some f) shape e h = subst (IsShapeOf ty) (sym e) (h.spelled, h.within)

-- the tokens of a text whose letters lead with a type
type_tokens : (ty left : Rest) (t : texts.WrittenType) → Leads (map sign (texts.tokens_of t)) (letters_left ty) (letters_left left) → syntax.tokens_in ty.text.now ≡ texts.tokens_of t ++ tokens_in (letters_left left)
type_tokens ty left t leads = sym (tokens_seen ty.whole (tokens_of ty.text.now)) ∙ leads_tokens (texts.tokens_of t) (letters_left ty) (letters_left left) leads

pub type_in_front : (ty left : Rest) → IsType (letters_left ty) (letters_left left) → HasType ty.text.now
type_in_front ty left typed = (typed.0, tokens_in (letters_left left), typed.1, type_tokens ty left typed.0 typed.2)

-- a shape that was read, and what stands behind it
abbrev pub front_seen : Option (TypeShape × Bor (List ℕ)) → Option (Shape × List ℕ)
front_seen found = option_map (λ (f : TypeShape × Bor (List ℕ)). (shape_of f.0, f.1.now)) found

pub column_read : (rest ty left : Rest) (name : WrittenName) (shape : Option TypeShape) (seen : Option (Shape × List ℕ)) → IsName name (letters_left rest) (letters_left ty) → IsFurther rest ty → Passes (a_name ∷ []) rest ty
    → IsType (letters_left ty) (letters_left left) → IsFurther ty left → Passes (in_type AnyType ∷ []) ty left → ReadsType 16 ty.text.now seen → option_map shape_of shape ≡ option_map (λ f. f.0) seen
    → IsColumn (record { name = name; shape = shape }) (letters_left rest) (letters_left left) × IsFurther rest left × Passes (a_name ∷ in_type AnyType ∷ []) rest left
column_read rest ty left name shape seen named on passes typed on_type passes_type found same =
    let t = typed.0 in
    let tokens = type_tokens ty left t typed.2 in (
      (
        record { name = named.0; ty = t },
        typed.1,
        (named.2, shape_found t (tokens_in (letters_left left)) seen (option_map shape_of shape) same (found t (tokens_in (letters_left left)) typed.1 tokens)),
        leads_on (name_part named.0) (map sign (texts.tokens_of t)) (letters_left rest) (letters_left ty) (letters_left left) named.3 typed.2,
      ),
      further_on rest ty left on on_type,
      passes_on (a_name ∷ []) (in_type AnyType ∷ []) rest ty left on passes passes_type,
    )
