-- Lists as the code holds them, and as the definitions see them.
use Rattle.std.proofs.Common.{◌≡◌, ℕ, List, [], ◌∷◌, ◌++◌, map, Option, Some, None, Bor, refl, sym, ap, subst, ◌∙◌}
use Rattle.std.specs.Option.{option_map}
use Rattle.std.specs.Prelude.{MatchOption}
use Rattle.agg_typing.specs.Literals.{Literal as Family}
use Rattle.line_tokens.specs.Tokens.{Token}
use Rattle.value_types.specs.declared.literal.Literal.{Literal}
use Rattle.type_shapes.specs.declared.shape.TypeShape.{TypeShape}
use Rattle.chain_params.specs.Literals.{literal_of}
use Rattle.type_shapes.specs.Folds.{shape_of}
use Rattle.type_shapes.specs.Literals.{IsLiteral}
use Rattle.type_shapes.specs.Shapes.{Shape}

pub map_push : {X Y : Type 0} (f : X → Y) (xs new : List X) (x : X) → new ≡ xs ++ x ∷ [] → map f new ≡ map f xs ++ f x ∷ []
map_push {X} {Y} f xs new x e = ap (map f) e ∙ pushed xs
  where
    pushed : (xs : List X) → map f (xs ++ x ∷ []) ≡ map f xs ++ f x ∷ []
    pushed [] = refl
    pushed (y ∷ ys) = ap (λ t. f y ∷ t) (pushed ys)

-- what a reader of a type found
abbrev pub type_seen : Option (TypeShape × Bor (List ℕ)) → Option (Shape × List ℕ)
type_seen found = option_map (λ (f : TypeShape × Bor (List ℕ)). (shape_of f.0, f.1.now)) found

abbrev pub types_seen : Option (List TypeShape × Bor (List ℕ)) → Option (List Shape × List ℕ)
types_seen found = option_map (λ (f : List TypeShape × Bor (List ℕ)). (map shape_of f.0, f.1.now)) found

abbrev pub literals_seen : Option (List Literal × Bor (List ℕ)) → Option (List Family × List ℕ)
literals_seen found = option_map (λ (f : List Literal × Bor (List ℕ)). (map literal_of f.0, f.1.now)) found

-- the literal that was found
pub some_literal : (P : Type 0) (token : Token) (found : Option Literal) (l : Literal) → found ≡ Some l → MatchOption found P (λ l. IsLiteral token (literal_of l)) → IsLiteral token (literal_of l)
some_literal P token found l is h = let Q : Option Literal → Type 0 = λ o. MatchOption o P (λ l. IsLiteral token (literal_of l)) in subst Q is h

-- the type without parts that was found, and that none was
pub some_shape : (found : Option TypeShape) (s : TypeShape) (other : Option Shape) → found ≡ Some s → option_map shape_of found ≡ other → other ≡ Some (shape_of s)
some_shape found s other is same = sym same ∙ ap (option_map shape_of) is

pub no_shape : (found : Option TypeShape) (other : Option Shape) → found ≡ None → option_map shape_of found ≡ other → other ≡ None
no_shape found other is same = sym same ∙ ap (option_map shape_of) is
