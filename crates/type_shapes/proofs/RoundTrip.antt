-- What is printed reads back.
use Rattle.std.proofs.Common.{◌≡◌, ℕ, ◌≤◌, List, [], ◌∷◌, Option, Some, Result, Ok, Err, refl, sym, ap, subst, ◌∙◌, append-nil, arith}
use Rattle.agg_typing.specs.Literals.{Literal, Int, Decimal, Text}
use Rattle.line_tokens.specs.Tokens.{Token, integer, decimal, quoted}
use Rattle.type_names.specs.Syntax.{tokens_in}
use Rattle.type_names.specs.TypeTexts.{WrittenType as Written, WrittenTypes as WrittenTypes, plain, array, map_of, nullable, state, none, and_one, IsType, tokens_of}
use Rattle.type_texts.specs.TypeNames.{ty_text}
use Rattle.type_shapes.specs.declared.shape.TypeShape.{TypeShape}
use Rattle.type_shapes.specs.declared.shape.ShapeFault.{ShapeFault}
use Rattle.type_shapes.specs.Answer.{IsShapeAnswer}
use Rattle.type_shapes.specs.Folds.{shape_of}
use Rattle.type_shapes.specs.Literals.{IsLiteral, AreRead}
use Rattle.type_shapes.specs.ReadsBack.{shape_in, IsShapeUnlessMemory, TypesReadBack}
use Rattle.type_shapes.specs.Shapes.{Shape, Shapes, Arr, MapOf, Nullable, State, no_shapes, a_shape, Spells, AllSpell, nesting}
use Rattle.type_shapes.proofs.OneText.{HasOneAnswer, one_text}
use Rattle.type_shapes.proofs.Printed.{RoundTrip}
use Rattle.type_shapes.proofs.PrintedTypes.{type_printed}

-- what is written has one shape

one_literal : HasOneAnswer → (t : Token) (l k : Literal) → IsLiteral t l → IsLiteral t k → l ≡ k
one_literal law (integer text) (Int m) (Int n) h g = ap Int (h ∙ sym g)
one_literal law (decimal text) (Decimal u p) (Decimal v q) h g = ap (λ x. Decimal x p) (h.0 ∙ sym g.0) ∙ ap (λ x. Decimal v x) (h.1 ∙ sym g.1)
one_literal law (quoted inside) (Text one) (Text other) h g = ap Text (one_text law inside one other h g)
one_literal law (integer text) (Int m) k h g = absurd g
one_literal law (decimal text) (Decimal u p) k h g = absurd g
one_literal law (quoted inside) (Text one) k h g = absurd g
one_literal law t l k h g = absurd h

one_list : HasOneAnswer → (ts : List Token) (ls ks : List Literal) → AreRead ts ls → AreRead ts ks → ls ≡ ks
one_list law [] [] [] h g = refl
one_list law (t ∷ ts) (l ∷ ls) (k ∷ ks) h g = ap (λ x. x ∷ ls) (one_literal law t l k h.0 g.0) ∙ ap (λ x. k ∷ x) (one_list law ts ls ks h.1 g.1)
one_list law [] [] (k ∷ ks) h g = absurd g
one_list law [] (l ∷ ls) ks h g = absurd h
one_list law (t ∷ ts) [] ks h g = absurd h
one_list law (t ∷ ts) (l ∷ ls) [] h g = absurd g

some_is : (a b : Shape) → (let o : Option Shape = Some a in o) ≡ Some b → a ≡ b
some_is a b e = cc

mutual
  pub one_shape : HasOneAnswer → (w : Written) (s r : Shape) → Spells w s → Spells w r → s ≡ r
  one_shape law (plain name) s r h g = some_is s r (sym h ∙ g)
  one_shape law (array ty) (Arr s) (Arr r) h g = ap Arr (one_shape law ty s r h g)
  one_shape law (array ty) (Arr s) r h g = absurd g
  one_shape law (array ty) s r h g = absurd h
  one_shape law (map_of key ty) (MapOf j s) (MapOf k r) h g = ap (λ x. MapOf x s) (one_shape law key j k h.0 g.0) ∙ ap (λ x. MapOf k x) (one_shape law ty s r h.1 g.1)
  one_shape law (map_of key ty) (MapOf j s) r h g = absurd g
  one_shape law (map_of key ty) s r h g = absurd h
  one_shape law (nullable ty) (Nullable s) (Nullable r) h g = ap Nullable (one_shape law ty s r h g)
  one_shape law (nullable ty) (Nullable s) r h g = absurd g
  one_shape law (nullable ty) s r h g = absurd h
  one_shape law (state name literals types) (State n ls ss) (State m ks rs) h g =
      ap (λ x. State x ls ss) (h.0 ∙ sym g.0) ∙ ap (λ x. State m x ss) (one_list law literals ls ks h.1 g.1) ∙ ap (λ x. State m ks x) (one_shapes law types ss rs h.2 g.2)
  one_shape law (state name literals types) (State n ls ss) r h g = absurd g
  one_shape law (state name literals types) s r h g = absurd h

  one_shapes : HasOneAnswer → (ws : WrittenTypes) (ss rs : Shapes) → AllSpell ws ss → AllSpell ws rs → ss ≡ rs
  one_shapes law none no_shapes no_shapes h g = refl
  one_shapes law (and_one ty types) (a_shape s ss) (a_shape r rs) h g = ap (λ x. a_shape x ss) (one_shape law ty s r h.0 g.0) ∙ ap (λ x. a_shape r x) (one_shapes law types ss rs h.1 g.1)
  one_shapes law none no_shapes (a_shape r rs) h g = absurd g
  one_shapes law none (a_shape s ss) rs h g = absurd h
  one_shapes law (and_one ty types) no_shapes rs h g = absurd h
  one_shapes law (and_one ty types) (a_shape s ss) no_shapes h g = absurd g

-- a text spells one written type
abbrev pub HasOneType : Type 0
HasOneType = (tokens : List Token) (one other : Written) → IsType tokens one → IsType tokens other → one ≡ other

by_answer : HasOneType → HasOneAnswer → (text : List ℕ) (w : Written) (shape : Shape) (answer : Result TypeShape ShapeFault) → IsType (tokens_in text) w → Spells w shape → nesting w ≤ 16 → IsShapeAnswer text answer → IsShapeUnlessMemory shape answer
by_answer types texts text w shape (Ok read) is spelled few h =
    let same = types (tokens_in text) h.0 w h.1 is in
    one_shape texts w (shape_of read) shape (subst (λ x. Spells x (shape_of read)) same h.2) spelled
by_answer types texts text w shape (Err (ShapeFault.Syntax at)) is spelled few h = absurd (h.1.0 w is)
by_answer types texts text w shape (Err ShapeFault.Depth) is spelled few h =
    let same = ap nesting (types (tokens_in text) h.0 w h.1 is) in let deep = h.2 in absurd (omega (arith, same, deep, few))
by_answer types texts text w shape (Err ShapeFault.OutOfMemory) is spelled few h = refl

pub types_read_back : HasOneType → HasOneAnswer → RoundTrip → TypesReadBack
types_read_back types texts escapes t answer parts few h =
    let p = type_printed escapes t parts in
    let whole : tokens_in (ty_text t) ≡ tokens_of p.written = ap tokens_in (sym (append-nil (ty_text t))) ∙ p.first [] tt ∙ append-nil (tokens_of p.written) in
    let depth = p.depth in
    by_answer types texts (ty_text t) p.written (shape_in t) answer (p.fits, whole) p.spelled (omega (arith, depth, few)) h
