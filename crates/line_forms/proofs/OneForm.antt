-- A line spells one form at most.
use Rattle.std.proofs.Common.{◌≡◌, List, [], ◌∷◌, Option, Some, None, refl, sym, ap, subst, ◌∙◌, arith}
use Rattle.agg_typing.specs.Literals.{Literal, Int, Decimal, Text}
use Rattle.line_tokens.specs.Tokens.{Token, integer, decimal, quoted}
use Rattle.type_names.specs.TypeTexts.{WrittenType as TypeText, WrittenTypes as TypeTexts, plain, array, map_of, nullable, state, none, and_one}
use Rattle.type_shapes.specs.Literals.{IsLiteral, AreRead}
use Rattle.type_shapes.specs.Shapes.{Shape, Shapes, Arr, MapOf, Nullable, State, no_shapes, a_shape, Spells, AllSpell}
use Rattle.type_shapes.proofs.OneText.{HasOneAnswer, one_text}
use Rattle.line_forms.specs.Letters.{EachPair, letters_of}
use Rattle.line_forms.specs.Tables.{ColumnText, Column, IsShapeOf, IsColumnOf}
use Rattle.line_forms.specs.Selects.{Params, no_params, params, CallText, SelectCall, AreParams, IsCallOf, SelectText, Select, IsSelectOf}
use Rattle.line_forms.specs.ScriptLines.{LineText, view, session, insert, load, read, states, Line, View, Session, Insert, Load, Read, States, IsLineOf}
use Rattle.line_forms.specs.Laws.{OneTable, OneSelect, OneLine}
use Rattle.line_forms.proofs.OneText.{one_table, one_select, one_line}

-- ---- literals and shapes

one_literal : HasOneAnswer → (t : Token) (l m : Literal) → IsLiteral t l → IsLiteral t m → l ≡ m
one_literal law (integer t) (Int n) (Int m) h k = ap Int (h ∙ sym k)
one_literal law (integer t) (Int n) m h k = absurd k
one_literal law (integer t) l m h k = absurd h
one_literal law (decimal t) (Decimal u p) (Decimal v q) h k = ap (λ x. Decimal x p) (h.0 ∙ sym k.0) ∙ ap (λ x. Decimal v x) (h.1 ∙ sym k.1)
one_literal law (decimal t) (Decimal u p) m h k = absurd k
one_literal law (decimal t) l m h k = absurd h
one_literal law (quoted t) (Text a) (Text b) h k = ap Text (one_text law t a b h k)
one_literal law (quoted t) (Text a) m h k = absurd k
one_literal law t l m h k = absurd h

one_literals : HasOneAnswer → (ts : List Token) (ls ms : List Literal) → AreRead ts ls → AreRead ts ms → ls ≡ ms
one_literals law [] [] [] h k = refl
one_literals law [] [] (m ∷ ms) h k = absurd k
one_literals law [] (l ∷ ls) ms h k = absurd h
one_literals law (t ∷ ts) [] ms h k = absurd h
one_literals law (t ∷ ts) (l ∷ ls) [] h k = absurd k
one_literals law (t ∷ ts) (l ∷ ls) (m ∷ ms) h k = ap (λ x. x ∷ ls) (one_literal law t l m h.0 k.0) ∙ ap (λ x. m ∷ x) (one_literals law ts ls ms h.1 k.1)

some_is : (s r : Shape) → (let o : Option Shape = Some s in o) ≡ Some r → s ≡ r
some_is s r e = cc

mutual
  one_shape : HasOneAnswer → (ty : TypeText) (s r : Shape) → Spells ty s → Spells ty r → s ≡ r
  one_shape law (plain name) s r h k = some_is s r (sym h ∙ k)
  one_shape law (array ty) (Arr s) (Arr r) h k = ap Arr (one_shape law ty s r h k)
  one_shape law (array ty) (Arr s) r h k = absurd k
  one_shape law (array ty) s r h k = absurd h
  one_shape law (map_of key ty) (MapOf a s) (MapOf b r) h k = ap (λ x. MapOf x s) (one_shape law key a b h.0 k.0) ∙ ap (λ x. MapOf b x) (one_shape law ty s r h.1 k.1)
  one_shape law (map_of key ty) (MapOf a s) r h k = absurd k
  one_shape law (map_of key ty) s r h k = absurd h
  one_shape law (nullable ty) (Nullable s) (Nullable r) h k = ap Nullable (one_shape law ty s r h k)
  one_shape law (nullable ty) (Nullable s) r h k = absurd k
  one_shape law (nullable ty) s r h k = absurd h
  one_shape law (state name literals types) (State n ls ss) (State m ms rs) h k =
      ap (λ x. State x ls ss) (h.0 ∙ sym k.0) ∙ ap (λ x. State m x ss) (one_literals law literals ls ms h.1 k.1) ∙ ap (λ x. State m ms x) (one_shapes law types ss rs h.2 k.2)
  one_shape law (state name literals types) (State n ls ss) r h k = absurd k
  one_shape law (state name literals types) s r h k = absurd h

  one_shapes : HasOneAnswer → (types : TypeTexts) (ss rs : Shapes) → AllSpell types ss → AllSpell types rs → ss ≡ rs
  one_shapes law none no_shapes no_shapes h k = refl
  one_shapes law none no_shapes (a_shape r rs) h k = absurd k
  one_shapes law none (a_shape s ss) rs h k = absurd h
  one_shapes law (and_one ty types) no_shapes rs h k = absurd h
  one_shapes law (and_one ty types) (a_shape s ss) no_shapes h k = absurd k
  one_shapes law (and_one ty types) (a_shape s ss) (a_shape r rs) h k = ap (λ x. a_shape x ss) (one_shape law ty s r h.0 k.0) ∙ ap (λ x. a_shape r x) (one_shapes law types ss rs h.1 k.1)

one_depth : HasOneAnswer → (ty : TypeText) (o p : Option Shape) → IsShapeOf ty o → IsShapeOf ty p → o ≡ p
one_depth law ty None None h k = refl
one_depth law ty None (Some r) h k = absurd (omega (arith, h, k.1))
one_depth law ty (Some s) None h k = absurd (omega (arith, k, h.1))
one_depth law ty (Some s) (Some r) h k = ap Some (one_shape law ty s r h.0 k.0)

-- ---- what the texts of a line stand for

one_each : {T V : Type 0} (pair : T → V → Type 0) → ((t : T) (v w : V) → pair t v → pair t w → v ≡ w) → (ts : List T) (vs ws : List V) → EachPair pair ts vs → EachPair pair ts ws → vs ≡ ws
one_each pair one [] [] [] h k = refl
one_each pair one [] [] (w ∷ ws) h k = absurd k
one_each pair one [] (v ∷ vs) ws h k = absurd h
one_each pair one (t ∷ ts) [] ws h k = absurd h
one_each pair one (t ∷ ts) (v ∷ vs) [] h k = absurd k
one_each pair one (t ∷ ts) (v ∷ vs) (w ∷ ws) h k = ap (λ x. x ∷ vs) (one t v w h.0 k.0) ∙ ap (λ x. w ∷ x) (one_each pair one ts vs ws h.1 k.1)

one_column : HasOneAnswer → (t : ColumnText) (a b : Column) → IsColumnOf t a → IsColumnOf t b → a ≡ b
one_column law t a b h k =
    ap (λ x. (let c : Column = record { name = x; shape = a.shape } in c)) (h.0 ∙ sym k.0)
    ∙ ap (λ x. (let c : Column = record { name = b.name; shape = x } in c)) (one_depth law t.ty a.shape b.shape h.1 k.1)

one_params : HasOneAnswer → (ps : Params) (ls ms : List Literal) → AreParams ps ls → AreParams ps ms → ls ≡ ms
one_params law no_params ls ms h k = h ∙ sym k
one_params law (params ts) ls ms h k = one_literals law ts ls ms h k

one_call : HasOneAnswer → (t : CallText) (a b : SelectCall) → IsCallOf t a → IsCallOf t b → a ≡ b
one_call law t a b h k =
    ap (λ x. (let c : SelectCall = record { name = x; params = a.params; arguments = a.arguments } in c)) (h.0 ∙ sym k.0)
    ∙ ap (λ x. (let c : SelectCall = record { name = b.name; params = x; arguments = a.arguments } in c)) (one_params law t.parameters a.params b.params h.1 k.1)
    ∙ ap (λ x. (let c : SelectCall = record { name = b.name; params = b.params; arguments = x } in c)) (h.2 ∙ sym k.2)

one_request : HasOneAnswer → (t : SelectText) (a b : Select) → IsSelectOf t a → IsSelectOf t b → a ≡ b
one_request law t a b h k =
    ap (λ x. (let q : Select = record { calls = x; keys = a.keys } in q)) (one_each IsCallOf (one_call law) t.calls a.calls b.calls h.0 k.0)
    ∙ ap (λ x. (let q : Select = record { calls = b.calls; keys = x } in q)) (h.1 ∙ sym k.1)

one_written : HasOneAnswer → (t : LineText) (a b : Line) → IsLineOf t a → IsLineOf t b → a ≡ b
one_written law (view name q) (View n v) (View m w) h k = ap (λ x. View x v) (h.0 ∙ sym k.0) ∙ ap (λ x. View m x) (one_request law q v w h.1 k.1)
one_written law (view name q) (View n v) b h k = absurd k
one_written law (view name q) a b h k = absurd h
one_written law (session place digits) (Session p n) (Session q m) h k = ap (λ x. Session x n) (h.0 ∙ sym k.0) ∙ ap (λ x. Session q x) (h.1 ∙ sym k.1)
one_written law (session place digits) (Session p n) b h k = absurd k
one_written law (session place digits) a b h k = absurd h
one_written law (insert digits) (Insert n) (Insert m) h k = ap Insert (h ∙ sym k)
one_written law (insert digits) (Insert n) b h k = absurd k
one_written law (insert digits) a b h k = absurd h
one_written law (load name digits) (Load n c) (Load m d) h k = ap (λ x. Load x c) (h.0 ∙ sym k.0) ∙ ap (λ x. Load m x) (h.1 ∙ sym k.1)
one_written law (load name digits) (Load n c) b h k = absurd k
one_written law (load name digits) a b h k = absurd h
one_written law (read name) (Read n) (Read m) h k = ap Read (h ∙ sym k)
one_written law (read name) (Read n) b h k = absurd k
one_written law (read name) a b h k = absurd h
one_written law (states name) (States n) (States m) h k = ap States (h ∙ sym k)
one_written law (states name) (States n) b h k = absurd k
one_written law (states name) a b h k = absurd h

-- ---- whole lines

pub tables : HasOneAnswer → OneTable
tables law line a b h k =
    let same = one_table (letters_of line) k.0 h.0 k.1 h.1 in
    one_each IsColumnOf (one_column law) h.0 a b h.2 (subst (λ x. EachPair IsColumnOf x b) same k.2)

pub requests : HasOneAnswer → OneSelect
requests law line a b h k =
    let same = one_select (letters_of line) k.0 h.0 k.1 h.1 in
    one_request law h.0 a b h.2 (subst (λ x. IsSelectOf x b) same k.2)

pub lines : HasOneAnswer → OneLine
lines law line a b h k =
    let same = one_line (letters_of line) k.0 h.0 k.1 h.1 in
    one_written law h.0 a b h.2 (subst (λ x. IsLineOf x b) same k.2)
