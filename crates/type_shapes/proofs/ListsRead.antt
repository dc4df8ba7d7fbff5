-- The loops over literals and over types.
use Rattle.std.proofs.Common.{◌≡◌, ℕ, ◌<◌, ◌≤◌, List, [], ◌∷◌, ◌++◌, true, false, Some, None, sym, ap, subst, ◌∙◌, append_assoc, append-nil, arith}
use Rattle.std.proofs.Math.Nat.{le-max_left, le-max_right, max-le}
use Rattle.agg_typing.specs.Literals.{Literal}
use Rattle.line_tokens.specs.Tokens.{Token, open_bracket, close_bracket, comma}
use Rattle.type_names.specs.Syntax.{tokens_in}
use Rattle.type_names.specs.TypeTexts.{WrittenType as Written, WrittenTypes as WrittenTypes, none, and_one, tokens_of, tokens_of_all, literals_tokens, brackets, is_literal, AreLiterals, ShapesFit}
use Rattle.type_shapes.specs.Literals.{IsLiteral, AreRead}
use Rattle.type_shapes.specs.Shapes.{Shape, shapes, AllSpell, nesting, deepest}
use Rattle.type_shapes.specs.Reading.{IsRead, ReadsType, ReadsTypes, ReadsLiterals}
use Rattle.type_shapes.proofs.Fronts.{behind_first}
use Rattle.type_shapes.proofs.TypesRead.{Lacks}

-- ---- literals

opens_no_types : (types : WrittenTypes) (r more : List Token) → open_bracket ∷ r ≡ tokens_of_all types ++ more → ⊥
opens_no_types none r more e = absurd cc
opens_no_types (and_one ty types) r more e = absurd cc

pub no_brackets : (text : List ℕ) → Lacks text open_bracket → ReadsLiterals text (Some ([], text))
no_brackets text h [] types more are t = (tt, t)
no_brackets text h (l ∷ ls) types more are t = absurd (h _ t)

-- the literals that are still to come, and that those before them were read
pub record LiteralsLeft (literals behind : List Token) (read : List Literal) (rest : List ℕ) : Type 0 where
  pub first : Token
  pub left : List Token
  pub is_one : is_literal first ≡ true
  pub are : AreLiterals left
  pub tokens : tokens_in rest ≡ first ∷ (literals_tokens left ++ behind)
  pub joined : (ls : List Literal) → AreRead (first ∷ left) ls → AreRead literals (read ++ ls)

abbrev pub AtLiterals : List ℕ → List ℕ → List Literal → Type 0
AtLiterals text rest read =
    (literals : List Token) (types : WrittenTypes) (more : List Token) → AreLiterals literals → tokens_in text ≡ brackets literals ++ (tokens_of_all types ++ more)
    → LiteralsLeft literals (tokens_of_all types ++ more) read rest

pub literals_begin : (text inside : List ℕ) → tokens_in text ≡ open_bracket ∷ tokens_in inside → AtLiterals text inside []
literals_begin text inside opened [] types more are t = absurd (opens_no_types types (tokens_in inside) more (sym opened ∙ t))
literals_begin text inside opened (l ∷ ls) types more are t = record {
  first = l;
  left = ls;
  is_one = are.0;
  are = are.1;
  tokens = behind_first open_bracket _ _ (sym opened ∙ t);
  joined = λ ws h. h;
}

pub no_token : (text rest : List ℕ) (read : List Literal) → AtLiterals text rest read → ((t : Token) → Lacks rest t) → ReadsLiterals text None
no_token text rest read at lacks literals types more are t = let h = at literals types more are t in lacks h.first _ h.tokens

pub no_literal : (text rest after : List ℕ) (read : List Literal) (token : Token) → AtLiterals text rest read → tokens_in rest ≡ token ∷ tokens_in after → is_literal token ≡ false → ReadsLiterals text None
no_literal text rest after read token at first other literals types more are t =
    let h = at literals types more are t in
    let both : token ∷ tokens_in after ≡ h.first ∷ (literals_tokens h.left ++ (tokens_of_all types ++ more)) = sym first ∙ h.tokens in
    let same : token ≡ h.first = cc in
    let yes : is_literal token ≡ true = ap is_literal same ∙ h.is_one in
    absurd cc

-- one more literal was read
pub record HasLiteral (text after : List ℕ) (read : List Literal) (value : Literal) : Type 0 where
  pub rest : List ℕ
  pub token : Token
  pub at : AtLiterals text rest read
  pub first : tokens_in rest ≡ token ∷ tokens_in after
  pub is : IsLiteral token value

-- behind it stand the marks of what is left
pub record BehindLiteral (literals behind : List Token) (read : List Literal) (after : List ℕ) : Type 0 where
  pub left : List Token
  pub are : AreLiterals left
  pub tokens : tokens_in after ≡ literals_tokens left ++ behind
  pub joined : (ls : List Literal) → AreRead left ls → AreRead literals (read ++ ls)

behind_literal : (text after : List ℕ) (read : List Literal) (value : Literal) → HasLiteral text after read value → (literals : List Token) (types : WrittenTypes) (more : List Token) → AreLiterals literals
    → tokens_in text ≡ brackets literals ++ (tokens_of_all types ++ more) → BehindLiteral literals (tokens_of_all types ++ more) (read ++ value ∷ []) after
behind_literal text after read value one literals types more are t =
    let h = one.at literals types more are t in
    let both : one.token ∷ tokens_in after ≡ h.first ∷ (literals_tokens h.left ++ (tokens_of_all types ++ more)) = sym one.first ∙ h.tokens in
    let same : one.token ≡ h.first = cc in
    record {
      left = h.left;
      are = h.are;
      tokens = cc;
      joined = λ ls rest. subst (AreRead literals) (sym (append_assoc read (value ∷ []) ls)) (h.joined (value ∷ ls) (subst (λ t. IsLiteral t value) same one.is, rest));
    }

next_literal : (literals behind left : List Token) (read : List Literal) (rest after : List ℕ) → AreLiterals left → tokens_in after ≡ literals_tokens left ++ behind → ((ls : List Literal) → AreRead left ls → AreRead literals (read ++ ls))
    → tokens_in after ≡ comma ∷ tokens_in rest → LiteralsLeft literals behind read rest
next_literal literals behind [] read rest after are tokens joined divided = let e : close_bracket ∷ behind ≡ comma ∷ tokens_in rest = sym tokens ∙ divided in absurd cc
next_literal literals behind (l ∷ left) read rest after are tokens joined divided =
    record { first = l; left = left; is_one = are.0; are = are.1; tokens = sym (behind_first comma _ _ (sym tokens ∙ divided)); joined = joined }

pub literal_more : (text after rest : List ℕ) (read : List Literal) (value : Literal) → HasLiteral text after read value → tokens_in after ≡ comma ∷ tokens_in rest → AtLiterals text rest (read ++ value ∷ [])
literal_more text after rest read value one divided literals types more are t =
    let b = behind_literal text after read value one literals types more are t in
    next_literal literals (tokens_of_all types ++ more) b.left (read ++ value ∷ []) rest after b.are b.tokens b.joined divided

last_literal : (literals behind left : List Token) (read : List Literal) (rest after : List ℕ) → tokens_in after ≡ literals_tokens left ++ behind → ((ls : List Literal) → AreRead left ls → AreRead literals (read ++ ls))
    → tokens_in after ≡ close_bracket ∷ tokens_in rest → AreRead literals read × (tokens_in rest ≡ behind)
last_literal literals behind [] read rest after tokens joined closed = (subst (AreRead literals) (append-nil read) (joined [] tt), sym (behind_first close_bracket _ _ (sym tokens ∙ closed)))
last_literal literals behind (l ∷ left) read rest after tokens joined closed = let e : comma ∷ (l ∷ (literals_tokens left ++ behind)) ≡ close_bracket ∷ tokens_in rest = sym tokens ∙ closed in absurd cc

pub literals_end : (text after rest : List ℕ) (read : List Literal) (value : Literal) → HasLiteral text after read value → tokens_in after ≡ close_bracket ∷ tokens_in rest → ReadsLiterals text (Some (read ++ value ∷ [], rest))
literals_end text after rest read value one closed literals types more are t =
    let b = behind_literal text after read value one literals types more are t in
    last_literal literals (tokens_of_all types ++ more) b.left (read ++ value ∷ []) rest after b.tokens b.joined closed

no_mark : (left behind : List Token) (after : List ℕ) → tokens_in after ≡ literals_tokens left ++ behind → Lacks after comma → Lacks after close_bracket → ⊥
no_mark [] behind after tokens divided closed = closed _ tokens
no_mark (l ∷ left) behind after tokens divided closed = divided _ tokens

pub literals_break : (text after : List ℕ) (read : List Literal) (value : Literal) → HasLiteral text after read value → Lacks after comma → Lacks after close_bracket → ReadsLiterals text None
literals_break text after read value one divided closed literals types more are t =
    let b = behind_literal text after read value one literals types more are t in
    no_mark b.left (tokens_of_all types ++ more) after b.tokens divided closed

-- ---- types

-- the types that are still to come, and that those before them were read
pub record TypesLeft (most : ℕ) (types : WrittenTypes) (more : List Token) (read : List Shape) (rest : List ℕ) : Type 0 where
  pub left : WrittenTypes
  pub fit : ShapesFit left
  pub tokens : tokens_in rest ≡ tokens_of_all left ++ more
  pub joined : (ss : List Shape) → AllSpell left (shapes ss) → AllSpell types (shapes (read ++ ss))
  pub within : deepest left ≤ most → deepest types ≤ most
  pub deeper : most < deepest left → most < deepest types

abbrev pub AtTypes : ℕ → List ℕ → List ℕ → List Shape → Type 0
AtTypes most text rest read = (types : WrittenTypes) (more : List Token) → ShapesFit types → tokens_in text ≡ tokens_of_all types ++ more → TypesLeft most types more read rest

pub types_begin : (most : ℕ) (text : List ℕ) → AtTypes most text text []
types_begin most text types more f t = record { left = types; fit = f; tokens = t; joined = λ ss h. h; within = λ h. h; deeper = λ h. h }

-- behind a comma stands a type
pub record AtType (most : ℕ) (types : WrittenTypes) (more : List Token) (read : List Shape) (after : List ℕ) : Type 0 where
  pub ty : Written
  pub left : WrittenTypes
  pub fits : ShapesFit (and_one ty left)
  pub tokens : tokens_in after ≡ tokens_of ty ++ (tokens_of_all left ++ more)
  pub joined : (ss : List Shape) → AllSpell (and_one ty left) (shapes ss) → AllSpell types (shapes (read ++ ss))
  pub within : deepest (and_one ty left) ≤ most → deepest types ≤ most
  pub deeper : most < deepest (and_one ty left) → most < deepest types

divided_types : (most : ℕ) (types left : WrittenTypes) (more : List Token) (read : List Shape) (rest after : List ℕ) → ShapesFit left → tokens_in rest ≡ tokens_of_all left ++ more
    → ((ss : List Shape) → AllSpell left (shapes ss) → AllSpell types (shapes (read ++ ss))) → (deepest left ≤ most → deepest types ≤ most) → (most < deepest left → most < deepest types)
    → tokens_in rest ≡ comma ∷ tokens_in after → AtType most types more read after
divided_types most types none more read rest after f tokens joined within deeper divided = let e : close_bracket ∷ more ≡ comma ∷ tokens_in after = sym tokens ∙ divided in absurd cc
divided_types most types (and_one ty left) more read rest after f tokens joined within deeper divided =
    record { ty = ty; left = left; fits = f; tokens = sym (behind_first comma _ _ (sym tokens ∙ divided)) ∙ append_assoc (tokens_of ty) (tokens_of_all left) more; joined = joined; within = within; deeper = deeper }

at_type : (most : ℕ) (text rest after : List ℕ) (read : List Shape) → AtTypes most text rest read → tokens_in rest ≡ comma ∷ tokens_in after
    → (types : WrittenTypes) (more : List Token) → ShapesFit types → tokens_in text ≡ tokens_of_all types ++ more → AtType most types more read after
at_type most text rest after read at divided types more f t =
    let h = at types more f t in divided_types most types h.left more read rest after h.fit h.tokens h.joined h.within h.deeper divided

pub deep_type : (most : ℕ) (text rest after : List ℕ) (read : List Shape) → AtTypes most text rest read → tokens_in rest ≡ comma ∷ tokens_in after → ReadsType most after None → ReadsTypes most text None
deep_type most text rest after read at divided reads types more f t =
    let a = at_type most text rest after read at divided types more f t in
    let deep : most < nesting a.ty = reads a.ty _ a.fits.0 a.tokens in
    let left = le-max_left (nesting a.ty) (deepest a.left) in
    a.deeper (omega (arith, deep, left))

pub type_more : (most : ℕ) (text rest after left : List ℕ) (read : List Shape) (s : Shape) → AtTypes most text rest read → tokens_in rest ≡ comma ∷ tokens_in after → ReadsType most after (Some (s, left)) → AtTypes most text left (read ++ s ∷ [])
type_more most text rest after left read s at divided reads types more f t =
    let a = at_type most text rest after read at divided types more f t in
    let r = reads a.ty _ a.fits.0 a.tokens in
    let right = le-max_right (nesting a.ty) (deepest a.left) in
    record {
      left = a.left;
      fit = a.fits.1;
      tokens = r.behind;
      joined = λ ss h. subst (λ x. AllSpell types (shapes x)) (sym (append_assoc read (s ∷ []) ss)) (a.joined (s ∷ ss) (r.spelled, h));
      within = λ h. a.within (max-le r.within h);
      deeper = λ h. a.deeper (omega (arith, h, right));
    }

last_type : (most : ℕ) (types left : WrittenTypes) (more : List Token) (read : List Shape) (rest after : List ℕ) → tokens_in rest ≡ tokens_of_all left ++ more
    → ((ss : List Shape) → AllSpell left (shapes ss) → AllSpell types (shapes (read ++ ss))) → (deepest left ≤ most → deepest types ≤ most)
    → tokens_in rest ≡ close_bracket ∷ tokens_in after → IsRead most (deepest types) (λ ss. AllSpell types (shapes ss)) more read after
last_type most types none more read rest after tokens joined within closed = record {
  within = within (omega arith);
  spelled = subst (λ x. AllSpell types (shapes x)) (append-nil read) (joined [] tt);
  behind = sym (behind_first close_bracket _ _ (sym tokens ∙ closed));
}
last_type most types (and_one ty left) more read rest after tokens joined within closed = let e : comma ∷ ((tokens_of ty ++ tokens_of_all left) ++ more) ≡ close_bracket ∷ tokens_in after = sym tokens ∙ closed in absurd cc

pub types_end : (most : ℕ) (text rest after : List ℕ) (read : List Shape) → AtTypes most text rest read → tokens_in rest ≡ close_bracket ∷ tokens_in after → ReadsTypes most text (Some (read, after))
types_end most text rest after read at closed types more f t =
    let h = at types more f t in last_type most types h.left more read rest after h.tokens h.joined h.within closed

no_type_mark : (left : WrittenTypes) (more : List Token) (rest : List ℕ) → tokens_in rest ≡ tokens_of_all left ++ more → Lacks rest comma → Lacks rest close_bracket → ⊥
no_type_mark none more rest tokens divided closed = closed _ tokens
no_type_mark (and_one ty left) more rest tokens divided closed = divided _ tokens

pub types_break : (most : ℕ) (text rest : List ℕ) (read : List Shape) → AtTypes most text rest read → Lacks rest comma → Lacks rest close_bracket → ReadsTypes most text None
types_break most text rest read at divided closed types more f t = let h = at types more f t in absurd (no_type_mark h.left more rest h.tokens divided closed)
