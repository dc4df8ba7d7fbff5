-- What a short text spells is countable.
use Rattle.std.proofs.Common.{◌≡◌, refl, ap, ℕ, zero, suc, ◌≤◌, ◌<◌, ◌-◌, ◌==◌, ◌^◌, Bool, true, false, if◌then◌else◌, List, [], ◌∷◌, ◌++◌, length, Option, Some, None, arith}
use Rattle.std.proofs.lemmas.List.{length-map, length-append}
use Rattle.agg_typing.specs.Literals.{Literal}
use Rattle.line_tokens.specs.Tokens.{Token, Placed, close_bracket, comma, token_at, and_more, tokens_behind}
use Rattle.type_names.specs.Syntax.{tokens_in}
use Rattle.type_names.specs.TypeTexts as written
use Rattle.type_names.specs.TypeTexts.{tokens_of, tokens_of_all, brackets, literals_tokens, IsType}
use Rattle.type_shapes.specs.Folds.{shape_of}
use Rattle.type_shapes.specs.Literals.{AreRead}
use Rattle.type_shapes.specs.Shapes.{Shape, Shapes, Arr, MapOf, Nullable, State, no_shapes, a_shape, Spells, AllSpell}
use Rattle.shape_types.proofs.PlainNames.{each_name}
use Rattle.shape_types.specs.Countable.{IsCountable, AreCountable, shape_count, ShortTextsAreCountable}

few_here : (space : Bool) (t : Option (Token × ℕ)) (bs : List ℕ) → ((n : ℕ) → length (tokens_behind n bs) ≤ length bs) →
    length (if space then tokens_behind 0 bs else and_more (λ n. tokens_behind n bs) (suc (length bs)) t) ≤ suc (length bs)
few_here true t bs few = let h = few 0 in omega (arith, h)
few_here false None bs few = omega arith
few_here false (Some t) bs few = let h = few (t.1 - 1) in omega (arith, h)

-- a token has a byte or more
few_behind : (n : ℕ) (text : List ℕ) → length (tokens_behind n text) ≤ length text
few_behind n [] = omega arith
few_behind (suc n) (b ∷ bs) = let h = few_behind n bs in omega (arith, h)
few_behind zero (b ∷ bs) = few_here (b == 32) (token_at (b ∷ bs)) bs (λ n. few_behind n bs)

pub few_tokens : (text : List ℕ) → length (tokens_in text) ≤ length text
few_tokens text =
    let h = few_behind 0 text in
    let e : length (tokens_in text) ≡ length (tokens_behind 0 text) = length-map (tokens_behind 0 text) (λ (t : Placed). t.0) in
    omega (arith, h, e)

-- each literal and each type in a state type's brackets has a token of its own
pub long_literals : (ls : List Token) → length ls ≤ length (literals_tokens ls)
long_literals [] = omega arith
long_literals (l ∷ ls) = let h = long_literals ls in omega (arith, h)

long_brackets : (ls : List Token) → length ls ≤ length (brackets ls)
long_brackets [] = omega arith
long_brackets (l ∷ ls) = let h = long_literals ls in omega (arith, h)

pub one_each : (ts : List Token) (ls : List Literal) → AreRead ts ls → length ls ≡ length ts
one_each [] [] h = refl
one_each (t ∷ ts) (l ∷ ls) h = ap suc (one_each ts ls h.1)
one_each [] (l ∷ ls) h = absurd h
one_each (t ∷ ts) [] h = absurd h

as_many : (ws : written.WrittenTypes) (ss : Shapes) → AllSpell ws ss → shape_count ss ≤ length (tokens_of_all ws)
as_many written.none no_shapes h = omega arith
as_many (written.and_one w ws) (a_shape s ss) h =
    let more = as_many ws ss h.1 in
    let both = length-append (tokens_of w) (tokens_of_all ws) in
    omega (arith, more, both)
as_many written.none (a_shape s ss) h = absurd h
as_many (written.and_one w ws) no_shapes h = absurd h

mutual
  pub countable : (w : written.WrittenType) (s : Shape) → Spells w s → length (tokens_of w) < 2 ^ 32 → IsCountable s
  countable (written.plain name) s h few = each_name IsCountable (λ n. tt) (λ w. tt) tt name s h
  countable (written.array ty) (Arr s) h few =
      let long = length-append (tokens_of ty) (close_bracket ∷ []) in countable ty s h (omega (arith, few, long))
  countable (written.nullable ty) (Nullable s) h few =
      let long = length-append (tokens_of ty) (close_bracket ∷ []) in countable ty s h (omega (arith, few, long))
  countable (written.map_of key ty) (MapOf k s) h few =
      let long = length-append (tokens_of ty) (close_bracket ∷ []) in
      let both = length-append (tokens_of key) (comma ∷ (tokens_of ty ++ (close_bracket ∷ []))) in
      (countable key k h.0 (omega (arith, few, long, both)), countable ty s h.1 (omega (arith, few, long, both)))
  countable (written.state name literals types) (State n ls ss) h few =
      let both = length-append (brackets literals) (tokens_of_all types) in
      let read = one_each literals ls h.1 in
      let long = long_brackets literals in
      let more = as_many types ss h.2 in
      (omega (arith, few, both, read, long), omega (arith, few, both, more), all_countable types ss h.2 (omega (arith, few, both)))
  countable (written.array ty) s h few = absurd h
  countable (written.nullable ty) s h few = absurd h
  countable (written.map_of key ty) s h few = absurd h
  countable (written.state name literals types) s h few = absurd h

  all_countable : (ws : written.WrittenTypes) (ss : Shapes) → AllSpell ws ss → length (tokens_of_all ws) < 2 ^ 32 → AreCountable ss
  all_countable written.none no_shapes h few = tt
  all_countable (written.and_one w ws) (a_shape s ss) h few =
      let both = length-append (tokens_of w) (tokens_of_all ws) in
      (countable w s h.0 (omega (arith, few, both)), all_countable ws ss h.1 (omega (arith, few, both)))
  all_countable written.none (a_shape s ss) h few = absurd h
  all_countable (written.and_one w ws) no_shapes h few = absurd h

pub short_texts : ShortTextsAreCountable
short_texts text shape few h =
    let fewer = few_tokens text in
    let same = ap length h.1.1 in
    countable h.0 (shape_of shape) h.2 (omega (arith, few, fewer, same))
