-- Printed parameters are literals, and stand for them.
use Rattle.std.proofs.Common.{◌≡◌, ℕ, zero, suc, ◌+◌, ◌*◌, ◌/◌, ◌%◌, ◌^◌, ◌<◌, ◌≤◌, ℤ, pos, negsuc, neg_ℤ, Bool, true, false, cond, List, [], ◌∷◌, ◌++◌, codes, length, Some, None, Ok, refl, sym, ap, subst, ◌∙◌, append_assoc, append-nil, arith}
use Rattle.std.specs.Prelude.{◌==◌}
use Rattle.std.specs.Char.{is_ascii_digit}
use Rattle.std.specs.Fmt.{decimal, signed_decimal}
use Rattle.std.specs.List.{after_first}
use Rattle.std.specs.Str.Parse.{digits_value}
use Rattle.std.proofs.lemmas.Bool.Decides.{nat_tests}
use Rattle.std.proofs.lemmas.Fmt.{decimal_is_IsNumeral, digits_decimal, length-decimal-le}
use Rattle.agg_terms.specs.Chains.{Chain, Leaf}
use Rattle.agg_terms.specs.Chains as terms
use Rattle.agg_typing.specs.Literals.{Literal, Int, Decimal, Text}
use Rattle.line_tokens.specs.Tokens.{Token, integer, decimal as decimal_token, quoted, open_bracket, comma}
use Rattle.tsv_text.specs.Escapes.{escaped, IsUnescaped}
use Rattle.type_names.specs.Syntax.{tokens_in}
use Rattle.type_names.specs.TypeTexts.{is_literal, literals_tokens, AreLiterals}
use Rattle.type_names.specs.TypeTexts as texts
use Rattle.type_texts.specs.ParamTexts.{places_of, level_text, quoted_text, mode_texts, leaf_params, params_of}
use Rattle.type_texts.specs.PatternTexts.{pattern_text}
use Rattle.type_texts.specs.TypeNames.{more_params, brackets}
use Rattle.type_shapes.specs.Literals.{IsLiteral, AreRead, integer_value, is_point}
use Rattle.type_shapes.specs.ReadsBack.{with_places, level_literal, mode_literals, leaf_literals, literals_of, FitsLeaf, FitsInt, FitsChain}
use Rattle.type_shapes.proofs.Digits.{AreDigits, numerals, no_minus}
use Rattle.type_shapes.proofs.Values.{decimal_front, decimal_back}
use Rattle.type_shapes.proofs.TokensBack.{Ends, integer_first, negative_first, decimal_first, quoted_first}

-- what an escaped text stands for
abbrev pub RoundTrip : Type 0
RoundTrip = (bytes : List ℕ) → IsUnescaped (escaped bytes) (Ok bytes)

-- ---- parameters

-- a parameter as it is printed, the token that it is, and what that stands for
pub record IsWritten (text : List ℕ) (token : Token) (literal : Literal) : Type 0 where
  pub first : (rest : List ℕ) → Ends rest → tokens_in (text ++ rest) ≡ token ∷ tokens_in rest
  pub is_one : is_literal token ≡ true
  pub means : IsLiteral token literal

abbrev pub HasToken : List ℕ → Literal → Type 0
HasToken text literal = (token : Token) × IsWritten text token literal

plain_value : (d : ℕ) (ds : List ℕ) → AreDigits (d ∷ ds) → integer_value (d ∷ ds) ≡ pos (digits_value 10 (d ∷ ds))
plain_value d ds h = ap (λ t. cond t (neg_ℤ (pos (digits_value 10 ds))) (pos (digits_value 10 (d ∷ ds)))) (no_minus d h.0)

digits_written : (ds : List ℕ) (n : ℕ) → AreDigits ds → 0 < length ds → digits_value 10 ds ≡ n → n < 2 ^ 64 → HasToken ds (Int (pos n))
digits_written [] n h some value small = absurd (omega arith)
digits_written (d ∷ ds) n h some value small = (
  integer (d ∷ ds),
  record {
    first = λ rest e. integer_first d ds rest h e (omega (arith, value, small));
    is_one = refl;
    means = sym (plain_value d ds h ∙ ap pos value);
  },
)

pub number_written : (n : ℕ) → n < 2 ^ 64 → HasToken (decimal n) (Int (pos n))
number_written n h = let d = decimal_is_IsNumeral n h in digits_written (decimal n) n (digits_decimal numerals n h) d.0.0 d.1 h

negative_written : (ds : List ℕ) (n : ℕ) → AreDigits ds → 0 < length ds → digits_value 10 ds ≡ suc n → suc n < 2 ^ 64 → HasToken (45 ∷ ds) (Int (negsuc n))
negative_written [] n h some value small = absurd (omega arith)
negative_written (d ∷ ds) n h some value small = (
  integer (45 ∷ d ∷ ds),
  record {
    first = λ rest e. negative_first d ds rest h e (omega (arith, value, small));
    is_one = refl;
    means = sym (ap (λ n. neg_ℤ (pos n)) value);
  },
)

signed_written : (z : ℤ) → FitsInt z → HasToken (signed_decimal z) (Int z)
signed_written (pos n) h = number_written n (omega (arith, h))
signed_written (negsuc n) h = let small : suc n < 2 ^ 64 = omega (arith, h) in let d = decimal_is_IsNumeral (suc n) small in negative_written (decimal (suc n)) n (digits_decimal numerals (suc n) small) d.0.0 d.1 small

text_written : RoundTrip → (bytes : List ℕ) → HasToken (quoted_text bytes) (Text bytes)
text_written law bytes = (
  quoted (escaped bytes),
  record {
    first = λ rest e. ap (λ t. tokens_in (39 ∷ t)) (append_assoc (escaped bytes) (39 ∷ []) rest) ∙ quoted_first bytes rest;
    is_one = refl;
    means = law bytes;
  },
)

place_digit : (part : ℕ) → part < 1000000000 → is_ascii_digit (48 + part * 10 / 1000000000) ≡ true
place_digit part h = let small : part * 10 / 1000000000 < 10 = omega arith in grind (arith, nat_tests)

places_are_digits : (n part : ℕ) → part < 1000000000 → AreDigits (places_of n part)
places_are_digits zero part h = tt
places_are_digits (suc n) part h = more_digits (part == 0) (48 + part * 10 / 1000000000) (places_of n (part * 10 % 1000000000)) (place_digit part h) (places_are_digits n (part * 10 % 1000000000) (omega arith))
  where
    more_digits : (t : Bool) (d : ℕ) (ds : List ℕ) → is_ascii_digit d ≡ true → AreDigits ds → AreDigits (cond t [] (d ∷ ds))
    more_digits true d ds h k = tt
    more_digits false d ds h k = (h, k)

few_places : (n part : ℕ) → length (places_of n part) ≤ n
few_places zero part = omega arith
few_places (suc n) part = one_more (part == 0) (48 + part * 10 / 1000000000) (places_of n (part * 10 % 1000000000)) n (few_places n (part * 10 % 1000000000))
  where
    one_more : (t : Bool) (d : ℕ) (ds : List ℕ) (n : ℕ) → length ds ≤ n → length (cond t [] (d ∷ ds)) ≤ suc n
    one_more true d ds n h = omega arith
    one_more false d ds n h = omega arith

decimal_written : (front : List ℕ) (b : ℕ) (back : List ℕ) → AreDigits front → 0 < length front → length front ≤ 9 → AreDigits (b ∷ back) → length (b ∷ back) ≤ 9
    → HasToken (front ++ (46 ∷ b ∷ back)) (Decimal (digits_value 10 (front ++ (b ∷ back))) (length (b ∷ back)))
decimal_written [] b back h some few k many = absurd (omega arith)
decimal_written (d ∷ ds) b back h some few k many = (
  decimal_token ((d ∷ ds) ++ (46 ∷ b ∷ back)),
  record {
    first = λ rest e. decimal_first d ds b back rest h k e (omega (arith, few, many));
    is_one = refl;
    means = (ap (digits_value 10) (sym (ap (λ x. x ++ after_first is_point ((d ∷ ds) ++ (46 ∷ b ∷ back))) (decimal_front (d ∷ ds) (b ∷ back) h) ∙ ap (λ x. (d ∷ ds) ++ x) (decimal_back (d ∷ ds) (b ∷ back) h))), ap length (sym (decimal_back (d ∷ ds) (b ∷ back) h)));
  },
)

-- a whole number below ten has one digit
few_digits : (n : ℕ) → n < 10 → length (decimal n) ≤ 9
few_digits n h = let one = length-decimal-le 1 n (omega arith) (omega (arith, h)) (omega (arith, h)) in omega (arith, one)

level_by : (zero : Bool) (whole part : ℕ) → whole < 10 → part < 1000000000 → (part == 0) ≡ zero
    → HasToken (decimal whole ++ cond zero [] (codes "." ++ places_of 9 part)) (with_places whole (cond zero [] ((48 + part * 10 / 1000000000) ∷ places_of 8 (part * 10 % 1000000000))))
level_by true whole part w p e = subst (λ t. HasToken t (Int (pos whole))) (sym (append-nil (decimal whole))) (number_written whole (omega arith))
level_by false whole part w p e =
    let d = decimal_is_IsNumeral whole (omega arith) in
    let places : places_of 9 part ≡ (48 + part * 10 / 1000000000) ∷ places_of 8 (part * 10 % 1000000000) = ap (λ t. cond t [] ((48 + part * 10 / 1000000000) ∷ places_of 8 (part * 10 % 1000000000))) e in
    subst (λ ps. HasToken (decimal whole ++ (46 ∷ ps)) (with_places whole ((48 + part * 10 / 1000000000) ∷ places_of 8 (part * 10 % 1000000000)))) (sym places)
    (decimal_written (decimal whole) (48 + part * 10 / 1000000000) (places_of 8 (part * 10 % 1000000000)) (digits_decimal numerals whole (omega arith)) d.0.0 (few_digits whole w)
    (subst AreDigits places (places_are_digits 9 part p)) (subst (λ ps. length ps ≤ 9) places (few_places 9 part)))

level_written : (level : ℕ) → level < 2 ^ 32 → HasToken (level_text level) (level_literal level)
level_written level h = level_by (level % 1000000000 == 0) (level / 1000000000) (level % 1000000000) (omega arith) (omega arith) refl

-- parameters, one by one
abbrev pub AreWritten : List (List ℕ) → List Token → List Literal → Type 0
AreWritten [] [] [] = Unit {0}
AreWritten (p ∷ ps) (t ∷ ts) (l ∷ ls) = IsWritten p t l × AreWritten ps ts ls
AreWritten ps ts ls = ⊥

abbrev pub HaveTokens : List (List ℕ) → List Literal → Type 0
HaveTokens ps ls = (ts : List Token) × AreWritten ps ts ls

no_params : HaveTokens [] []
no_params = ([], tt)

and_param : (p : List ℕ) (ps : List (List ℕ)) (l : Literal) (ls : List Literal) → HasToken p l → HaveTokens ps ls → HaveTokens (p ∷ ps) (l ∷ ls)
and_param p ps l ls h k = (h.0 ∷ k.0, (h.1, k.1))

HaveTokens-append : (ps qs : List (List ℕ)) (ls ks : List Literal) (ts : List Token) → AreWritten ps ts ls → HaveTokens qs ks → HaveTokens (ps ++ qs) (ls ++ ks)
HaveTokens-append [] qs [] ks [] h k = k
HaveTokens-append (p ∷ ps) qs (l ∷ ls) ks (t ∷ ts) h k = let more = HaveTokens-append ps qs ls ks ts h.1 k in (t ∷ more.0, (h.0, more.1))
HaveTokens-append [] qs [] ks (t ∷ ts) h k = absurd h
HaveTokens-append [] qs (l ∷ ls) ks [] h k = absurd h
HaveTokens-append [] qs (l ∷ ls) ks (t ∷ ts) h k = absurd h
HaveTokens-append (p ∷ ps) qs [] ks [] h k = absurd h
HaveTokens-append (p ∷ ps) qs [] ks (t ∷ ts) h k = absurd h
HaveTokens-append (p ∷ ps) qs (l ∷ ls) ks [] h k = absurd h

mode_written : RoundTrip → (strict : Bool) → HaveTokens (mode_texts strict) (mode_literals strict)
mode_written law true = and_param (quoted_text (codes "strict_increase")) [] (Text (codes "strict_increase")) [] (text_written law (codes "strict_increase")) no_params
mode_written law false = no_params

leaf_written : RoundTrip → (f : Leaf) → FitsLeaf f → HaveTokens (leaf_params f) (leaf_literals f)
leaf_written law terms.Count h = no_params
leaf_written law terms.Sum h = no_params
leaf_written law terms.Min h = no_params
leaf_written law terms.Max h = no_params
leaf_written law terms.ArgMin h = no_params
leaf_written law terms.ArgMax h = no_params
leaf_written law (terms.GroupArray None) h = no_params
leaf_written law (terms.GroupArray (Some most)) h = and_param (decimal most) [] (Int (pos most)) [] (number_written most (omega (arith, h))) no_params
leaf_written law terms.UniqExact h = no_params
leaf_written law (terms.QuantileExact level) h = and_param (level_text level) [] (level_literal level) [] (level_written level h) no_params
leaf_written law (terms.WindowFunnel window strict) h = and_param (decimal window) (mode_texts strict) (Int (pos window)) (mode_literals strict) (number_written window h) (mode_written law strict)
leaf_written law (terms.SequenceMatch pattern) h = and_param (quoted_text (pattern_text pattern)) [] (Text (pattern_text pattern)) [] (text_written law (pattern_text pattern)) no_params
leaf_written law terms.Retention h = no_params
leaf_written law (terms.GroupBit op) h = no_params

pub params_written : RoundTrip → (c : Chain) → FitsChain c → HaveTokens (params_of c) (literals_of c)
params_written law (terms.Of f) h = leaf_written law f h
params_written law (terms.If c) h = params_written law c h
params_written law (terms.Array c) h = params_written law c h
params_written law (terms.MapOf c) h = params_written law c h
params_written law (terms.ForEach c) h = params_written law c h
params_written law (terms.OrNull c) h = params_written law c h
params_written law (terms.OrDefault c) h = params_written law c h
params_written law (terms.Distinct c) h = params_written law c h
params_written law (terms.State c) h = params_written law c h
params_written law (terms.Merge c) h = params_written law c h
params_written law (terms.Resample start end step c) h =
    let inner = params_written law c h.3 in
    HaveTokens-append (params_of c) (signed_decimal start ∷ signed_decimal end ∷ decimal step ∷ []) (literals_of c) (Int start ∷ Int end ∷ Int (pos step) ∷ []) inner.0 inner.1
    (and_param (signed_decimal start) (signed_decimal end ∷ decimal step ∷ []) (Int start) (Int end ∷ Int (pos step) ∷ []) (signed_written start h.0)
    (and_param (signed_decimal end) (decimal step ∷ []) (Int end) (Int (pos step) ∷ []) (signed_written end h.1) (and_param (decimal step) [] (Int (pos step)) [] (number_written step h.2) no_params)))

-- tokens of parameters are literals, and stand for them
pub written_literals : (ps : List (List ℕ)) (ts : List Token) (ls : List Literal) → AreWritten ps ts ls → AreLiterals ts × AreRead ts ls
written_literals [] [] [] h = (tt, tt)
written_literals (p ∷ ps) (t ∷ ts) (l ∷ ls) h = let more = written_literals ps ts ls h.1 in ((h.0.is_one, more.0), (h.0.means, more.1))
written_literals [] [] (l ∷ ls) h = absurd h
written_literals [] (t ∷ ts) ls h = absurd h
written_literals (p ∷ ps) [] ls h = absurd h
written_literals (p ∷ ps) (t ∷ ts) [] h = absurd h

-- brackets with parameters, before what ends a name
more_params_end : (ps : List (List ℕ)) (rest : List ℕ) → Ends (more_params ps ++ rest)
more_params_end [] rest = (refl, refl)
more_params_end (p ∷ ps) rest = (refl, refl)

more_written : (ps : List (List ℕ)) (ts : List Token) (ls : List Literal) (rest : List ℕ) → AreWritten ps ts ls → tokens_in (more_params ps ++ rest) ≡ literals_tokens ts ++ tokens_in rest
more_written [] [] [] rest h = refl
more_written (p ∷ ps) (t ∷ ts) (l ∷ ls) rest h =
    ap (λ x. comma ∷ tokens_in x) (append_assoc p (more_params ps) rest) ∙ ap (λ x. comma ∷ x) (h.0.first (more_params ps ++ rest) (more_params_end ps rest) ∙ ap (λ x. t ∷ x) (more_written ps ts ls rest h.1))
more_written [] [] (l ∷ ls) rest h = absurd h
more_written [] (t ∷ ts) ls rest h = absurd h
more_written (p ∷ ps) [] ls rest h = absurd h
more_written (p ∷ ps) (t ∷ ts) [] rest h = absurd h

pub brackets_written : (ps : List (List ℕ)) (ts : List Token) (ls : List Literal) (rest : List ℕ) → AreWritten ps ts ls → tokens_in (brackets ps ++ rest) ≡ texts.brackets ts ++ tokens_in rest
brackets_written [] [] [] rest h = refl
brackets_written (p ∷ ps) (t ∷ ts) (l ∷ ls) rest h =
    ap (λ x. open_bracket ∷ tokens_in x) (append_assoc p (more_params ps) rest) ∙ ap (λ x. open_bracket ∷ x) (h.0.first (more_params ps ++ rest) (more_params_end ps rest) ∙ ap (λ x. t ∷ x) (more_written ps ts ls rest h.1))
brackets_written [] [] (l ∷ ls) rest h = absurd h
brackets_written [] (t ∷ ts) ls rest h = absurd h
brackets_written (p ∷ ps) [] ls rest h = absurd h
brackets_written (p ∷ ps) (t ∷ ts) [] rest h = absurd h
