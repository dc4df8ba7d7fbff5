-- Each token of a text that is a literal stands for something.
use Rattle.std.proofs.Common.{◌≡◌, ℕ, zero, suc, ◌+◌, ◌-◌, ◌^◌, ◌<◌, ◌≤◌, Bool, true, false, cond, List, [], ◌∷◌, ◌++◌, length, take, drop, nat_le, nat_lt, Option, Some, None, refl, sym, ap, subst, ◌∙◌, arith}
use Rattle.std.specs.Prelude.{◌==◌, IfSome, MatchOption}
use Rattle.std.specs.Char.{is_ascii_digit}
use Rattle.std.specs.List.{prefix_len, before_first, after_first}
use Rattle.std.specs.Str.Parse.{digits_value}
use Rattle.std.proofs.Math.Seq.{take-add, take-append_seam, drop-append-add}
use Rattle.std.proofs.lemmas.Bool.Decides.{nat_tests}
use Rattle.std.proofs.lemmas.Str.Parse.{digits_value_short}
use Rattle.std.proofs.lemmas.List.{length-take, length-append}
use Rattle.line_tokens.specs.Tokens.{Token, word, open_bracket, close_bracket, comma, begins_name, continues_name, Placed, is_small, digit_count, place_count, number_at, negative_at, in_quotes, quoted_length, token_at, and_more, tokens_behind, tokens_of}
use Rattle.line_tokens.specs.declared.quote.Within.TheVariants.{Plain}
use Rattle.line_tokens.specs.declared.token.Placed.{Placed as Found}
use Rattle.line_tokens.specs.Views.{token_seen}
use Rattle.type_shapes.specs.Literals.{is_point, HasValue, IsSmallInteger, IsSmallDecimal}
use Rattle.type_shapes.proofs.Digits.{AreDigits, numerals, unsigned, AreDigits-append, leading, point_behind}
use Rattle.type_shapes.proofs.Quotes.{quote_unescapes}

abbrev Valued : Option (Token × ℕ) → Type 0
Valued None = Unit {0}
Valued (Some t) = HasValue t.0

by_test : (t : Bool) (x y : Option (Token × ℕ)) → (t ≡ true → Valued x) → (t ≡ false → Valued y) → Valued (cond t x y)
by_test true x y f g = f refl
by_test false x y f g = g refl

below : (a b : ℕ) → nat_lt a b ≡ true → a < b
below a b h = grind (arith, nat_tests)

at_most : (a b : ℕ) → nat_le a b ≡ true → a ≤ b
at_most a b h = grind (arith, nat_tests)

small_digits : (ds : List ℕ) → AreDigits ds → is_small ds ≡ true → IsSmallInteger ds
small_digits ds h small = subst (λ t. digits_value 10 (cond t (drop 1 ds) ds) < 2 ^ 127) (sym (unsigned ds h)) (below _ _ small)

-- behind so many digits stands a point and then so many more
pub record HasPlaces (text : List ℕ) (places : ℕ) : Type 0 where
  pub back : List ℕ
  pub digits : AreDigits back
  pub count : length back ≤ places
  pub whole : take (1 + places) text ≡ 46 ∷ back

has_places : (text : List ℕ) → (place_count text == 0) ≡ false → HasPlaces text (place_count text)
has_places [] h = absurd cc
has_places (b ∷ bs) h = by_point (b == 46) refl h
  where
    by_point : (t : Bool) → (b == 46) ≡ t → (cond t (digit_count bs) 0 == 0) ≡ false → HasPlaces (b ∷ bs) (cond t (digit_count bs) 0)
    by_point true e h = record {
      back = take (digit_count bs) bs;
      digits = leading bs;
      count = simp length-take (omega arith);
      whole = let n : 1 + digit_count bs ≡ suc (digit_count bs) = omega arith in let is : b ≡ 46 = grind (arith, nat_tests) in rw (n, is) refl;
    }
    by_point false e h = absurd cc

pub decimal_front : (front back : List ℕ) → AreDigits front → before_first is_point (front ++ (46 ∷ back)) ≡ front
decimal_front front back f = ap (λ n. take n (front ++ (46 ∷ back))) (point_behind front back f) ∙ take-append_seam front (46 ∷ back)

pub decimal_back : (front back : List ℕ) → AreDigits front → after_first is_point (front ++ (46 ∷ back)) ≡ back
decimal_back front back f = ap (λ n. drop (n + 1) (front ++ (46 ∷ back))) (point_behind front back f) ∙ drop-append-add front (46 ∷ back) 1

small_decimal : (front back : List ℕ) → AreDigits front → AreDigits back → length front + length back ≤ 18 → IsSmallDecimal (front ++ (46 ∷ back))
small_decimal front back f g few =
    let size : digits_value 10 (front ++ back) < 10 ^ 18 = digits_value_short numerals (front ++ back) 18 (AreDigits-append front back f g) (simp length-append few) in
    let place = point_behind front back f in
    let whole : length (front ++ (46 ∷ back)) ≡ length front + suc (length back) = length-append front (46 ∷ back) in
    record {
      value = subst (λ x. digits_value 10 x < 2 ^ 64) (sym (ap (λ x. x ++ after_first is_point (front ++ (46 ∷ back))) (decimal_front front back f) ∙ ap (λ x. front ++ x) (decimal_back front back f))) (omega (arith, size));
      places = subst (λ x. length x ≤ 18) (sym (decimal_back front back f)) (omega (arith, few));
      point = omega (arith, place, whole);
    }

valued_number : (text : List ℕ) → Valued (number_at text)
valued_number text =
    by_test (place_count (drop (digit_count text) text) == 0) _ _
    (λ _. by_test (is_small (take (digit_count text) text)) _ _ (λ small. small_digits (take (digit_count text) text) (leading text) small) (λ _. tt))
    (λ some. by_test (nat_le (digit_count text + place_count (drop (digit_count text) text)) 18) _ _
    (λ few.
    let n = digit_count text in
    let m = place_count (drop n text) in
    let p = has_places (drop n text) some in
    let whole : take (n + 1 + m) text ≡ take n text ++ (46 ∷ p.back) = ap (λ k. take k text) (add_places n m) ∙ take-add n (1 + m) text ∙ ap (λ x. take n text ++ x) p.whole in
    subst IsSmallDecimal (sym whole) (small_decimal (take n text) p.back (leading text) p.digits (let l : length (take n text) ≤ n = simp length-take (omega arith) in omega (arith, l, p.count, at_most _ _ few))))
    (λ _. tt))
  where
    add_places : (n m : ℕ) → n + 1 + m ≡ n + (1 + m)
    add_places n m = omega arith

valued_negative : (bs : List ℕ) → Valued (negative_at bs)
valued_negative bs =
    by_test (digit_count bs == 0) _ _ (λ _. tt) (λ _. by_test (is_small (take (digit_count bs) bs)) _ _ (λ small. below _ _ small) (λ _. tt))

valued_quote : (bs : List ℕ) (n : Option ℕ) → quoted_length Plain bs ≡ n → Valued (in_quotes n bs)
valued_quote bs None e = tt
valued_quote bs (Some n) e = quote_unescapes bs n e

valued_token : (text : List ℕ) → Valued (token_at text)
valued_token [] = tt
valued_token (b ∷ bs) =
    by_test (b == 40) (Some (open_bracket, 1)) _ (λ _. tt) (λ _. by_test (b == 41) (Some (close_bracket, 1)) _ (λ _. tt) (λ _. by_test (b == 44) (Some (comma, 1)) _ (λ _. tt) (λ _.
    by_test (b == 39) _ _ (λ _. valued_quote bs (quoted_length Plain bs) refl) (λ _.
    by_test (b == 45) _ _ (λ _. valued_negative bs) (λ _.
    by_test (is_ascii_digit b) _ _ (λ _. valued_number (b ∷ bs)) (λ _.
    by_test (begins_name b) (Some (word (take (prefix_len continues_name (b ∷ bs)) (b ∷ bs)), prefix_len continues_name (b ∷ bs))) None (λ _. tt) (λ _. tt)))))))

abbrev pub AllValued : List Placed → Type 0
AllValued [] = Unit {0}
AllValued (t ∷ tokens) = HasValue t.0 × AllValued tokens

valued_behind : (n : ℕ) (text : List ℕ) → AllValued (tokens_behind n text)
valued_behind zero [] = tt
valued_behind (suc n) [] = tt
valued_behind (suc n) (b ∷ bs) = valued_behind n bs
valued_behind zero (b ∷ bs) = by_space (b == 32) (token_at (b ∷ bs)) (valued_token (b ∷ bs)) (λ n. valued_behind n bs)
  where
    by_space : (t : Bool) (o : Option (Token × ℕ)) → Valued o → ((n : ℕ) → AllValued (tokens_behind n bs)) → AllValued (cond t (tokens_behind 0 bs) (and_more (λ n. tokens_behind n bs) (suc (length bs)) o))
    by_space true o v more = more 0
    by_space false None v more = (tt, tt)
    by_space false (Some t) v more = (v, more (t.1 - 1))

pub valued : (text : List ℕ) → AllValued (tokens_of text)
valued text = valued_behind 0 text

-- the token that the code sees first
pub seen_valued : (P : Type 0) (text : List ℕ) (found : Option Found) → MatchOption found P (λ p. tokens_of text ≡ (token_seen p.token, p.left) ∷ tokens_of p.rest.now) → IfSome found (λ first. HasValue (token_seen first.token))
seen_valued P text None h = tt
seen_valued P text (Some p) h = (subst AllValued h (valued text)).0
