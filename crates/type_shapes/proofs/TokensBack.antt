-- Written tokens are found again at the front of a text.
use Rattle.std.proofs.Common.{◌≡◌, ℕ, zero, suc, ◌+◌, ◌-◌, ◌^◌, ◌<◌, ◌≤◌, Bool, true, false, cond, List, [], ◌∷◌, ◌++◌, length, take, drop, map, nat_le, Option, Some, None, refl, sym, ap, ◌∙◌, append_assoc, arith}
use Rattle.std.specs.Prelude.{◌==◌}
use Rattle.std.specs.Char.{is_ascii_digit, is_ascii_alphabetic}
use Rattle.std.specs.List.{prefix_len}
use Rattle.std.specs.Str.Parse.{digits_value}
use Rattle.std.proofs.Math.Seq.{take-append_seam, drop-append_seam, drop-append-add}
use Rattle.std.proofs.lemmas.Bool.Decides.{nat_tests}
use Rattle.line_tokens.specs.Tokens.{Token, word, integer, decimal, quoted, open_bracket, close_bracket, comma, Placed, begins_name, continues_name, digit_count, place_count, is_small, number_with, number_at, negative_at, in_quotes, quoted_length, token_at, and_more, tokens_behind, tokens_of}
use Rattle.line_tokens.specs.declared.quote.Within.TheVariants.{Plain}
use Rattle.tsv_text.specs.Escapes.{is_escaped, letter_of, escaped_byte, escaped}
use Rattle.type_names.specs.Syntax.{tokens_in}
use Rattle.std.proofs.lemmas.List.{length-append}
use Rattle.type_shapes.proofs.Digits.{AreDigits}

-- what stands behind a name or a number: nothing, or a byte that goes on with neither
abbrev pub Ends : List ℕ → Type 0
Ends [] = Unit {0}
Ends (b ∷ bs) = (continues_name b ≡ false) × ((b == 46) ≡ false)

behind-skip : (n : ℕ) (text : List ℕ) → tokens_behind n text ≡ tokens_of (drop n text)
behind-skip zero text = refl
behind-skip (suc n) [] = refl
behind-skip (suc n) (b ∷ bs) = behind-skip n bs

pub first_is : (b : ℕ) (bs : List ℕ) (t : Token) (n : ℕ) → (b == 32) ≡ false → token_at (b ∷ bs) ≡ Some (t, suc n) → tokens_in (b ∷ bs) ≡ t ∷ tokens_in (drop n bs)
first_is b bs t n space is =
    let less : suc n - 1 ≡ n = omega arith in
    ap (map (λ (p : Placed). p.0))
    (ap (λ t. cond t (tokens_behind 0 bs) (and_more (λ n. tokens_behind n bs) (suc (length bs)) (token_at (b ∷ bs)))) space
    ∙ ap (and_more (λ n. tokens_behind n bs) (suc (length bs))) is
    ∙ ap (λ (ts : List Placed). (t, suc (length bs)) ∷ ts) (ap (λ n. tokens_behind n bs) less ∙ behind-skip n bs))

-- marks and spaces
pub open_first : (bs : List ℕ) → tokens_in (40 ∷ bs) ≡ open_bracket ∷ tokens_in bs
open_first bs = refl

pub close_first : (bs : List ℕ) → tokens_in (41 ∷ bs) ≡ close_bracket ∷ tokens_in bs
close_first bs = refl

pub comma_first : (bs : List ℕ) → tokens_in (44 ∷ 32 ∷ bs) ≡ comma ∷ tokens_in bs
comma_first bs = refl

-- ---- names

abbrev pub AllContinue : List ℕ → Type 0
AllContinue [] = Unit {0}
AllContinue (b ∷ bs) = (continues_name b ≡ true) × AllContinue bs

pub AllContinue-append : (xs ys : List ℕ) → AllContinue xs → AllContinue ys → AllContinue (xs ++ ys)
AllContinue-append [] ys h k = k
AllContinue-append (x ∷ xs) ys h k = (h.0, AllContinue-append xs ys h.1 k)

stops_name : (rest : List ℕ) → Ends rest → prefix_len continues_name rest ≡ 0
stops_name [] h = refl
stops_name (b ∷ bs) h = ap (λ t. cond t (1 + prefix_len continues_name bs) 0) h.0

name_goes : (name rest : List ℕ) → AllContinue name → Ends rest → prefix_len continues_name (name ++ rest) ≡ length name
name_goes [] rest h e = stops_name rest e
name_goes (b ∷ bs) rest h e = ap (λ t. cond t (1 + prefix_len continues_name (bs ++ rest)) 0) h.0 ∙ ap (λ n. 1 + n) (name_goes bs rest h.1 e) ∙ omega arith

-- a letter begins nothing but a name
chosen : (a b c d e f g : Bool) (v w x y z u : Option (Token × ℕ)) (t : Option (Token × ℕ)) → a ≡ false → b ≡ false → c ≡ false → d ≡ false → e ≡ false → f ≡ false → g ≡ true
    → cond a v (cond b w (cond c x (cond d y (cond e z (cond f u (cond g t None)))))) ≡ t
chosen a b c d e f g v w x y z u t ha hb hc hd he hf hg = rw (ha, hb, hc, hd, he, hf, hg) refl

pub name_first : (b : ℕ) (bs rest : List ℕ) → is_ascii_alphabetic b ≡ true → AllContinue bs → Ends rest → tokens_in ((b ∷ bs) ++ rest) ≡ word (b ∷ bs) ∷ tokens_in rest
name_first b bs rest letter more e =
    let goes : continues_name b ≡ true = grind (arith, nat_tests) in
    let size : prefix_len continues_name (b ∷ (bs ++ rest)) ≡ suc (length bs) = name_goes (b ∷ bs) rest (goes, more) e in
    let is : token_at (b ∷ (bs ++ rest)) ≡ Some (word (b ∷ bs), suc (length bs)) =
    chosen (b == 40) (b == 41) (b == 44) (b == 39) (b == 45) (is_ascii_digit b) (begins_name b) _ _ _ _ _ _ _
    (grind (arith, nat_tests)) (grind (arith, nat_tests)) (grind (arith, nat_tests)) (grind (arith, nat_tests)) (grind (arith, nat_tests)) (grind (arith, nat_tests)) (grind (arith, nat_tests))
    ∙ ap (λ n. let o : Option (Token × ℕ) = Some (word (take n (b ∷ (bs ++ rest))), n) in o) size
    ∙ ap (λ w. let o : Option (Token × ℕ) = Some (word (b ∷ w), suc (length bs)) in o) (take-append_seam bs rest) in
    first_is b (bs ++ rest) (word (b ∷ bs)) (length bs) (grind (arith, nat_tests)) is ∙ ap (λ r. word (b ∷ bs) ∷ tokens_in r) (drop-append_seam bs rest)

-- ---- numbers

no_digit : (b : ℕ) → continues_name b ≡ false → is_ascii_digit b ≡ false
no_digit b h = grind (arith, nat_tests)

stops_number : (rest : List ℕ) → Ends rest → digit_count rest ≡ 0
stops_number [] h = refl
stops_number (b ∷ bs) h = ap (λ t. cond t (1 + digit_count bs) 0) (no_digit b h.0)

pub digits_go : (ds rest : List ℕ) → AreDigits ds → digit_count rest ≡ 0 → digit_count (ds ++ rest) ≡ length ds
digits_go [] rest h e = e
digits_go (d ∷ ds) rest h e = ap (λ t. cond t (1 + digit_count (ds ++ rest)) 0) h.0 ∙ ap (λ n. 1 + n) (digits_go ds rest h.1 e) ∙ omega arith

no_places : (rest : List ℕ) → Ends rest → place_count rest ≡ 0
no_places [] h = refl
no_places (b ∷ bs) h = ap (λ t. cond t (digit_count bs) 0) h.1

-- a digit begins nothing but a number
digit_chosen : (a b c d e f : Bool) (v w x y z u r : Option (Token × ℕ)) → a ≡ false → b ≡ false → c ≡ false → d ≡ false → e ≡ false → f ≡ true → cond a v (cond b w (cond c x (cond d y (cond e z (cond f u r))))) ≡ u
digit_chosen a b c d e f v w x y z u r ha hb hc hd he hf = rw (ha, hb, hc, hd, he, hf) refl

at_digit : (d : ℕ) (bs : List ℕ) → is_ascii_digit d ≡ true → token_at (d ∷ bs) ≡ number_at (d ∷ bs)
at_digit d bs h = digit_chosen (d == 40) (d == 41) (d == 44) (d == 39) (d == 45) (is_ascii_digit d) _ _ _ _ _ _ _ (grind (arith, nat_tests)) (grind (arith, nat_tests)) (grind (arith, nat_tests)) (grind (arith, nat_tests)) (grind (arith, nat_tests)) h

is_small_number : (ds : List ℕ) → digits_value 10 ds < 2 ^ 127 → is_small ds ≡ true
is_small_number ds h = grind (arith, nat_tests)

number_whole : (digits places : ℕ) (text : List ℕ) → places ≡ 0 → is_small (take digits text) ≡ true → number_with digits places text ≡ Some (integer (take digits text), digits)
number_whole digits places text none small = rw (none, small) refl

pub integer_first : (d : ℕ) (ds rest : List ℕ) → AreDigits (d ∷ ds) → Ends rest → digits_value 10 (d ∷ ds) < 2 ^ 127 → tokens_in ((d ∷ ds) ++ rest) ≡ integer (d ∷ ds) ∷ tokens_in rest
integer_first d ds rest h e small =
    let count : digit_count (d ∷ (ds ++ rest)) ≡ suc (length ds) = digits_go (d ∷ ds) rest h (stops_number rest e) in
    let taken : take (suc (length ds)) (d ∷ (ds ++ rest)) ≡ d ∷ ds = ap (λ x. d ∷ x) (take-append_seam ds rest) in
    let left : drop (suc (length ds)) (d ∷ (ds ++ rest)) ≡ rest = drop-append_seam ds rest in
    let number : number_at (d ∷ (ds ++ rest)) ≡ Some (integer (d ∷ ds), suc (length ds)) =
    ap (λ n. number_with n (place_count (drop n (d ∷ (ds ++ rest)))) (d ∷ (ds ++ rest))) count
    ∙ number_whole (suc (length ds)) (place_count (drop (suc (length ds)) (d ∷ (ds ++ rest)))) (d ∷ (ds ++ rest)) (ap place_count left ∙ no_places rest e) (ap is_small taken ∙ is_small_number (d ∷ ds) small)
    ∙ ap (λ w. let o : Option (Token × ℕ) = Some (integer w, suc (length ds)) in o) taken in
    first_is d (ds ++ rest) (integer (d ∷ ds)) (length ds) (no_space d h.0) (at_digit d (ds ++ rest) h.0 ∙ number) ∙ ap (λ r. integer (d ∷ ds) ∷ tokens_in r) (drop-append_seam ds rest)
  where
    no_space : (d : ℕ) → is_ascii_digit d ≡ true → (d == 32) ≡ false
    no_space d h = grind (arith, nat_tests)

negative_whole : (n : ℕ) (digits : List ℕ) (t : Bool) → (n == 0) ≡ t → t ≡ false → digit_count digits ≡ n → is_small (take n digits) ≡ true → negative_at digits ≡ Some (integer (45 ∷ take n digits), n + 1)
negative_whole n digits t a b count small = rw (count, a, b, small) refl

pub negative_first : (d : ℕ) (ds rest : List ℕ) → AreDigits (d ∷ ds) → Ends rest → digits_value 10 (d ∷ ds) < 2 ^ 127 → tokens_in (45 ∷ ((d ∷ ds) ++ rest)) ≡ integer (45 ∷ d ∷ ds) ∷ tokens_in rest
negative_first d ds rest h e small =
    let count : digit_count (d ∷ (ds ++ rest)) ≡ suc (length ds) = digits_go (d ∷ ds) rest h (stops_number rest e) in
    let taken : take (suc (length ds)) (d ∷ (ds ++ rest)) ≡ d ∷ ds = ap (λ x. d ∷ x) (take-append_seam ds rest) in
    let some : (suc (length ds) == 0) ≡ false = grind (arith, nat_tests) in
    let more : suc (length ds) + 1 ≡ suc (suc (length ds)) = omega arith in
    let number : negative_at (d ∷ (ds ++ rest)) ≡ Some (integer (45 ∷ d ∷ ds), suc (suc (length ds))) =
    negative_whole (suc (length ds)) (d ∷ (ds ++ rest)) false some refl count (ap is_small taken ∙ is_small_number (d ∷ ds) small)
    ∙ ap (λ w. let o : Option (Token × ℕ) = Some (integer (45 ∷ w), suc (length ds) + 1) in o) taken
    ∙ ap (λ n. let o : Option (Token × ℕ) = Some (integer (45 ∷ d ∷ ds), n) in o) more in
    first_is 45 (d ∷ (ds ++ rest)) (integer (45 ∷ d ∷ ds)) (suc (length ds)) refl number ∙ ap (λ r. integer (45 ∷ d ∷ ds) ∷ tokens_in r) (drop-append_seam ds rest)

number_places : (digits places : ℕ) (text : List ℕ) → (places == 0) ≡ false → nat_le (digits + places) 18 ≡ true → number_with digits places text ≡ Some (decimal (take (digits + 1 + places) text), digits + 1 + places)
number_places digits places text some few = rw (some, few) refl

-- digits, a point and digits
pub decimal_first : (d : ℕ) (ds : List ℕ) (b : ℕ) (back rest : List ℕ) → AreDigits (d ∷ ds) → AreDigits (b ∷ back) → Ends rest → length (d ∷ ds) + length (b ∷ back) ≤ 18
    → tokens_in (((d ∷ ds) ++ (46 ∷ b ∷ back)) ++ rest) ≡ decimal ((d ∷ ds) ++ (46 ∷ b ∷ back)) ∷ tokens_in rest
decimal_first d ds b back rest h k e few =
    let n = length (d ∷ ds) in
    let m = length (b ∷ back) in
    let text = (d ∷ ds) ++ (46 ∷ b ∷ back) in
    let grouped : text ++ rest ≡ (d ∷ ds) ++ (46 ∷ ((b ∷ back) ++ rest)) = append_assoc (d ∷ ds) (46 ∷ b ∷ back) rest in
    let count : digit_count ((d ∷ ds) ++ (46 ∷ ((b ∷ back) ++ rest))) ≡ n = digits_go (d ∷ ds) (46 ∷ ((b ∷ back) ++ rest)) h refl in
    let left : drop n ((d ∷ ds) ++ (46 ∷ ((b ∷ back) ++ rest))) ≡ 46 ∷ ((b ∷ back) ++ rest) = drop-append_seam (d ∷ ds) (46 ∷ ((b ∷ back) ++ rest)) in
    let places : place_count (drop n ((d ∷ ds) ++ (46 ∷ ((b ∷ back) ++ rest)))) ≡ m = ap place_count left ∙ digits_go (b ∷ back) rest k (stops_number rest e) in
    let size : n + 1 + m ≡ length text = sym (simp length-append (omega arith)) in
    let taken : take (n + 1 + m) ((d ∷ ds) ++ (46 ∷ ((b ∷ back) ++ rest))) ≡ text = ap (take (n + 1 + m)) (sym grouped) ∙ ap (λ i. take i (text ++ rest)) size ∙ take-append_seam text rest in
    let number : number_at ((d ∷ ds) ++ (46 ∷ ((b ∷ back) ++ rest))) ≡ Some (decimal text, n + 1 + m) =
    ap (λ i. number_with i (place_count (drop i ((d ∷ ds) ++ (46 ∷ ((b ∷ back) ++ rest))))) ((d ∷ ds) ++ (46 ∷ ((b ∷ back) ++ rest)))) count
    ∙ ap (λ i. number_with n i ((d ∷ ds) ++ (46 ∷ ((b ∷ back) ++ rest)))) places
    ∙ number_places n m ((d ∷ ds) ++ (46 ∷ ((b ∷ back) ++ rest))) (some_places (length back)) (few_digits n m few)
    ∙ ap (λ w. let o : Option (Token × ℕ) = Some (decimal w, n + 1 + m) in o) taken in
    let less : n + 1 + m ≡ suc (length ds + 1 + m) = omega arith in
    let gone : drop (length ds + 1 + m) (ds ++ (46 ∷ ((b ∷ back) ++ rest))) ≡ rest =
    ap (λ i. drop i (ds ++ (46 ∷ ((b ∷ back) ++ rest)))) (add_places (length ds) m) ∙ drop-append-add ds (46 ∷ ((b ∷ back) ++ rest)) (suc m) ∙ drop-append_seam (b ∷ back) rest in
    ap tokens_in grouped
    ∙ first_is d (ds ++ (46 ∷ ((b ∷ back) ++ rest))) (decimal text) (length ds + 1 + m) (no_space d h.0) (at_digit d (ds ++ (46 ∷ ((b ∷ back) ++ rest))) h.0 ∙ number ∙ ap (λ i. let o : Option (Token × ℕ) = Some (decimal text, i) in o) less)
    ∙ ap (λ r. decimal text ∷ tokens_in r) gone
  where
    no_space : (d : ℕ) → is_ascii_digit d ≡ true → (d == 32) ≡ false
    no_space d h = grind (arith, nat_tests)

    some_places : (n : ℕ) → (suc n == 0) ≡ false
    some_places n = grind (arith, nat_tests)

    few_digits : (n m : ℕ) → n + m ≤ 18 → nat_le (n + m) 18 ≡ true
    few_digits n m h = grind (arith, nat_tests)

    add_places : (n m : ℕ) → n + 1 + m ≡ n + suc m
    add_places n m = omega arith

-- ---- texts in quotes

-- an escape's letter is not that of `\x`
plain_letter : (b : ℕ) → (letter_of b == 120) ≡ false
plain_letter b = grind (arith, nat_tests)

quote_goes : (escape : Bool) (b : ℕ) (bs rest : List ℕ) → is_escaped b ≡ escape → quoted_length Plain (bs ++ (39 ∷ rest)) ≡ Some (length bs)
    → quoted_length Plain (cond escape (92 ∷ letter_of b ∷ []) (b ∷ []) ++ (bs ++ (39 ∷ rest))) ≡ Some (length (cond escape (92 ∷ letter_of b ∷ []) (b ∷ []) ++ bs))
quote_goes true b bs rest is h = rw (plain_letter b, h) refl
quote_goes false b bs rest is h =
    let q : (b == 39) ≡ false = grind (arith, nat_tests) in
    let s : (b == 92) ≡ false = grind (arith, nat_tests) in
    rw (q, s, h) refl

escaped_ends : (bytes rest : List ℕ) → quoted_length Plain (escaped bytes ++ (39 ∷ rest)) ≡ Some (length (escaped bytes))
escaped_ends [] rest = refl
escaped_ends (b ∷ bs) rest = ap (quoted_length Plain) (append_assoc (escaped_byte b) (escaped bs) (39 ∷ rest)) ∙ quote_goes (is_escaped b) b (escaped bs) rest refl (escaped_ends bs rest)

pub quoted_first : (bytes rest : List ℕ) → tokens_in (39 ∷ (escaped bytes ++ (39 ∷ rest))) ≡ quoted (escaped bytes) ∷ tokens_in rest
quoted_first bytes rest =
    let inside = escaped bytes in
    let size : length inside + 2 ≡ suc (length inside + 1) = omega arith in
    let is : token_at (39 ∷ (inside ++ (39 ∷ rest))) ≡ Some (quoted inside, suc (length inside + 1)) =
    ap (λ n. in_quotes n (inside ++ (39 ∷ rest))) (escaped_ends bytes rest)
    ∙ ap (λ w. let o : Option (Token × ℕ) = Some (quoted w, length inside + 2) in o) (take-append_seam inside (39 ∷ rest))
    ∙ ap (λ n. let o : Option (Token × ℕ) = Some (quoted inside, n) in o) size in
    first_is 39 (inside ++ (39 ∷ rest)) (quoted inside) (length inside + 1) refl is ∙ ap (λ r. quoted inside ∷ tokens_in r) (drop-append-add inside (39 ∷ rest) 1)
