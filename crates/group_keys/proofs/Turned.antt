-- A word turned stands among others as its number does.
use Rattle.std.proofs.Common.{◌≡◌, ℕ, suc, ◌+◌, ◌-◌, ◌^◌, ◌<◌, ◌≤◌, ℤ, pos, negsuc, ◌-ℤ◌, ◌<ℤ◌, true, cond, List, [], ◌∷◌, refl, ap, ap₂, sym, subst, ◌∙◌, arith, lt-ltb, le-ltb, Less, Equal, Greater}
use Rattle.std.proofs.lemmas.Bool.{and_parts}
use Rattle.std.proofs.lemmas.List.{append-nil}
use Rattle.std.proofs.lemmas.Int.{ints}
use Rattle.std.specs.Cmp.{int_cmp_is}
use Rattle.std.proofs.lemmas.Cmp.{ranked}
use Rattle.std.specs.declared.cmp.Ordering.{Ordering}
use Rattle.std.specs.Int.{byte_len, cast_unsigned, Width, w8, w16, w32, w64, w128}
use Rattle.std.specs.Ordering.{MatchOrdering, nat_cmp}
use Rattle.std.specs.Prelude.{FitsSigned}
use Rattle.std.proofs.Math.Nat.{mod-eq_of_lt}
use mir.Val.{hbits}
use Rattle.agg_terms.specs.Chains as terms
use Rattle.agg_terms.specs.Lists.{Each}
use Rattle.agg_terms.specs.Order.{compare_rows}
use Rattle.agg_terms.specs.Trees.{IsValue}
use Rattle.agg_terms.specs.Values.{Num, Value}
use Rattle.agg_meaning.specs.Feeds.{AreValues}
use Rattle.key_methods.specs.Figures.{worth}
use Rattle.key_methods.specs.KeyBytes.{value_bytes, values_bytes, word_of}
use Rattle.key_methods.specs.Kinds.{is_plain_number, kind_of, width_of}
use Rattle.key_methods.proofs.Columns.{IsColumn}
use Rattle.key_methods.proofs.Figures.{worth-bytes}
use Rattle.key_methods.proofs.SideBySide.{number_bytes, word_below}
use Rattle.set_leaves.specs.Tuples.{number_tuple}
use Rattle.set_leaves.specs.proving.Orders.{number_ranks}
use Rattle.group_keys.specs.Kinds.{is_one_number}
use Rattle.group_keys.specs.proving.Placed.{first_half, half_of, turned}
use Rattle.group_keys.proofs.Codes.{lone, one-word, plain-word}

-- the number that a turned word stands for
abbrev pub number_at : ℕ → ℕ → ℤ
number_at half word = pos word -ℤ pos half

shifted-rank : (half a b : ℕ) (r : Ordering) → MatchOrdering r (a < b) (a ≡ b) (b < a) → MatchOrdering r (number_at half a <ℤ number_at half b) (number_at half a ≡ number_at half b) (number_at half b <ℤ number_at half a)
shifted-rank half a b Less h = omega (arith, ints, h)
shifted-rank half a b Equal h = ap (number_at half) h
shifted-rank half a b Greater h = omega (arith, ints, h)

-- words stand as their numbers
pub words-rank : (half a b : ℕ) → nat_cmp a b ≡ compare_rows (number_tuple (number_at half a)) (number_tuple (number_at half b))
words-rank half a b =
    int_cmp_is (number_at half a) (number_at half b) (nat_cmp a b) (shifted-rank half a b (nat_cmp a b) (ranked a b (nat_cmp a b) refl))
    ∙ number_ranks (number_at half a) (number_at half b)

-- ---- the number of a word
turned-low : (half word : ℕ) → word < half → number_at half (turned half word) ≡ pos word
turned-low half word h = ap (λ b. number_at half (cond b (word + half) (word - half))) (lt-ltb word half h) ∙ omega (arith, ints)

turned-high : (half word below : ℕ) → half ≤ word → word + suc below ≡ half + half → number_at half (turned half word) ≡ negsuc below
turned-high half word below h e =
    ap (λ b. number_at half (cond b (word + half) (word - half))) (le-ltb word half h) ∙ omega (arith, ints, h, e)

whole-turned : (word : ℕ) → number_at 0 (turned 0 word) ≡ pos word
whole-turned word = ap (λ b. number_at 0 (cond b (word + 0) (word - 0))) (le-ltb word 0 (omega arith)) ∙ omega (arith, ints)

signed-turned : (w : Width) (z : ℤ) → byte_len w ≤ 8 → FitsSigned w z → number_at (2 ^ hbits w) (turned (2 ^ hbits w) (cast_unsigned w z)) ≡ z
signed-turned w (pos k) n h = turned-low (2 ^ hbits w) k h.sfits
signed-turned w8 (negsuc k) n h = let l : k < 128 = h.sfits in turned-high 128 (256 - suc k) k (omega (arith, l)) (omega (arith, l))
signed-turned w16 (negsuc k) n h = let l : k < 32768 = h.sfits in turned-high 32768 (65536 - suc k) k (omega (arith, l)) (omega (arith, l))
signed-turned w32 (negsuc k) n h = let l : k < 2147483648 = h.sfits in turned-high 2147483648 (4294967296 - suc k) k (omega (arith, l)) (omega (arith, l))
signed-turned w64 (negsuc k) n h =
    let l : k < 9223372036854775808 = h.sfits in turned-high 9223372036854775808 (18446744073709551616 - suc k) k (omega (arith, l)) (omega (arith, l))
signed-turned w128 (negsuc k) n h = absurd (omega (arith, n))

value-turned : (t : terms.Ty) (v : Value) → is_plain_number t ≡ true → IsColumn t → IsValue t v → v ≡ Num (number_at (half_of t) (turned (half_of t) (word_of t v)))
value-turned (terms.Whole n) v e c p =
    subst (λ u. u ≡ Num (number_at 0 (turned 0 (word_of (terms.Whole n) u)))) (sym p.1) (ap Num (sym (whole-turned p.0)))
value-turned (terms.Signed w) v e c p =
    subst (λ u. u ≡ Num (number_at (2 ^ hbits w) (turned (2 ^ hbits w) (word_of (terms.Signed w) u)))) (sym p.1) (ap Num (sym (signed-turned w p.0 c p.2)))
value-turned terms.Str v e c p = absurd cc
value-turned (terms.Arr t) v e c p = absurd cc
value-turned (terms.MapTy k t) v e c p = absurd cc
value-turned (terms.Nullable t) v e c p = absurd cc
value-turned (terms.StateOf k us) v e c p = absurd cc

-- the word of a tuple of one number is the number's
one-worth : (t : terms.Ty) (v : Value) → is_plain_number t ≡ true → IsColumn t → IsValue t v → worth (values_bytes (t ∷ []) (v ∷ [])) ≡ word_of t v
one-worth t v e c p =
    ap worth (append-nil (value_bytes t v) ∙ number_bytes t v e)
    ∙ worth-bytes (width_of t) (word_of t v) 0
    ∙ omega (arith, mod-eq_of_lt (word_below t v c p e))

-- a tuple of one number is that of its word
tuple-turned : (ts : List terms.Ty) (vs : List Value) → is_one_number (kind_of ts) ≡ true → Each IsColumn ts → AreValues ts vs →
    number_tuple (number_at (first_half ts) (turned (first_half ts) (worth (values_bytes ts vs)))) ≡ vs
tuple-turned [] vs k c f = absurd cc
tuple-turned (t ∷ []) [] k c f = absurd f
tuple-turned (t ∷ []) (v ∷ []) k c f =
    let plain = (and_parts (is_plain_number t) true (plain-word (t ∷ []) (one-word (kind_of (t ∷ [])) k))).0 in
    ap (λ word. number_tuple (number_at (half_of t) (turned (half_of t) word))) (one-worth t v plain c.0 f.0)
    ∙ ap (λ u. u ∷ []) (sym (value-turned t v plain c.0 f.0))
tuple-turned (t ∷ []) (v ∷ w ∷ vs) k c f = absurd f.1
tuple-turned (t ∷ u ∷ ts) vs k c f = let many = lone (t ∷ u ∷ ts) k in absurd (omega (arith, many))

-- turned words stand as their tuples
pub turned-rank : (ts : List terms.Ty) (vs ws : List Value) → is_one_number (kind_of ts) ≡ true → Each IsColumn ts → AreValues ts vs → AreValues ts ws →
    nat_cmp (turned (first_half ts) (worth (values_bytes ts vs))) (turned (first_half ts) (worth (values_bytes ts ws))) ≡ compare_rows vs ws
turned-rank ts vs ws k c f g =
    words-rank (first_half ts) (turned (first_half ts) (worth (values_bytes ts vs))) (turned (first_half ts) (worth (values_bytes ts ws)))
    ∙ ap₂ compare_rows (tuple-turned ts vs k c f) (tuple-turned ts ws k c g)
