-- Unsigned numbers that are packed side by side stand to one another as their tuples.
use Rattle.std.proofs.Common.{◌≡◌, ℕ, ◌+◌, ◌*◌, ◌^◌, ◌<◌, true, pos, ◌<ℤ◌, List, [], ◌∷◌, length, refl, ap, ap₂, sym, ◌∙◌, subst, arith, Ordering, Less, Equal, Greater}
use Rattle.std.specs.Cmp.{nat_cmp_is, int_cmp_is}
use Rattle.std.specs.List.{list_all}
use Rattle.std.specs.Ordering.{MatchOrdering, int_cmp, nat_cmp, ordering_then}
use Rattle.std.proofs.Math.Nat.{mod-eq_of_lt}
use Rattle.std.proofs.lemmas.Bool.{and_parts}
use Rattle.std.proofs.lemmas.Cmp.{ranked}
use Rattle.std.proofs.lemmas.Int.{ints}
use Rattle.std.proofs.lemmas.Nat.{mul-add-lt, pow-add}
use Rattle.std.proofs.lemmas.List.Sums.{sum_by-cons}
use Rattle.agg_terms.specs.Chains as terms
use Rattle.agg_terms.specs.Lists.{Each}
use Rattle.agg_terms.specs.Order.{compare, compare_rows, compare_values}
use Rattle.agg_terms.specs.Trees.{IsValue}
use Rattle.agg_terms.specs.Values.{Num, Value}
use Rattle.agg_meaning.specs.Feeds.{AreValues}
use Rattle.key_methods.specs.Figures.{worth, worth_behind}
use Rattle.key_methods.specs.KeyBytes.{value_bytes, values_bytes, word_of}
use Rattle.key_methods.specs.Kinds.{is_plain_number, total_width, width_of}
use Rattle.key_methods.proofs.Columns.{IsColumn}
use Rattle.key_methods.proofs.Figures.{wider, worth-append, worth-bytes}
use Rattle.key_methods.proofs.SideBySide.{number_bytes, word_below}
use Rattle.group_keys.specs.proving.Placed.{is_unsigned}
use Rattle.group_keys.proofs.Codes.{length-plain}

-- bytes behind a number: the number by their places, and what they are worth
behind : (bs : List ℕ) (n : ℕ) → worth_behind n bs ≡ n * 256 ^ length bs + worth bs
behind [] n = omega arith
behind (b ∷ bs) n =
    let first : b ≡ 0 * 256 + b = omega arith in
    behind bs (n * 256 + b)
    ∙ split (256 ^ length bs) (256 ^ length (b ∷ bs)) (wider (length bs))
    ∙ ap (λ m. n * 256 ^ length (b ∷ bs) + m) (sym (behind bs b) ∙ ap (λ m. worth_behind m bs) first)
  where
    split : (p q : ℕ) → q ≡ 256 * p → (n * 256 + b) * p + worth bs ≡ n * q + (b * p + worth bs)
    split p q e = rw e (grind arith)

-- what stands first decides
first-decides : (a b c d most : ℕ) → b < most → d < most → nat_cmp (a * most + b) (c * most + d) ≡ ordering_then (nat_cmp a c) (nat_cmp b d)
first-decides a b c d most h k = sym (nat_cmp_is (a * most + b) (c * most + d) (ordering_then (nat_cmp a c) (nat_cmp b d)) (by (nat_cmp a c) (ranked a c (nat_cmp a c) refl)))
  where
    rest : (o : Ordering) → a ≡ c → MatchOrdering o (b < d) (b ≡ d) (d < b) → MatchOrdering o (a * most + b < c * most + d) (a * most + b ≡ c * most + d) (c * most + d < a * most + b)
    rest Less e r = subst (λ x. a * most + b < x * most + d) e (omega (arith, r))
    rest Equal e r = ap₂ (λ x y. x * most + y) e r
    rest Greater e r = subst (λ x. x * most + d < a * most + b) e (omega (arith, r))

    by : (o : Ordering) → MatchOrdering o (a < c) (a ≡ c) (c < a) →
        MatchOrdering (ordering_then o (nat_cmp b d)) (a * most + b < c * most + d) (a * most + b ≡ c * most + d) (c * most + d < a * most + b)
    by Less l = omega (arith, mul-add-lt a most b c l h)
    by Equal e = rest (nat_cmp b d) e (ranked b d (nat_cmp b d) refl)
    by Greater l = omega (arith, mul-add-lt c most d a l k)

pub number-rank : (a b : ℕ) → nat_cmp a b ≡ int_cmp (pos a) (pos b)
number-rank a b = int_cmp_is (pos a) (pos b) (nat_cmp a b) (by (nat_cmp a b) (ranked a b (nat_cmp a b) refl))
  where
    by : (o : Ordering) → MatchOrdering o (a < b) (a ≡ b) (b < a) → MatchOrdering o (pos a <ℤ pos b) (pos a ≡ pos b) (pos b <ℤ pos a)
    by Less h = omega (arith, ints, h)
    by Equal h = ap pos h
    by Greater h = omega (arith, ints, h)

plain-unsigned : (ts : List terms.Ty) → list_all is_unsigned ts ≡ true → list_all is_plain_number ts ≡ true
plain-unsigned [] h = refl
plain-unsigned (terms.Whole n ∷ ts) h = plain-unsigned ts h
plain-unsigned (terms.Signed w ∷ ts) h = absurd cc
plain-unsigned (terms.Str ∷ ts) h = absurd cc
plain-unsigned (terms.Arr t ∷ ts) h = absurd cc
plain-unsigned (terms.MapTy k t ∷ ts) h = absurd cc
plain-unsigned (terms.Nullable t ∷ ts) h = absurd cc
plain-unsigned (terms.StateOf k us ∷ ts) h = absurd cc

value-rank : (t : terms.Ty) (v w : Value) → is_unsigned t ≡ true → IsValue t v → IsValue t w → nat_cmp (word_of t v) (word_of t w) ≡ compare v w
unfolding compare
value-rank (terms.Whole n) v w h p q =
    subst (λ u. nat_cmp (word_of (terms.Whole n) u) (word_of (terms.Whole n) w) ≡ compare u w) (sym p.1)
    (subst (λ u. nat_cmp p.0 (word_of (terms.Whole n) u) ≡ compare (Num (pos p.0)) u) (sym q.1) (number-rank p.0 q.0))
value-rank (terms.Signed s) v w h p q = absurd cc
value-rank terms.Str v w h p q = absurd cc
value-rank (terms.Arr t) v w h p q = absurd cc
value-rank (terms.MapTy k t) v w h p q = absurd cc
value-rank (terms.Nullable t) v w h p q = absurd cc
value-rank (terms.StateOf k us) v w h p q = absurd cc

module _ (t : terms.Ty) (ts : List terms.Ty) (v : Value) (vs : List Value) (h : list_all is_unsigned (t ∷ ts) ≡ true) (c : Each IsColumn (t ∷ ts)) (f : AreValues (t ∷ ts) (v ∷ vs)) where
  plain-first : is_plain_number t ≡ true
  plain-first = (and_parts (is_plain_number t) (list_all is_plain_number ts) (plain-unsigned (t ∷ ts) h)).0

  plain-rest : list_all is_plain_number ts ≡ true
  plain-rest = (and_parts (is_plain_number t) (list_all is_plain_number ts) (plain-unsigned (t ∷ ts) h)).1

  word-below : word_of t v < 256 ^ width_of t
  word-below = word_below t v c.0 f.0 plain-first

  value-worth : worth (value_bytes t v) ≡ word_of t v
  value-worth =
      ap worth (number_bytes t v plain-first) ∙ worth-bytes (width_of t) (word_of t v) 0 ∙ omega (arith, mod-eq_of_lt word-below)

  front : worth (values_bytes (t ∷ ts) (v ∷ vs)) ≡ word_of t v * 256 ^ total_width ts + worth (values_bytes ts vs)
  front =
      worth-append (value_bytes t v) (values_bytes ts vs) 0
      ∙ ap (λ n. worth_behind n (values_bytes ts vs)) value-worth
      ∙ behind (values_bytes ts vs) (word_of t v)
      ∙ ap (λ n. word_of t v * 256 ^ n + worth (values_bytes ts vs)) (length-plain ts vs plain-rest f.1)

rest-unsigned : (t : terms.Ty) (ts : List terms.Ty) → list_all is_unsigned (t ∷ ts) ≡ true → list_all is_unsigned ts ≡ true
rest-unsigned t ts h = (and_parts (is_unsigned t) (list_all is_unsigned ts) h).1

packed-below : (ts : List terms.Ty) (vs : List Value) → list_all is_unsigned ts ≡ true → Each IsColumn ts → AreValues ts vs → worth (values_bytes ts vs) < 256 ^ total_width ts
packed-below [] [] h c f = omega arith
packed-below [] (v ∷ vs) h c f = absurd f
packed-below (t ∷ ts) [] h c f = absurd f
packed-below (t ∷ ts) (v ∷ vs) h c f =
    let rest = packed-below ts vs (rest-unsigned t ts h) c.1 f.1 in
    let all = mul-add-lt (word_of t v) (256 ^ total_width ts) (worth (values_bytes ts vs)) (256 ^ width_of t) (word-below t ts v vs h c f) rest in
    let room : 256 ^ total_width ts * 256 ^ width_of t ≡ 256 ^ total_width (t ∷ ts) =
    sym (pow-add 256 (total_width ts) (width_of t)) ∙ ap (λ n. 256 ^ n) (omega (arith, sum_by-cons width_of t ts)) in
    subst (λ n. n < 256 ^ total_width (t ∷ ts)) (sym (front t ts v vs h c f)) (subst (λ n. word_of t v * 256 ^ total_width ts + worth (values_bytes ts vs) < n) room all)

-- packed numbers stand as their tuples
pub packed-rank : (ts : List terms.Ty) (vs ws : List Value) → list_all is_unsigned ts ≡ true → Each IsColumn ts → AreValues ts vs → AreValues ts ws →
    nat_cmp (worth (values_bytes ts vs)) (worth (values_bytes ts ws)) ≡ compare_rows vs ws
unfolding compare_values
packed-rank [] [] [] h c f g = refl
packed-rank [] [] (w ∷ ws) h c f g = absurd g
packed-rank [] (v ∷ vs) ws h c f g = absurd f
packed-rank (t ∷ ts) [] ws h c f g = absurd f
packed-rank (t ∷ ts) (v ∷ vs) [] h c f g = absurd g
packed-rank (t ∷ ts) (v ∷ vs) (w ∷ ws) h c f g =
    let rest = rest-unsigned t ts h in
    ap₂ nat_cmp (front t ts v vs h c f) (front t ts w ws h c g)
    ∙ first-decides (word_of t v) (worth (values_bytes ts vs)) (word_of t w) (worth (values_bytes ts ws)) (256 ^ total_width ts) (packed-below ts vs rest c.1 f.1) (packed-below ts ws rest c.1 g.1)
    ∙ ap₂ ordering_then (value-rank t v w (and_parts (is_unsigned t) (list_all is_unsigned ts) h).0 f.0 g.0) (packed-rank ts vs ws rest c.1 f.1 g.1)
