-- What a function means over its rows is a value of its result type.
use Rattle.std.proofs.Common.{◌≡◌, refl, sym, subst, ℕ, zero, suc, ◌*◌, ◌/◌, ◌%◌, ◌^◌, ◌<◌, ◌≤◌, ℤ, pos, negsuc, unsigned_abs, nat_eq, Bool, true, false, cond, List, [], ◌∷◌, map, length, Option, Some, None, ◌∙◌, mod-lt, pow_pos, mul_comm, mul-lt-mul_of_pos_right, div-lt_iff_lt-mul, arith}
use Rattle.std.specs.Prelude.{filter}
use Rattle.std.specs.Int.{int_rem_euclid, int_wrap}
use Rattle.std.proofs.lemmas.Bool.{eqb-false, leb-true}
use Rattle.std.proofs.lemmas.Int.{SFits-int_wrap}
use Rattle.std.proofs.lemmas.List.{length-map}
use mir.Syntax.{w64}
use Rattle.agg_terms.specs.Chains.{And, ArgMax, ArgMin, BitOp, Count, GroupArray, GroupBit, Leaf, Max, Min, Of, Or, QuantileExact, Retention, SequenceMatch, Signed, Sum, Ty, UniqExact, Whole, WindowFunnel, Xor}
use Rattle.agg_terms.specs.Lists.{Each, is_empty, numbered}
use Rattle.agg_terms.specs.Order.{ascending, best, compare, compare_rows, different}
use Rattle.agg_terms.specs.Trees.{IsPlain, IsRow, IsStateless, IsValue}
use Rattle.agg_terms.specs.Types.{any_null, bare, conditions, first_type, is_signed}
use Rattle.agg_terms.specs.Values.{Num, Value}
use Rattle.agg_terms.proofs.Sorting.{length-ascending}
use Rattle.agg_meaning.specs.Events.{events, funnel_level, is_matched, met_set, retained}
use Rattle.agg_meaning.specs.Feeds.{AreValues, IfHere, IsLeafFeed, no_null}
use Rattle.agg_meaning.specs.Functions.{arg, arg_val, at_most, bit_op, bit_value, bits_in, bits_of_none, bits_of_rows, folded, from_bits_in, higher, higher_second, leaf_meaning, lower, lower_second, number, quantile_place, sum_of, the_arg, total, wrapped}
use Rattle.agg_meaning.specs.Lawful.{IsNumber, TakesTypes}
use Rattle.agg_meaning.specs.Results.{default, leaf_result, nullable_if}
use Rattle.agg_meaning.proofs.BitLists.{bits_plain, folded_lt}
use Rattle.agg_meaning.proofs.Kept.{best_has, each_ascending, each_of_map, each_take}
use Rattle.agg_meaning.proofs.LeafFormed.{live_rows_of}
use Rattle.agg_meaning.proofs.LeafLaws.{rows_bits_lt}
use Rattle.agg_meaning.proofs.LeafTrees.{each_map}
use Rattle.agg_typing.specs.Promises.{IsLegalCall}
use Rattle.agg_typing.proofs.Inward.{Passes, legal_passes}
use Rattle.agg_typing.proofs.Reaching.{length-numbered}
use Rattle.agg_typing.proofs.Soundness.{legal_is_lawful}
use Rattle.result_laws.proofs.Fitted.{default_value, first_or_none, flag_value, nullable_value, of_both, or_none, plain_value}
use Rattle.result_laws.proofs.Funnels.{level_most}

-- over rows of its argument types, a function means a value of its result type
abbrev pub LeafFits : Leaf → List Ty → Type 0
LeafFits f ts = (L : List (List Value)) → Each (IsLeafFeed f ts) L →
    IsValue (leaf_result f ts) (leaf_meaning f ts (default (leaf_result f ts)) (filter no_null L))

-- the arguments of the rows that count
one_arg : (t : Ty) (r : List Value) → IsRow (t ∷ []) r → IsPlain (bare t) (the_arg r)
one_arg t [] k = absurd k
one_arg t (v ∷ vs) k = k.0

bare_value : (b : Bool) (t : Ty) (v : Value) → IsPlain (bare t) v → IsValue (nullable_if b (bare t)) v
bare_value b t v k = nullable_value b (bare t) v (plain_value (bare t) v k)

args_fit : (b : Bool) (t : Ty) → IsStateless t → (L : List (List Value)) → Each (AreValues (t ∷ [])) L →
    Each (IsValue (nullable_if b (bare t))) (map the_arg (filter no_null L))
args_fit b t s L k =
    each_map (IsRow (t ∷ [])) (IsValue (nullable_if b (bare t))) the_arg (λ r h. bare_value b t (the_arg r) (one_arg t r h))
    (filter no_null L) (live_rows_of (t ∷ []) (s, tt) L k)

first_arg : (t u : Ty) (r : List Value) → IsRow (t ∷ u ∷ []) r → IsPlain (bare t) (arg_val r).0
first_arg t u [] k = absurd k
first_arg t u (v ∷ vs) k = k.0

firsts_fit : (b : Bool) (t u : Ty) → IsStateless t → IsStateless u → (L : List (List Value)) → Each (AreValues (t ∷ u ∷ [])) L →
    Each (λ p. IsValue (nullable_if b (bare t)) p.0) (map arg_val (filter no_null L))
firsts_fit b t u s q L k =
    each_map (IsRow (t ∷ u ∷ [])) (λ p. IsValue (nullable_if b (bare t)) p.0) arg_val (λ r h. bare_value b t (arg_val r).0 (first_arg t u r h))
    (filter no_null L) (live_rows_of (t ∷ u ∷ []) (s, (q, tt)) L k)

-- count and uniqExact
count_fits : (n : ℕ) → IsValue (Whole 64) (Num (pos (n % 2 ^ 64)))
count_fits n = (n % 2 ^ 64, refl, mod-lt n (pow_pos 64))

-- sum
wrapped_fits : (s : Bool) (z : ℤ) → IsValue (cond s (Signed w64) (Whole 64)) (Num (wrapped s z))
wrapped_fits true z = (int_wrap w64 z, refl, SFits-int_wrap w64 z)
wrapped_fits false (pos n) = count_fits n
wrapped_fits false (negsuc n) = (unsigned_abs (int_rem_euclid (negsuc n) (pos (2 ^ 64))), refl, omega arith)

sum_fits : (ts : List Ty) → LeafFits Sum ts
sum_fits ts L k =
    let word : Ty = cond (is_signed (first_type ts)) (Signed w64) (Whole 64) in
    of_both (IsValue (nullable_if (any_null ts) word)) (is_empty (filter no_null L)) (default (nullable_if (any_null ts) word)) (Num (total ts (filter no_null L)))
    (default_value (nullable_if (any_null ts) word))
    (nullable_value (any_null ts) word (Num (total ts (filter no_null L))) (wrapped_fits (is_signed (first_type ts)) (sum_of (map (λ r. number (arg 0 r)) (filter no_null L)))))

-- min and max
best_fits : (beats : Value → Value → Bool) (b : Bool) (t : Ty) → IsStateless t → (L : List (List Value)) → Each (AreValues (t ∷ [])) L →
    IfHere (IsValue (nullable_if b (bare t))) (best beats (map the_arg (filter no_null L)))
best_fits beats b t s L k = best_has (IsValue (nullable_if b (bare t))) beats (map the_arg (filter no_null L)) (args_fit b t s L k)

min_fits : (t : Ty) → IsStateless t → LeafFits Min (t ∷ [])
min_fits t s L k =
    or_none (IsValue (leaf_result Min (t ∷ []))) (default (leaf_result Min (t ∷ []))) (best lower (map the_arg (filter no_null L)))
    (default_value (leaf_result Min (t ∷ []))) (best_fits lower (any_null (t ∷ [])) t s L k)

max_fits : (t : Ty) → IsStateless t → LeafFits Max (t ∷ [])
max_fits t s L k =
    or_none (IsValue (leaf_result Max (t ∷ []))) (default (leaf_result Max (t ∷ []))) (best higher (map the_arg (filter no_null L)))
    (default_value (leaf_result Max (t ∷ []))) (best_fits higher (any_null (t ∷ [])) t s L k)

-- argMin and argMax
best_first : (beats : Value × Value → Value × Value → Bool) (b : Bool) (t u : Ty) → IsStateless t → IsStateless u → (L : List (List Value)) →
    Each (AreValues (t ∷ u ∷ [])) L → IfHere (λ p. IsValue (nullable_if b (bare t)) p.0) (best beats (map arg_val (filter no_null L)))
best_first beats b t u s q L k = best_has (λ p. IsValue (nullable_if b (bare t)) p.0) beats (map arg_val (filter no_null L)) (firsts_fit b t u s q L k)

arg_min_fits : (t u : Ty) → IsStateless t → IsStateless u → LeafFits ArgMin (t ∷ u ∷ [])
arg_min_fits t u s q L k =
    let result : Ty = leaf_result ArgMin (t ∷ u ∷ []) in
    first_or_none (IsValue result) (default result) (best lower_second (map arg_val (filter no_null L)))
    (default_value result) (best_first lower_second (any_null (t ∷ u ∷ [])) t u s q L k)

arg_max_fits : (t u : Ty) → IsStateless t → IsStateless u → LeafFits ArgMax (t ∷ u ∷ [])
arg_max_fits t u s q L k =
    let result : Ty = leaf_result ArgMax (t ∷ u ∷ []) in
    first_or_none (IsValue result) (default result) (best higher_second (map arg_val (filter no_null L)))
    (default_value result) (best_first higher_second (any_null (t ∷ u ∷ [])) t u s q L k)

-- groupArray
some_taken : (P : Value → Type 0) (most : Option ℕ) (vs : List Value) → Each P vs → Each P (at_most most vs)
some_taken P None vs k = k
some_taken P (Some n) vs k = each_take P n vs k

array_fits : (most : Option ℕ) (t : Ty) → IsStateless t → LeafFits (GroupArray most) (t ∷ [])
array_fits most t s L k =
    (at_most most (map the_arg (filter no_null L)), refl, some_taken (IsValue (bare t)) most (map the_arg (filter no_null L)) (args_fit false t s L k))

-- quantileExact
place_below : (most level n : ℕ) → 0 < most → level < most → (level * suc n) / most < suc n
place_below most level n q l =
    let some : 0 < suc n = omega arith in
    let less : level * suc n < most * suc n = mul-lt-mul_of_pos_right l some in
    (div-lt_iff_lt-mul q).1 (subst (λ m. level * suc n < m) (mul_comm most (suc n)) less)

place_within : (level n : ℕ) → level ≤ 10 ^ 9 → quantile_place level (suc n) < suc n
place_within level n l = go (nat_eq level (10 ^ 9)) refl
  where
    go : (b : Bool) → nat_eq level (10 ^ 9) ≡ b → cond b n ((level * suc n) / 10 ^ 9) < suc n
    go true e = omega arith
    go false e = place_below (10 ^ 9) level n (omega arith) (omega (arith, l, eqb-false level (10 ^ 9) e))

arg_within : (P : Value → Type 0) (i : ℕ) (vs : List Value) → i < length vs → Each P vs → P (arg i vs)
arg_within P i [] l k = absurd (omega (arith, l))
arg_within P zero (v ∷ vs) l k = k.0
arg_within P (suc i) (v ∷ vs) l k = arg_within P i vs (omega (arith, l)) k.1

placed : (P : Value → Type 0) (nothing : Value) (level : ℕ) → level ≤ 10 ^ 9 → (M : List (List Value)) → P nothing → Each P (map the_arg M) →
    P (cond (is_empty M) nothing (arg (quantile_place level (length M)) (ascending compare (map the_arg M))))
placed P nothing level l [] d k = d
placed P nothing level l (r ∷ M) d k =
    let all : length (ascending compare (map the_arg (r ∷ M))) ≡ length (r ∷ M) =
    length-ascending compare (map the_arg (r ∷ M)) ∙ length-map (r ∷ M) the_arg in
    let place : quantile_place level (length (r ∷ M)) < length (r ∷ M) = place_within level (length M) l in
    arg_within P (quantile_place level (length (r ∷ M))) (ascending compare (map the_arg (r ∷ M)))
    (subst (λ n. quantile_place level (length (r ∷ M)) < n) (sym all) place) (each_ascending P compare (map the_arg (r ∷ M)) k)

quantile_fits : (level : ℕ) → level ≤ 10 ^ 9 → (t : Ty) → IsStateless t → LeafFits (QuantileExact level) (t ∷ [])
quantile_fits level l t s L k =
    let result : Ty = leaf_result (QuantileExact level) (t ∷ []) in
    placed (IsValue result) (default result) level l (filter no_null L) (default_value result) (args_fit (any_null (t ∷ [])) t s L k)

-- windowFunnel
conditions_few : (ts : List Ty) → length ts ≤ 33 → conditions ts ≤ 32
conditions_few [] l = omega arith
conditions_few (t ∷ ts) l = omega (arith, l)

funnel_fits : (window : ℕ) (strict : Bool) (ts : List Ty) → length ts ≤ 33 → LeafFits (WindowFunnel window strict) ts
funnel_fits window strict ts l L k =
    let level : ℕ = funnel_level window strict (events (conditions ts) (filter no_null L)) in
    let few : conditions ts ≤ 32 = conditions_few ts l in
    let short : level ≤ conditions ts = level_most (conditions ts) window strict (filter no_null L) in
    (level, refl, omega (arith, few, short))

-- retention
retained_fits : (bs : List Bool) → Each (IsValue (Whole 8)) (retained bs)
retained_fits [] = tt
retained_fits (b ∷ bs) = (flag_value b, each_of_map (IsValue (Whole 8)) _ (λ c. flag_value _) bs)

-- groupBitAnd, groupBitOr and groupBitXor
none_fits : (op : BitOp) (n : ℕ) → bits_of_none op n < 2 ^ n
none_fits And n = let some = pow_pos n in omega (arith, some)
none_fits Or n = pow_pos n
none_fits Xor n = pow_pos n

bit_fits : (t : Ty) → IsNumber (bare t) → (b : Bool) (n : ℕ) → n < 2 ^ bits_in t → IsValue (nullable_if b (bare t)) (Num (from_bits_in t n))
bit_fits t s b n l = bare_value b t (Num (from_bits_in t n)) (bits_plain t s n l)

bits_fit : (t : Ty) → IsNumber (bare t) → (b : Bool) (nothing : Value) → IsValue (nullable_if b (bare t)) nothing →
    (o : Option ℕ) → IfHere (λ n. n < 2 ^ bits_in t) o → IsValue (nullable_if b (bare t)) (bit_value t nothing o)
bits_fit t s b nothing d None h = d
bits_fit t s b nothing d (Some n) h = bit_fits t s b n h

bit_group_fits : (op : BitOp) (t : Ty) → IsNumber (bare t) → LeafFits (GroupBit op) (t ∷ [])
bit_group_fits op t s L k =
    let result : Ty = leaf_result (GroupBit op) (t ∷ []) in
    let all : Value = Num (from_bits_in t (bits_of_none op (bits_in t))) in
    bits_fit t s (any_null (t ∷ [])) (cond (any_null (t ∷ [])) (default result) all)
    (of_both (IsValue result) (any_null (t ∷ [])) (default result) all (default_value result)
    (bit_fits t s (any_null (t ∷ [])) (bits_of_none op (bits_in t)) (none_fits op (bits_in t))))
    (folded (bit_op op) (bits_of_rows t (filter no_null L)))
    (folded_lt op (bits_in t) (bits_of_rows t (filter no_null L)) (rows_bits_lt t (filter no_null L)))

-- what the rules say of a function's parameters and of the number of its arguments
quantile_level : (level : ℕ) (ts : List Ty) → IsLegalCall (Of (QuantileExact level)) ts → level ≤ 10 ^ 9
quantile_level level ts l =
    let p : Passes (Of (QuantileExact level)) (numbered 1 ts) = legal_passes (Of (QuantileExact level)) ts l in
    leb-true level (10 ^ 9) p.formed_ok.range

funnel_arguments : (window : ℕ) (strict : Bool) (ts : List Ty) → IsLegalCall (Of (WindowFunnel window strict)) ts → length ts ≤ 33
funnel_arguments window strict ts l =
    let p : Passes (Of (WindowFunnel window strict)) (numbered 1 ts) = legal_passes (Of (WindowFunnel window strict)) ts l in
    let same : length (numbered 1 ts) ≡ length ts = length-numbered 1 ts in
    subst (λ n. n ≤ 33) same p.greatest_ok

fits : (f : Leaf) (ts : List Ty) → IsLegalCall (Of f) ts → TakesTypes f ts → LeafFits f ts
fits Count ts l s = λ L k. count_fits (length (filter no_null L))
fits Sum ts l s = sum_fits ts
fits Min ts l s = subst (LeafFits Min) (sym s.1) (min_fits s.0 s.2)
fits Max ts l s = subst (LeafFits Max) (sym s.1) (max_fits s.0 s.2)
fits ArgMin ts l s = subst (LeafFits ArgMin) (sym s.2) (arg_min_fits s.0 s.1 s.3 s.4)
fits ArgMax ts l s = subst (LeafFits ArgMax) (sym s.2) (arg_max_fits s.0 s.1 s.3 s.4)
fits (GroupArray most) ts l s = subst (LeafFits (GroupArray most)) (sym s.1) (array_fits most s.0 s.2)
fits UniqExact ts l s = λ L k. count_fits (length (different compare_rows (filter no_null L)))
fits (QuantileExact level) ts l s =
    subst (LeafFits (QuantileExact level)) (sym s.1) (quantile_fits level (quantile_level level ts l) s.0 s.2)
fits (WindowFunnel window strict) ts l s = funnel_fits window strict ts (funnel_arguments window strict ts l)
fits (SequenceMatch pattern) ts l s = λ L k. flag_value (is_matched pattern (events (conditions ts) (filter no_null L)))
fits Retention ts l s = λ L k. (retained (met_set (length ts) (filter no_null L)), refl, retained_fits (met_set (length ts) (filter no_null L)))
fits (GroupBit op) ts l s = subst (LeafFits (GroupBit op)) (sym s.1) (bit_group_fits op s.0 s.2)

-- a legal function
pub function_fits : (f : Leaf) (ts : List Ty) → IsLegalCall (Of f) ts → LeafFits f ts
function_fits f ts l = fits f ts l (legal_is_lawful (Of f) ts l).1
