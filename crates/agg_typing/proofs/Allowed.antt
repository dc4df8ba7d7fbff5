-- What is allowed is legal.
use Rattle.std.proofs.Common.{◌≡◌, refl, ap, sym, ◌∙◌, subst, ℕ, suc, ◌+◌, ◌-◌, ◌*◌, ◌^◌, ◌≤◌, nat_lt, nat_le, ℤ, pos, negsuc, int_lt, Bool, true, false, cond, not, ◌&&◌, List, [], ◌∷◌, length, take, drop, reverse, Option, Some, None, is_none, Result, Ok, Err, arith}
use Rattle.std.proofs.lemmas.Bool.{leb-true, le-leb, lt-ltb}
use Rattle.std.proofs.lemmas.Nat.{pow-add}
use Rattle.std.proofs.Math.Nat.{mul-le-mul_right}
use Rattle.agg_typing.proofs.Same.{both}
use Rattle.agg_terms.specs.Chains.{Chain, Leaf, Pattern, Ty}
use Rattle.agg_typing.specs.Kinds.{Arg, arg_types}
use Rattle.agg_typing.specs.Faults.{ArrayOutsideIf, BadParam, Fault, ParamCount, TooManySuffixes, and_then, check, no_breach}
use Rattle.agg_typing.specs.Literals.{Decimal, Int, Literal, Text}
use Rattle.agg_typing.specs.Parameters.{PatternReader, Range, int64, interval_count, is_int64, level, mode, most_intervals, natural, param, pattern_conditions, pattern_leaf, read_chain, read_leaf, read_range, text, under}
use Rattle.agg_typing.specs.Names.{Shape}
use Rattle.agg_typing.specs.Typing.{known_name, allowed_shape, allowed, resolved_state}
use Rattle.agg_typing.specs.Promises.{GivesPatterns}
use Rattle.agg_terms.specs.Chains.{tys}
use Rattle.agg_typing.specs.States.{is_state_or_merge}
use Rattle.agg_typing.specs.Faults.{WrongState}
use Rattle.agg_typing.specs.Names.{read_name}
use Rattle.agg_typing.specs.Legal.{is_legal_type, are_legal_types}
use Rattle.agg_typing.proofs.Results.{state_of_legal}
use Rattle.agg_typing.specs.Counts.{arg_count}
use Rattle.agg_typing.specs.Suffixes.{arguments_reaching, has_array_outside_if, takes_param_count}
use Rattle.agg_typing.specs.Legal.{in_range, is_formed, is_legal, is_pattern, is_range, is_typed, leaf_in_range, suffixes_of}
use Rattle.agg_terms.specs.Lists.{numbered}
use Rattle.agg_typing.specs.States.{wrong_state}
use Rattle.agg_terms.specs.Chains as C
use Rattle.agg_terms.specs.declared.words.LeafName.{LeafName}
use Rattle.agg_terms.specs.declared.words.Suffix.{Suffix}

pub then_ok : {X Y : Type 0} (r : Result X Fault) (next : X → Result Y Fault) (y : Y) → and_then r next ≡ Ok y → (x : X) × (r ≡ Ok x) × (next x ≡ Ok y)
then_ok (Ok x) next y h = (x, refl, h)
then_ok (Err e) next y h = cc h

ok_is : {X : Type 0} (x y : X) → (let a : Result X Fault = Ok x in let b : Result X Fault = Ok y in a ≡ b) → x ≡ y
ok_is x y h = cc h

step : (s : Suffix) (inner : List Suffix) (r : Result Chain Fault) (c : Chain) (deeper : (d : Chain) → r ≡ Ok d → suffixes_of d ≡ inner)
    (flat : (d : Chain) → suffixes_of (under s d) ≡ s ∷ suffixes_of d) → and_then r (λ (d : Chain). Ok (under s d)) ≡ Ok c → suffixes_of c ≡ s ∷ inner
step s inner r c deeper flat h =
    let t = then_ok r (λ (d : Chain). Ok (under s d)) c h in
    let e : under s t.0 ≡ c = ok_is (under s t.0) c t.2 in
    ap suffixes_of (sym e) ∙ flat t.0 ∙ ap (λ z. s ∷ z) (deeper t.0 t.1)

-- the chain that is read has the suffixes of the name
pub read-suffixes_of : (reads : PatternReader) (n : ℕ) (f : LeafName) (ss : List Suffix) (o : ℕ) (ps : List Literal) (c : Chain) →
    read_chain reads n f o ss ps ≡ Ok c → suffixes_of c ≡ ss
read-suffixes_of reads n f [] o ps c h =
    let t = then_ok (read_leaf reads n f ps) (λ (l : Leaf). Ok (C.Of l)) c h in
    let e : C.Of t.0 ≡ c = ok_is (C.Of t.0) c t.2 in
    ap suffixes_of (sym e)
read-suffixes_of reads n f (Suffix.Resample ∷ inner) o ps c h =
    let m : ℕ = length ps - 3 in
    let t = then_ok (read_range o m (drop m ps)) (λ (cut : Range).
    and_then (read_chain reads n f (o * interval_count cut) inner (take m ps)) (λ (d : Chain). Ok (C.Resample cut.start cut.end cut.step d))) c h in
    let u = then_ok (read_chain reads n f (o * interval_count t.0) inner (take m ps)) (λ (d : Chain). Ok (C.Resample t.0.start t.0.end t.0.step d)) c t.2 in
    let e : C.Resample t.0.start t.0.end t.0.step u.0 ≡ c = ok_is (C.Resample t.0.start t.0.end t.0.step u.0) c u.2 in
    ap suffixes_of (sym e) ∙ ap (λ z. Suffix.Resample ∷ z) (read-suffixes_of reads n f inner (o * interval_count t.0) (take m ps) u.0 u.1)
read-suffixes_of reads n f (Suffix.If ∷ inner) o ps c h = step Suffix.If inner (read_chain reads n f o inner ps) c (read-suffixes_of reads n f inner o ps) (λ d. refl) h
read-suffixes_of reads n f (Suffix.Array ∷ inner) o ps c h = step Suffix.Array inner (read_chain reads n f o inner ps) c (read-suffixes_of reads n f inner o ps) (λ d. refl) h
read-suffixes_of reads n f (Suffix.MapOf ∷ inner) o ps c h = step Suffix.MapOf inner (read_chain reads n f o inner ps) c (read-suffixes_of reads n f inner o ps) (λ d. refl) h
read-suffixes_of reads n f (Suffix.ForEach ∷ inner) o ps c h = step Suffix.ForEach inner (read_chain reads n f o inner ps) c (read-suffixes_of reads n f inner o ps) (λ d. refl) h
read-suffixes_of reads n f (Suffix.OrNull ∷ inner) o ps c h = step Suffix.OrNull inner (read_chain reads n f o inner ps) c (read-suffixes_of reads n f inner o ps) (λ d. refl) h
read-suffixes_of reads n f (Suffix.OrDefault ∷ inner) o ps c h = step Suffix.OrDefault inner (read_chain reads n f o inner ps) c (read-suffixes_of reads n f inner o ps) (λ d. refl) h
read-suffixes_of reads n f (Suffix.Distinct ∷ inner) o ps c h = step Suffix.Distinct inner (read_chain reads n f o inner ps) c (read-suffixes_of reads n f inner o ps) (λ d. refl) h
read-suffixes_of reads n f (Suffix.State ∷ inner) o ps c h = step Suffix.State inner (read_chain reads n f o inner ps) c (read-suffixes_of reads n f inner o ps) (λ d. refl) h
read-suffixes_of reads n f (Suffix.Merge ∷ inner) o ps c h = step Suffix.Merge inner (read_chain reads n f o inner ps) c (read-suffixes_of reads n f inner o ps) (λ d. refl) h

-- A parameter that is read is in range.
param_ok : {X : Type 0} (i : ℕ) (o : Option X) (x : X) → (let r : Result X Fault = Ok x in param i o ≡ r) → o ≡ Some x
param_ok i None x h = cc h
param_ok i (Some y) x h = ap Some (ok_is y x h)

check_ok : (b : Bool) (e : Fault) (u : Unit {0}) → check b e ≡ Ok u → b ≡ true
check_ok true e u h = refl
check_ok false e u h = cc h

breach_ok : (o : Option Fault) (u : Unit {0}) → no_breach o ≡ Ok u → is_none o ≡ true
breach_ok None u h = refl
breach_ok (Some e) u h = cc h

if_some : {X : Type 0} (b : Bool) (y x : X) → cond b (Some y) None ≡ Some x → (b ≡ true) × (y ≡ x)
if_some true y x h = (refl, cc h)
if_some false y x h = cc h

natural_in : (low high : ℕ) (l : Literal) (n : ℕ) → natural low high l ≡ Some n → (nat_le low n ≡ true) × (n ≤ high)
natural_in low high (Int (pos m)) n h =
    let a = if_some (nat_le low m && nat_le m high) m n h in
    let b = both (nat_le low m) (nat_le m high) a.0 in
    (subst (λ (k : ℕ). nat_le low k ≡ true) a.1 b.0, leb-true n high (subst (λ (k : ℕ). nat_le k high ≡ true) a.1 b.1))
natural_in low high (Int (negsuc m)) n h = cc h
natural_in low high (Decimal units places) n h = cc h
natural_in low high (Text bytes) n h = cc h

signed_in : (l : Literal) (z : ℤ) → int64 l ≡ Some z → is_int64 z ≡ true
signed_in (Int y) z h = let a = if_some (is_int64 y) y z h in subst (λ (k : ℤ). is_int64 k ≡ true) a.1 a.0
signed_in (Decimal units places) z h = cc h
signed_in (Text bytes) z h = cc h

below : (n k : ℕ) → n ≤ k → nat_lt n (suc k) ≡ true
below n k h = le-leb (suc n) (suc k) (omega arith)

all_true : (a b : Bool) → a ≡ true → b ≡ true → (a && b) ≡ true
all_true a b h k = rw (h, k)

all_six : (a b c d e f : Bool) → a ≡ true → b ≡ true → c ≡ true → d ≡ true → e ≡ true → f ≡ true → (a && (b && (c && (d && (e && f))))) ≡ true
all_six a b c d e f p q r s t u = rw (p, q, r, s, t, u)

range_in : (outer m : ℕ) (ps : List Literal) (cut : Range) → read_range outer m ps ≡ Ok cut → is_range outer cut.start cut.end cut.step ≡ true
range_in outer m (s ∷ e ∷ k ∷ []) cut h =
    let cut_at : ℤ → ℤ → ℕ → Range = λ from to by. record { start = from; end = to; step = by } in
    let last : ℤ → ℤ → ℕ → Result Range Fault = λ from to by.
    and_then (check (nat_le (outer * interval_count (cut_at from to by)) most_intervals) (BadParam (m + 3))) (λ (_ : Unit {0}). Ok (cut_at from to by)) in
    let steps : ℤ → ℤ → Result Range Fault = λ from to. and_then (param (m + 3) (natural 1 (2 ^ 64 - 1) k)) (λ (by : ℕ). last from to by) in
    let ordered : ℤ → ℤ → Result Range Fault = λ from to. and_then (check (int_lt from to) (BadParam (m + 2))) (λ (_ : Unit {0}). steps from to) in
    let ends : ℤ → Result Range Fault = λ from. and_then (param (m + 2) (int64 e)) (λ (to : ℤ). ordered from to) in
    let t = then_ok (param (m + 1) (int64 s)) ends cut h in
    let u = then_ok (param (m + 2) (int64 e)) (ordered t.0) cut t.2 in
    let v = then_ok (check (int_lt t.0 u.0) (BadParam (m + 2))) (λ (_ : Unit {0}). steps t.0 u.0) cut u.2 in
    let w = then_ok (param (m + 3) (natural 1 (2 ^ 64 - 1) k)) (last t.0 u.0) cut v.2 in
    let c : Range = cut_at t.0 u.0 w.0 in
    let x = then_ok (check (nat_le (outer * interval_count c) most_intervals) (BadParam (m + 3))) (λ (_ : Unit {0}). Ok c) cut w.2 in
    let same : c ≡ cut = ok_is c cut x.2 in
    let low : is_int64 t.0 ≡ true = signed_in s t.0 (param_ok (m + 1) (int64 s) t.0 t.1) in
    let high : is_int64 u.0 ≡ true = signed_in e u.0 (param_ok (m + 2) (int64 e) u.0 u.1) in
    let order : int_lt t.0 u.0 ≡ true = check_ok (int_lt t.0 u.0) (BadParam (m + 2)) v.0 v.1 in
    let some = natural_in 1 (2 ^ 64 - 1) k w.0 (param_ok (m + 3) (natural 1 (2 ^ 64 - 1) k) w.0 w.1) in
    let small : nat_lt w.0 (2 ^ 64) ≡ true = lt-ltb w.0 (2 ^ 64) (omega (arith, some.1)) in
    let few : nat_le (outer * interval_count c) most_intervals ≡ true = check_ok (nat_le (outer * interval_count c) most_intervals) (BadParam (m + 3)) x.0 x.1 in
    let whole : is_range outer t.0 u.0 w.0 ≡ true = all_six (is_int64 t.0) (is_int64 u.0) (int_lt t.0 u.0) (nat_le 1 w.0) (nat_lt w.0 (2 ^ 64)) (nat_le (outer * interval_count c) most_intervals)
    low high order some.0 small few in
    subst (λ (z : Range). is_range outer z.start z.end z.step ≡ true) same whole
range_in outer m _ cut h = cc h

scaled : (u p : ℕ) → p ≤ 9 → u ≤ 10 ^ p → u * 10 ^ (9 - p) ≤ 10 ^ 9
scaled u p h l =
    let sum : p + (9 - p) ≡ 9 = omega arith in
    let whole : 10 ^ p * 10 ^ (9 - p) ≡ 10 ^ 9 = sym (pow-add 10 p (9 - p)) ∙ ap (λ n. 10 ^ n) sum in
    let less : u * 10 ^ (9 - p) ≤ 10 ^ p * 10 ^ (9 - p) = mul-le-mul_right (10 ^ (9 - p)) l in
    omega arith

level_in : (l : Literal) (n : ℕ) → level l ≡ Some n → nat_le n (10 ^ 9) ≡ true
level_in (Int (pos m)) n h =
    let a = if_some (nat_le m 1) (m * 10 ^ 9) n h in
    let one : m ≤ 1 = leb-true m 1 a.0 in
    le-leb n (10 ^ 9) (omega (arith, a.1))
level_in (Decimal u p) n h =
    let a = if_some (nat_le 1 p && (nat_le p 9 && nat_le u (10 ^ p))) (u * 10 ^ (9 - p)) n h in
    let b = both (nat_le 1 p) (nat_le p 9 && nat_le u (10 ^ p)) a.0 in
    let c = both (nat_le p 9) (nat_le u (10 ^ p)) b.1 in
    le-leb n (10 ^ 9) (subst (λ (k : ℕ). k ≤ 10 ^ 9) a.1 (scaled u p (leb-true p 9 c.0) (leb-true u (10 ^ p) c.1)))
level_in (Int (negsuc m)) n h = cc h
level_in (Text bytes) n h = cc h

-- the parameters of a function are in range
leaf_at : (n : ℕ) (l f : Leaf) → (let a : Result Leaf Fault = Ok l in let b : Result Leaf Fault = Ok f in a ≡ b) → leaf_in_range n l ≡ true → leaf_in_range n f ≡ true
leaf_at n l f h k = subst (λ (z : Leaf). leaf_in_range n z ≡ true) (ok_is l f h) k

pattern_in : (n : ℕ) (r : Result Pattern ℕ) (l : Leaf) (owes : (p : Pattern) → r ≡ Ok p → is_pattern n p ≡ true) → pattern_leaf r ≡ Ok l → leaf_in_range n l ≡ true
pattern_in n (Ok p) l owes h = leaf_at n (C.SequenceMatch p) l h (owes p refl)
pattern_in n (Err at) l owes h = cc h

leaf_in : (reads : PatternReader) → GivesPatterns reads → (n : ℕ) (f : LeafName) (ps : List Literal) (l : Leaf) → read_leaf reads n f ps ≡ Ok l → leaf_in_range n l ≡ true
leaf_in reads owes n LeafName.Count ps l h = leaf_at n C.Count l h refl
leaf_in reads owes n LeafName.Sum ps l h = leaf_at n C.Sum l h refl
leaf_in reads owes n LeafName.Min ps l h = leaf_at n C.Min l h refl
leaf_in reads owes n LeafName.Max ps l h = leaf_at n C.Max l h refl
leaf_in reads owes n LeafName.ArgMin ps l h = leaf_at n C.ArgMin l h refl
leaf_in reads owes n LeafName.ArgMax ps l h = leaf_at n C.ArgMax l h refl
leaf_in reads owes n LeafName.BitAnd ps l h = leaf_at n (C.GroupBit C.And) l h refl
leaf_in reads owes n LeafName.BitOr ps l h = leaf_at n (C.GroupBit C.Or) l h refl
leaf_in reads owes n LeafName.BitXor ps l h = leaf_at n (C.GroupBit C.Xor) l h refl
leaf_in reads owes n LeafName.UniqExact ps l h = leaf_at n C.UniqExact l h refl
leaf_in reads owes n LeafName.Retention ps l h = leaf_at n C.Retention l h refl
leaf_in reads owes n LeafName.GroupArray [] l h = leaf_at n (C.GroupArray None) l h refl
leaf_in reads owes n LeafName.GroupArray (most ∷ ps) l h =
    let t = then_ok (param 1 (natural 1 (2 ^ 32 - 1) most)) (λ (m : ℕ). Ok (C.GroupArray (Some m))) l h in
    let some = natural_in 1 (2 ^ 32 - 1) most t.0 (param_ok 1 (natural 1 (2 ^ 32 - 1) most) t.0 t.1) in
    let small : nat_lt t.0 (2 ^ 32) ≡ true = lt-ltb t.0 (2 ^ 32) (omega (arith, some.1)) in
    leaf_at n (C.GroupArray (Some t.0)) l t.2 (rw (some.0, small))
leaf_in reads owes n LeafName.QuantileExact [] l h = leaf_at n (C.QuantileExact (5 * 10 ^ 8)) l h refl
leaf_in reads owes n LeafName.QuantileExact (at ∷ ps) l h =
    let t = then_ok (param 1 (level at)) (λ (m : ℕ). Ok (C.QuantileExact m)) l h in
    leaf_at n (C.QuantileExact t.0) l t.2 (level_in at t.0 (param_ok 1 (level at) t.0 t.1))
leaf_in reads owes n LeafName.WindowFunnel [] l h = cc h
leaf_in reads owes n LeafName.WindowFunnel (window ∷ []) l h =
    let t = then_ok (param 1 (natural 0 (2 ^ 64 - 1) window)) (λ (w : ℕ). Ok (C.WindowFunnel w false)) l h in
    let some = natural_in 0 (2 ^ 64 - 1) window t.0 (param_ok 1 (natural 0 (2 ^ 64 - 1) window) t.0 t.1) in
    leaf_at n (C.WindowFunnel t.0 false) l t.2 (lt-ltb t.0 (2 ^ 64) (omega (arith, some.1)))
leaf_in reads owes n LeafName.WindowFunnel (window ∷ strict ∷ ps) l h =
    let t = then_ok (param 1 (natural 0 (2 ^ 64 - 1) window)) (λ (w : ℕ). and_then (param 2 (mode strict)) (λ (_ : Unit {0}). Ok (C.WindowFunnel w true))) l h in
    let u = then_ok (param 2 (mode strict)) (λ (_ : Unit {0}). Ok (C.WindowFunnel t.0 true)) l t.2 in
    let some = natural_in 0 (2 ^ 64 - 1) window t.0 (param_ok 1 (natural 0 (2 ^ 64 - 1) window) t.0 t.1) in
    leaf_at n (C.WindowFunnel t.0 true) l u.2 (lt-ltb t.0 (2 ^ 64) (omega (arith, some.1)))
leaf_in reads owes n LeafName.SequenceMatch [] l h = cc h
leaf_in reads owes n LeafName.SequenceMatch (pattern ∷ ps) l h =
    let t = then_ok (param 1 (text pattern)) (λ (bytes : List ℕ). pattern_leaf (reads bytes n)) l h in
    pattern_in n (reads t.0 n) l (owes t.0 n) t.2

range_step : (s : Suffix) (n o : ℕ) (r : Result Chain Fault) (c : Chain) (deeper : (d : Chain) → r ≡ Ok d → in_range n o d ≡ true)
    (flat : (d : Chain) → in_range n o (under s d) ≡ in_range n o d) → and_then r (λ (d : Chain). Ok (under s d)) ≡ Ok c → in_range n o c ≡ true
range_step s n o r c deeper flat h =
    let t = then_ok r (λ (d : Chain). Ok (under s d)) c h in
    let e : under s t.0 ≡ c = ok_is (under s t.0) c t.2 in
    ap (in_range n o) (sym e) ∙ flat t.0 ∙ deeper t.0 t.1

-- the chain that is read has its parameters in range
pub read-in_range : (reads : PatternReader) → GivesPatterns reads → (n : ℕ) (f : LeafName) (ss : List Suffix) (o : ℕ) (ps : List Literal) (c : Chain) →
    read_chain reads n f o ss ps ≡ Ok c → in_range n o c ≡ true
read-in_range reads owes n f [] o ps c h =
    let t = then_ok (read_leaf reads n f ps) (λ (l : Leaf). Ok (C.Of l)) c h in
    let e : C.Of t.0 ≡ c = ok_is (C.Of t.0) c t.2 in
    ap (in_range n o) (sym e) ∙ leaf_in reads owes n f ps t.0 t.1
read-in_range reads owes n f (Suffix.Resample ∷ inner) o ps c h =
    let m : ℕ = length ps - 3 in
    let t = then_ok (read_range o m (drop m ps)) (λ (cut : Range).
    and_then (read_chain reads n f (o * interval_count cut) inner (take m ps)) (λ (d : Chain). Ok (C.Resample cut.start cut.end cut.step d))) c h in
    let u = then_ok (read_chain reads n f (o * interval_count t.0) inner (take m ps)) (λ (d : Chain). Ok (C.Resample t.0.start t.0.end t.0.step d)) c t.2 in
    let e : C.Resample t.0.start t.0.end t.0.step u.0 ≡ c = ok_is (C.Resample t.0.start t.0.end t.0.step u.0) c u.2 in
    let cut : is_range o t.0.start t.0.end t.0.step ≡ true = range_in o m (drop m ps) t.0 t.1 in
    let deep : in_range n (o * interval_count t.0) u.0 ≡ true = read-in_range reads owes n f inner (o * interval_count t.0) (take m ps) u.0 u.1 in
    ap (in_range n o) (sym e) ∙ all_true (is_range o t.0.start t.0.end t.0.step) (in_range n (o * interval_count t.0) u.0) cut deep
read-in_range reads owes n f (Suffix.If ∷ inner) o ps c h = range_step Suffix.If n o (read_chain reads n f o inner ps) c (read-in_range reads owes n f inner o ps) (λ d. refl) h
read-in_range reads owes n f (Suffix.Array ∷ inner) o ps c h = range_step Suffix.Array n o (read_chain reads n f o inner ps) c (read-in_range reads owes n f inner o ps) (λ d. refl) h
read-in_range reads owes n f (Suffix.MapOf ∷ inner) o ps c h = range_step Suffix.MapOf n o (read_chain reads n f o inner ps) c (read-in_range reads owes n f inner o ps) (λ d. refl) h
read-in_range reads owes n f (Suffix.ForEach ∷ inner) o ps c h = range_step Suffix.ForEach n o (read_chain reads n f o inner ps) c (read-in_range reads owes n f inner o ps) (λ d. refl) h
read-in_range reads owes n f (Suffix.OrNull ∷ inner) o ps c h = range_step Suffix.OrNull n o (read_chain reads n f o inner ps) c (read-in_range reads owes n f inner o ps) (λ d. refl) h
read-in_range reads owes n f (Suffix.OrDefault ∷ inner) o ps c h = range_step Suffix.OrDefault n o (read_chain reads n f o inner ps) c (read-in_range reads owes n f inner o ps) (λ d. refl) h
read-in_range reads owes n f (Suffix.Distinct ∷ inner) o ps c h = range_step Suffix.Distinct n o (read_chain reads n f o inner ps) c (read-in_range reads owes n f inner o ps) (λ d. refl) h
read-in_range reads owes n f (Suffix.State ∷ inner) o ps c h = range_step Suffix.State n o (read_chain reads n f o inner ps) c (read-in_range reads owes n f inner o ps) (λ d. refl) h
read-in_range reads owes n f (Suffix.Merge ∷ inner) o ps c h = range_step Suffix.Merge n o (read_chain reads n f o inner ps) c (read-in_range reads owes n f inner o ps) (λ d. refl) h

-- A call that breaks no rule has a legal chain.
pub allowed_is_legal : (reads : PatternReader) → GivesPatterns reads → (shape : Shape) (params : List Literal) (args : List Ty) (c : Chain) →
    allowed_shape reads shape params args ≡ Ok c → is_legal c args ≡ true
allowed_is_legal reads owes shape params args c h =
    let outer : List Suffix = reverse shape.suffixes in
    let n : ℕ = pattern_conditions (arguments_reaching outer (length args)) in
    let nums : List Arg = numbered 1 args in
    let last : Chain → Result Chain Fault = λ d. and_then (no_breach (wrong_state d nums)) (λ (_ : Unit {0}). Ok d) in
    let types : Chain → Result Chain Fault = λ d. and_then (no_breach (arg_types d nums)) (λ (_ : Unit {0}). last d) in
    let counts : Chain → Result Chain Fault = λ d. and_then (no_breach (arg_count d (length args))) (λ (_ : Unit {0}). types d) in
    let params_of : Result Chain Fault = and_then (read_chain reads n shape.leaf 1 outer params) counts in
    let number : Result Chain Fault = and_then (check (takes_param_count shape.leaf outer (length params)) ParamCount) (λ (_ : Unit {0}). params_of) in
    let order : Result Chain Fault = and_then (check (not (has_array_outside_if outer)) ArrayOutsideIf) (λ (_ : Unit {0}). number) in
    let a = then_ok (check (nat_le (length outer) 8) TooManySuffixes) (λ (_ : Unit {0}). order) c h in
    let b = then_ok (check (not (has_array_outside_if outer)) ArrayOutsideIf) (λ (_ : Unit {0}). number) c a.2 in
    let d = then_ok (check (takes_param_count shape.leaf outer (length params)) ParamCount) (λ (_ : Unit {0}). params_of) c b.2 in
    let e = then_ok (read_chain reads n shape.leaf 1 outer params) counts c d.2 in
    let f = then_ok (no_breach (arg_count e.0 (length args))) (λ (_ : Unit {0}). types e.0) c e.2 in
    let g = then_ok (no_breach (arg_types e.0 nums)) (λ (_ : Unit {0}). last e.0) c f.2 in
    let i = then_ok (no_breach (wrong_state e.0 nums)) (λ (_ : Unit {0}). Ok e.0) c g.2 in
    let same : e.0 ≡ c = ok_is e.0 c i.2 in
    let ss : suffixes_of e.0 ≡ outer = read-suffixes_of reads n shape.leaf outer 1 params e.0 e.1 in
    let few : nat_le (length outer) 8 ≡ true = check_ok (nat_le (length outer) 8) TooManySuffixes a.0 a.1 in
    let fine : not (has_array_outside_if outer) ≡ true = check_ok (not (has_array_outside_if outer)) ArrayOutsideIf b.0 b.1 in
    let range : in_range n 1 e.0 ≡ true = read-in_range reads owes n shape.leaf outer 1 params e.0 e.1 in
    let formed : is_formed e.0 (length args) ≡ true =
    subst (λ (zs : List Suffix). (nat_le (length zs) 8 && (not (has_array_outside_if zs) && in_range (pattern_conditions (arguments_reaching zs (length args))) 1 e.0)) ≡ true) (sym ss)
    (all_true (nat_le (length outer) 8) (not (has_array_outside_if outer) && in_range n 1 e.0) few (all_true (not (has_array_outside_if outer)) (in_range n 1 e.0) fine range)) in
    let p : is_none (arg_count e.0 (length args)) ≡ true = breach_ok (arg_count e.0 (length args)) f.0 f.1 in
    let q : is_none (arg_types e.0 nums) ≡ true = breach_ok (arg_types e.0 nums) g.0 g.1 in
    let r : is_none (wrong_state e.0 nums) ≡ true = breach_ok (wrong_state e.0 nums) i.0 i.1 in
    let typed : is_typed e.0 args ≡ true =
    all_true (is_none (arg_count e.0 (length args))) (is_none (arg_types e.0 nums) && is_none (wrong_state e.0 nums)) p
    (all_true (is_none (arg_types e.0 nums)) (is_none (wrong_state e.0 nums)) q r) in
    subst (λ (z : Chain). is_legal z args ≡ true) same (all_true (is_formed e.0 (length args)) (is_typed e.0 args) formed typed)

-- all nine rules
pub call_is_legal : (reads : PatternReader) → GivesPatterns reads → (name : List ℕ) (params : List Literal) (args : List Ty) (c : Chain) →
    allowed reads name params args ≡ Ok c → is_legal c args ≡ true
call_is_legal reads owes name params args c h =
    let t = then_ok (known_name (read_name name)) (λ (shape : Shape). allowed_shape reads shape params args) c h in
    allowed_is_legal reads owes t.0 params args c t.2

-- the type that the text of a state type names
pub state_is_legal : (reads : PatternReader) → GivesPatterns reads → (name : List ℕ) (params : List Literal) (args : List Ty) (t : Ty) →
    are_legal_types args ≡ true → resolved_state reads name params args ≡ Ok t → is_legal_type t ≡ true
state_is_legal reads owes name params args t l h =
    let next : Chain → Result Ty Fault = λ c. and_then (check (not (is_state_or_merge c)) (WrongState 0)) (λ (_ : Unit {0}). Ok (C.StateOf c (tys args))) in
    let a = then_ok (allowed reads name params args) next t h in
    let b = then_ok (check (not (is_state_or_merge a.0)) (WrongState 0)) (λ (_ : Unit {0}). Ok (C.StateOf a.0 (tys args))) t a.2 in
    let outer : not (is_state_or_merge a.0) ≡ true = check_ok (not (is_state_or_merge a.0)) (WrongState 0) b.0 b.1 in
    let same : C.StateOf a.0 (tys args) ≡ t = ok_is (C.StateOf a.0 (tys args)) t b.2 in
    subst (λ (z : Ty). is_legal_type z ≡ true) same (state_of_legal a.0 args outer (call_is_legal reads owes name params args a.0 a.1, l))
