-- The tests of sameness are exact.
use Rattle.std.proofs.Common.{◌≡◌, refl, ap, subst, ℕ, nat_eq, ℤ, int_le, Bool, true, false, ◌&&◌, List, [], ◌∷◌, Option, Some, None, arith}
use Rattle.std.proofs.lemmas.Int.{ints}
use Rattle.std.proofs.lemmas.Bool.{eq-eqb, eqb-true}
use Rattle.agg_terms.specs.Chains.{Above, And, Any, At, AtOrAbove, Below, BelowOrAt, BitOp, Chain, Cond, Gap, Leaf, Next, Op, Or, PatItem, PatLink, Pattern, Time, Xor}
use Rattle.agg_typing.specs.Same.{same_bit, same_bool, same_chain, same_int, same_item, same_leaf, same_link, same_list, same_most, same_op, same_pattern}
use Rattle.agg_terms.specs.Chains as C

pub both : (a b : Bool) → (a && b) ≡ true → (a ≡ true) × (b ≡ true)
both true b h = (refl, h)
both false b h = cc h

list_exact : {X : Type 0} (same : X → X → Bool) (exact : (x y : X) → same x y ≡ true → x ≡ y) (xs ys : List X) → same_list same xs ys ≡ true → xs ≡ ys
list_exact same exact [] [] h = refl
list_exact same exact [] (y ∷ ys) h = cc h
list_exact same exact (x ∷ xs) [] h = cc h
list_exact same exact (x ∷ xs) (y ∷ ys) h =
    let two = both (same x y) (same_list same xs ys) h in
    let one : x ≡ y = exact x y two.0 in
    let more : xs ≡ ys = list_exact same exact xs ys two.1 in
    cc (one, more)

op_exact : (a b : Op) → same_op a b ≡ true → a ≡ b
op_exact Below Below h = refl
op_exact BelowOrAt BelowOrAt h = refl
op_exact At At h = refl
op_exact AtOrAbove AtOrAbove h = refl
op_exact Above Above h = refl
op_exact _ _ h = cc h

item_exact : (a b : PatItem) → same_item a b ≡ true → a ≡ b
item_exact (Cond a) (Cond b) h = ap Cond (eqb-true a b h)
item_exact Any Any h = refl
item_exact _ _ h = cc h

link_exact : (a b : PatLink) → same_link a b ≡ true → a ≡ b
link_exact Next Next h = refl
link_exact Gap Gap h = refl
link_exact (Time o a) (Time p b) h =
    let two = both (same_op o p) (nat_eq a b) h in
    let one : o ≡ p = op_exact o p two.0 in
    let other : a ≡ b = eqb-true a b two.1 in
    cc (one, other)
link_exact _ _ h = cc h

pattern_exact : (a b : Pattern) → same_pattern a b ≡ true → a ≡ b
pattern_exact a b h =
    let two = both (same_list same_item a.items b.items) (same_list same_link a.links b.links) h in
    let one : a.items ≡ b.items = list_exact same_item item_exact a.items b.items two.0 in
    let other : a.links ≡ b.links = list_exact same_link link_exact a.links b.links two.1 in
    λ i. record { items = one i; links = other i }

bit_exact : (a b : BitOp) → same_bit a b ≡ true → a ≡ b
bit_exact And And h = refl
bit_exact Or Or h = refl
bit_exact Xor Xor h = refl
bit_exact _ _ h = cc h

bool_exact : (a b : Bool) → same_bool a b ≡ true → a ≡ b
bool_exact true true h = refl
bool_exact false false h = refl
bool_exact _ _ h = cc h

most_exact : (a b : Option ℕ) → same_most a b ≡ true → a ≡ b
most_exact None None h = refl
most_exact (Some a) (Some b) h = let e : a ≡ b = eqb-true a b h in cc e
most_exact _ _ h = cc h

leaf_exact : (f g : Leaf) → same_leaf f g ≡ true → f ≡ g
leaf_exact C.Count C.Count h = refl
leaf_exact C.Sum C.Sum h = refl
leaf_exact C.Min C.Min h = refl
leaf_exact C.Max C.Max h = refl
leaf_exact C.ArgMin C.ArgMin h = refl
leaf_exact C.ArgMax C.ArgMax h = refl
leaf_exact (C.GroupArray m) (C.GroupArray n) h = ap C.GroupArray (most_exact m n h)
leaf_exact C.UniqExact C.UniqExact h = refl
leaf_exact (C.QuantileExact a) (C.QuantileExact b) h = ap C.QuantileExact (eqb-true a b h)
leaf_exact (C.WindowFunnel a s) (C.WindowFunnel b t) h =
    let two = both (nat_eq a b) (same_bool s t) h in
    let one : a ≡ b = eqb-true a b two.0 in
    let other : s ≡ t = bool_exact s t two.1 in
    cc (one, other)
leaf_exact (C.SequenceMatch a) (C.SequenceMatch b) h = ap C.SequenceMatch (pattern_exact a b h)
leaf_exact C.Retention C.Retention h = refl
leaf_exact (C.GroupBit a) (C.GroupBit b) h = ap C.GroupBit (bit_exact a b h)
leaf_exact _ _ h = cc h

int_exact : (a b : ℤ) → same_int a b ≡ true → a ≡ b
int_exact a b h =
    let two = both (int_le a b) (int_le b a) h in
    omega (arith, ints)

pub chain_exact : (c d : Chain) → same_chain c d ≡ true → c ≡ d
chain_exact (C.Of f) (C.Of g) h = ap C.Of (leaf_exact f g h)
chain_exact (C.If c) (C.If d) h = ap C.If (chain_exact c d h)
chain_exact (C.Array c) (C.Array d) h = ap C.Array (chain_exact c d h)
chain_exact (C.MapOf c) (C.MapOf d) h = ap C.MapOf (chain_exact c d h)
chain_exact (C.ForEach c) (C.ForEach d) h = ap C.ForEach (chain_exact c d h)
chain_exact (C.OrNull c) (C.OrNull d) h = ap C.OrNull (chain_exact c d h)
chain_exact (C.OrDefault c) (C.OrDefault d) h = ap C.OrDefault (chain_exact c d h)
chain_exact (C.Distinct c) (C.Distinct d) h = ap C.Distinct (chain_exact c d h)
chain_exact (C.State c) (C.State d) h = ap C.State (chain_exact c d h)
chain_exact (C.Merge c) (C.Merge d) h = ap C.Merge (chain_exact c d h)
chain_exact (C.Resample s e k c) (C.Resample t f l d) h =
    let a = both (same_int s t) (same_int e f && (nat_eq k l && same_chain c d)) h in
    let b = both (same_int e f) (nat_eq k l && same_chain c d) a.1 in
    let last = both (nat_eq k l) (same_chain c d) b.1 in
    let p : s ≡ t = int_exact s t a.0 in
    let q : e ≡ f = int_exact e f b.0 in
    let r : k ≡ l = eqb-true k l last.0 in
    let u : c ≡ d = chain_exact c d last.1 in
    cc (p, q, r, u)
chain_exact _ _ h = cc h

and_same : {a b : Bool} → a ≡ true → b ≡ true → (a && b) ≡ true
and_same p q = rw p q

list_same : {X : Type 0} (same : X → X → Bool) (itself : (x : X) → same x x ≡ true) (xs : List X) → same_list same xs xs ≡ true
list_same same itself [] = refl
list_same same itself (x ∷ xs) = and_same (itself x) (list_same same itself xs)

op_same : (o : Op) → same_op o o ≡ true
op_same Below = refl
op_same BelowOrAt = refl
op_same At = refl
op_same AtOrAbove = refl
op_same Above = refl

item_same : (i : PatItem) → same_item i i ≡ true
item_same (Cond n) = eq-eqb n n refl
item_same Any = refl

link_same : (l : PatLink) → same_link l l ≡ true
link_same Next = refl
link_same Gap = refl
link_same (Time o n) = and_same (op_same o) (eq-eqb n n refl)

bit_same : (o : BitOp) → same_bit o o ≡ true
bit_same And = refl
bit_same Or = refl
bit_same Xor = refl

bool_same : (b : Bool) → same_bool b b ≡ true
bool_same true = refl
bool_same false = refl

most_same : (m : Option ℕ) → same_most m m ≡ true
most_same None = refl
most_same (Some n) = eq-eqb n n refl

int_same : (z : ℤ) → same_int z z ≡ true
int_same z = grind (arith, ints)

leaf_same : (f : Leaf) → same_leaf f f ≡ true
leaf_same C.Count = refl
leaf_same C.Sum = refl
leaf_same C.Min = refl
leaf_same C.Max = refl
leaf_same C.ArgMin = refl
leaf_same C.ArgMax = refl
leaf_same (C.GroupArray m) = most_same m
leaf_same C.UniqExact = refl
leaf_same (C.QuantileExact n) = eq-eqb n n refl
leaf_same (C.WindowFunnel w s) = and_same (eq-eqb w w refl) (bool_same s)
leaf_same (C.SequenceMatch p) = and_same (list_same same_item item_same p.items) (list_same same_link link_same p.links)
leaf_same C.Retention = refl
leaf_same (C.GroupBit o) = bit_same o

itself_same : (c : Chain) → same_chain c c ≡ true
itself_same (C.Of f) = leaf_same f
itself_same (C.If c) = itself_same c
itself_same (C.Array c) = itself_same c
itself_same (C.MapOf c) = itself_same c
itself_same (C.ForEach c) = itself_same c
itself_same (C.OrNull c) = itself_same c
itself_same (C.OrDefault c) = itself_same c
itself_same (C.Distinct c) = itself_same c
itself_same (C.State c) = itself_same c
itself_same (C.Merge c) = itself_same c
itself_same (C.Resample s e k c) = and_same (int_same s) (and_same (int_same e) (and_same (eq-eqb k k refl) (itself_same c)))

pub chain_same : (c d : Chain) → c ≡ d → same_chain c d ≡ true
chain_same c d e = subst (λ x. same_chain c x ≡ true) e (itself_same c)
