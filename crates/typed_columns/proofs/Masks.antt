-- Laws of masked values.
use Rattle.std.proofs.Common.{◌≡◌, ℕ, suc, zero, ◌<◌, Bool, true, false, List, [], ◌∷◌, ◌++◌, length, get_or, take, refl, ap, arith}
use Rattle.std.specs.Prelude.{Some}
use Rattle.std.specs.List.{slice_get}
use Rattle.value_types.specs.declared.value.Value.{Value}
use Rattle.value_types.specs.declared.value.Value.TheVariants.{Nil}
use Rattle.typed_columns.specs.Masks.{masked}

pub length-masked : (ms : List Bool) (vs : List Value) → length ms ≡ length vs → length (masked ms vs) ≡ length ms
length-masked [] vs h = refl
length-masked (m ∷ ms) [] h = absurd (omega arith)
length-masked (true ∷ ms) (v ∷ vs) h = ap suc (length-masked ms vs (omega arith))
length-masked (false ∷ ms) (v ∷ vs) h = ap suc (length-masked ms vs (omega arith))

pub masked_nil : (ms : List Bool) (vs : List Value) (i : ℕ) (m : Bool) → length ms ≡ length vs → i < length ms → m ≡ get_or ms i m → m ≡ true →
    slice_get (masked ms vs) i ≡ Some Nil
masked_nil [] vs i m h l is on = absurd (omega arith)
masked_nil (n ∷ ms) [] i m h l is on = absurd (omega arith)
masked_nil (true ∷ ms) (v ∷ vs) zero m h l is on = refl
masked_nil (false ∷ ms) (v ∷ vs) zero m h l is on = cc
masked_nil (true ∷ ms) (v ∷ vs) (suc i) m h l is on = masked_nil ms vs i m (omega arith) (omega arith) is on
masked_nil (false ∷ ms) (v ∷ vs) (suc i) m h l is on = masked_nil ms vs i m (omega arith) (omega arith) is on

pub masked_value : (ms : List Bool) (vs : List Value) (i : ℕ) (m : Bool) (v : Value) → i < length ms → m ≡ get_or ms i m → m ≡ false →
    slice_get vs i ≡ Some v → slice_get (masked ms vs) i ≡ Some v
masked_value [] vs i m v l is off at = absurd (omega arith)
masked_value (n ∷ ms) [] zero m v l is off at = at
masked_value (n ∷ ms) [] (suc i) m v l is off at = at
masked_value (true ∷ ms) (w ∷ vs) zero m v l is off at = cc
masked_value (false ∷ ms) (w ∷ vs) zero m v l is off at = at
masked_value (true ∷ ms) (w ∷ vs) (suc i) m v l is off at = masked_value ms vs i m v (omega arith) is off at
masked_value (false ∷ ms) (w ∷ vs) (suc i) m v l is off at = masked_value ms vs i m v (omega arith) is off at

pub masked_take : (n : ℕ) (ms : List Bool) (vs : List Value) → masked (take n ms) (take n vs) ≡ take n (masked ms vs)
masked_take zero ms vs = refl
masked_take (suc n) [] vs = refl
masked_take (suc n) (m ∷ ms) [] = refl
masked_take (suc n) (true ∷ ms) (v ∷ vs) = ap (λ r. Nil ∷ r) (masked_take n ms vs)
masked_take (suc n) (false ∷ ms) (v ∷ vs) = ap (λ r. v ∷ r) (masked_take n ms vs)

pub masked_push_nil : (ms : List Bool) (vs : List Value) (v : Value) → length ms ≡ length vs → masked (ms ++ true ∷ []) (vs ++ v ∷ []) ≡ masked ms vs ++ Nil ∷ []
masked_push_nil [] [] v h = refl
masked_push_nil [] (w ∷ vs) v h = absurd (omega arith)
masked_push_nil (m ∷ ms) [] v h = absurd (omega arith)
masked_push_nil (true ∷ ms) (w ∷ vs) v h = ap (λ r. Nil ∷ r) (masked_push_nil ms vs v (omega arith))
masked_push_nil (false ∷ ms) (w ∷ vs) v h = ap (λ r. w ∷ r) (masked_push_nil ms vs v (omega arith))

pub masked_push : (ms : List Bool) (vs : List Value) (v : Value) → length ms ≡ length vs → masked (ms ++ false ∷ []) (vs ++ v ∷ []) ≡ masked ms vs ++ v ∷ []
masked_push [] [] v h = refl
masked_push [] (w ∷ vs) v h = absurd (omega arith)
masked_push (m ∷ ms) [] v h = absurd (omega arith)
masked_push (true ∷ ms) (w ∷ vs) v h = ap (λ r. Nil ∷ r) (masked_push ms vs v (omega arith))
masked_push (false ∷ ms) (w ∷ vs) v h = ap (λ r. w ∷ r) (masked_push ms vs v (omega arith))

pub masked_append : (ms ns : List Bool) (vs ws : List Value) → length ms ≡ length vs → masked (ms ++ ns) (vs ++ ws) ≡ masked ms vs ++ masked ns ws
masked_append [] ns [] ws h = refl
masked_append [] ns (v ∷ vs) ws h = absurd (omega arith)
masked_append (m ∷ ms) ns [] ws h = absurd (omega arith)
masked_append (true ∷ ms) ns (v ∷ vs) ws h = ap (λ r. Nil ∷ r) (masked_append ms ns vs ws (omega arith))
masked_append (false ∷ ms) ns (v ∷ vs) ws h = ap (λ r. v ∷ r) (masked_append ms ns vs ws (omega arith))

pub ruleset mask_laws = (length-masked, masked_nil, masked_value, masked_take)
