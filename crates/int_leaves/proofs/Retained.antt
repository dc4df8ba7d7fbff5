-- The numbers of retention, one more at a time.
use Rattle.std.proofs.Common.{◌≡◌, ℕ, zero, suc, ◌+◌, ◌/◌, ◌%◌, ◌^◌, ◌<◌, ◌&&◌, nat_eq, Bool, true, false, List, [], ◌∷◌, ◌++◌, map, refl, sym, ap, ap₂, ◌∙◌, arith, pow-suc}
use Rattle.std.proofs.lemmas.List.{map-append}
use native.Mathlib.Nat.{div-div-eq-div-mul, div-one, mul_comm}
use Rattle.agg_terms.specs.Trees.{is_one}
use Rattle.agg_meaning.specs.Events.{bools, flag, is_in, retained}
use Rattle.value_types.specs.Folds.{value_of}
use Rattle.value_types.specs.declared.value.Value.{Value}

one_bit : (n : ℕ) → n < 2 → is_one n ≡ nat_eq n 1
one_bit zero l = refl
one_bit (suc zero) l = refl
one_bit (suc (suc n)) l = absurd (omega arith)

low_bit : (n : ℕ) → is_one (n % 2) ≡ nat_eq (n % 2) 1
low_bit n = one_bit (n % 2) (omega arith)

first_bit : (m : ℕ) → is_one (m % 2) ≡ is_in 0 m
first_bit m = low_bit m ∙ ap (λ n. nat_eq (n % 2) 1) (sym (div-one m))

halves : (m k : ℕ) → m / 2 / 2 ^ k ≡ m / 2 ^ suc k
halves m k = div-div-eq-div-mul m 2 (2 ^ k) ∙ ap (λ n. m / n) (mul_comm 2 (2 ^ k) ∙ sym (pow-suc 2 k))

bools_next : (k m : ℕ) → bools (suc k) m ≡ bools k m ++ is_in k m ∷ []
bools_next zero m = ap (λ b. b ∷ []) (first_bit m)
bools_next (suc k) m =
    ap (◌∷◌ (is_one (m % 2))) (bools_next k (m / 2) ∙ ap (λ n. bools k (m / 2) ++ nat_eq (n % 2) 1 ∷ []) (halves m k))

twice : (b : Bool) → b ≡ b && b
twice true = refl
twice false = refl

retained_next : (k m : ℕ) → retained (bools (suc k) m) ≡ retained (bools k m) ++ flag (is_in 0 m && is_in k m) ∷ []
retained_next zero m = ap (λ b. flag b ∷ []) (first_bit m ∙ twice (is_in 0 m))
retained_next (suc k) m =
    ap retained (bools_next (suc k) m)
    ∙ ap (◌∷◌ (flag (is_one (m % 2)))) (map-append (λ c. flag (is_one (m % 2) && c)) (bools k (m / 2)) (is_in (suc k) m ∷ []))
    ∙ ap (λ b. retained (bools (suc k) m) ++ flag (b && is_in (suc k) m) ∷ []) (first_bit m)

pub with_next : (k m : ℕ) (vs : List Value) (v : Value) → map value_of vs ≡ retained (bools k m) → value_of v ≡ flag (is_in 0 m && is_in k m) →
    map value_of (vs ++ v ∷ []) ≡ retained (bools (k + 1) m)
with_next k m vs v e f =
    let h : suc k ≡ k + 1 = omega arith in
    map-append value_of vs (v ∷ []) ∙ ap₂ (λ l w. l ++ w ∷ []) e f ∙ sym (retained_next k m) ∙ ap (λ n. retained (bools n m)) h
