-- The front of a text up to the first byte that passes a test.
use Rattle.std.proofs.Common.{◌≡◌, ℕ, zero, suc, ◌+◌, ◌<◌, ◌≤◌, Bool, true, false, not, List, [], ◌∷◌, ◌++◌, None, Some, length, take, drop, get_or, cond, nat_lt, refl, subst, ◌∙◌, ap, arith, drop-cons}
use Rattle.std.specs.List.{position, position_or_len}
use Rattle.std.proofs.lemmas.Option.{cond_some}
use Rattle.std.proofs.lemmas.Bool.{ltb-true, ltb-false}
use Rattle.std.proofs.lemmas.List.Sums.{passes_at_first, split_at_first}

-- no byte passes
abbrev pub Fails : (ℕ → Bool) → List ℕ → Type 0
Fails p [] = Unit {0}
Fails p (x ∷ xs) = (p x ≡ false) × Fails p xs

fails_front : (p : ℕ → Bool) (xs : List ℕ) (k : ℕ) → k ≤ position_or_len p xs → Fails p (take k xs)
fails_front p xs zero h = tt
fails_front p [] (suc k) h = tt
fails_front p (x ∷ xs) (suc k) h =
    elim (p x) as (λ b. suc k ≤ cond (not b) (1 + position_or_len p xs) 0 → (b ≡ false) × Fails p (take k xs)) [
      | true ↦ λ h. absurd (omega (arith, h))
      | false ↦ λ h. (refl, fails_front p xs k (omega (arith, h)))
    ] h

fails_all : (p : ℕ → Bool) (xs : List ℕ) → length xs ≤ position_or_len p xs → Fails p xs
fails_all p [] h = tt
fails_all p (x ∷ xs) h =
    elim (p x) as (λ b. suc (length xs) ≤ cond (not b) (1 + position_or_len p xs) 0 → (b ≡ false) × Fails p xs) [
      | true ↦ λ h. absurd (omega (arith, h))
      | false ↦ λ h. (refl, fails_all p xs (omega (arith, h)))
    ] h

-- where the first one is
found-first : (p : ℕ → Bool) (xs : List ℕ) (at : ℕ) → position p xs ≡ Some at → (position_or_len p xs < length xs) × (position_or_len p xs ≡ at)
found-first p xs at found = let some = cond_some (nat_lt (position_or_len p xs) (length xs)) (position_or_len p xs) at found in (ltb-true _ _ some.0, some.1)

-- a text cut before its first such byte
pub record IsFirst (p : ℕ → Bool) (xs : List ℕ) (at : ℕ) : Type 0 where
  pub within : at < length xs
  pub fails : Fails p (take at xs)
  pub passes : p (get_or xs at 0) ≡ true
  pub behind : drop at xs ≡ get_or xs at 0 ∷ drop (suc at) xs
  pub whole : xs ≡ take at xs ++ (get_or xs at 0 ∷ drop (suc at) xs)

pub first_found : (p : ℕ → Bool) (xs : List ℕ) (at : ℕ) → position p xs ≡ Some at → IsFirst p xs at
first_found p xs at found =
    let f = found-first p xs at found in
    let next : position_or_len p xs + 1 ≡ suc (position_or_len p xs) = omega arith in
    subst (λ i. IsFirst p xs i) f.1 (record {
      within = f.0;
      fails = fails_front p xs (position_or_len p xs) (omega arith);
      passes = passes_at_first p xs 0 f.0;
      behind = drop-cons xs (position_or_len p xs) 0 f.0;
      whole = split_at_first p xs 0 f.0 ∙ ap (λ i. take (position_or_len p xs) xs ++ (get_or xs (position_or_len p xs) 0 ∷ drop i xs)) next;
    })

none_found : (b : Bool) (x : ℕ) → cond b (Some x) None ≡ None → b ≡ false
none_found true x e = cc
none_found false x e = refl

nowhere : (p : ℕ → Bool) (xs : List ℕ) → position p xs ≡ None → length xs ≤ position_or_len p xs
nowhere p xs found = ltb-false _ _ (none_found (nat_lt (position_or_len p xs) (length xs)) (position_or_len p xs) found)

pub all_fail : (p : ℕ → Bool) (xs : List ℕ) → position p xs ≡ None → Fails p xs
all_fail p xs found = fails_all p xs (nowhere p xs found)
