-- Tests on the numbers below another.
use Rattle.std.proofs.Common.{◌≡◌, ℕ, zero, suc, ◌<◌, Bool, true, false, ◌&&◌, ◌||◌, refl, ap, ap₂, ◌∙◌, arith}
use Rattle.sequence_pattern.specs.proving.Hits.{any_below}

pub any_below-same : (n : ℕ) (f g : ℕ → Bool) → ((q : ℕ) → q < n → f q ≡ g q) → any_below n f ≡ any_below n g
any_below-same zero f g h = refl
any_below-same (suc n) f g h = ap₂ ◌||◌ (h n (omega arith)) (any_below-same n f g (λ q l. h q (omega arith)))

or_swap : (a b c d : Bool) → (a || b) || (c || d) ≡ (a || c) || (b || d)
or_swap true b c d = refl
or_swap false true true d = refl
or_swap false true false d = refl
or_swap false false c d = refl

pub any_below-or : (n : ℕ) (f g : ℕ → Bool) → any_below n (λ q. f q || g q) ≡ any_below n f || any_below n g
any_below-or zero f g = refl
any_below-or (suc n) f g =
    ap (λ b. (f n || g n) || b) (any_below-or n f g) ∙ or_swap (f n) (g n) (any_below n f) (any_below n g)

and_or : (a b c : Bool) → (a && c) || (b && c) ≡ (a || b) && c
and_or true true true = refl
and_or true true false = refl
and_or true false true = refl
and_or true false false = refl
and_or false b c = refl

pub any_below-and : (n : ℕ) (f : ℕ → Bool) (c : Bool) → any_below n (λ q. f q && c) ≡ any_below n f && c
any_below-and zero f c = refl
any_below-and (suc n) f c =
    ap (λ b. (f n && c) || b) (any_below-and n f c) ∙ and_or (f n) (any_below n f) c

pub any_below-none : (n : ℕ) (f : ℕ → Bool) → ((q : ℕ) → q < n → f q ≡ false) → any_below n f ≡ false
any_below-none zero f h = refl
any_below-none (suc n) f h = ap₂ ◌||◌ (h n (omega arith)) (any_below-none n f (λ q l. h q (omega arith)))
