-- A number as std reads it.
use Rattle.std.proofs.Common.{◌≡◌, ℕ, ◌≤◌, List, [], ◌∷◌, length, take, arith}
use Rattle.std.specs.Int.{w8, w16, w32, w64, from_be_bytes}
use Rattle.state_texts.specs.Figures.{worth}

pub worth_1 : (bs : List ℕ) → 1 ≤ length bs → worth (take 1 bs) ≡ from_be_bytes w8 bs
worth_1 [] l = absurd (omega (arith, l))
worth_1 (a ∷ bs) l = omega arith

pub worth_2 : (bs : List ℕ) → 2 ≤ length bs → worth (take 2 bs) ≡ from_be_bytes w16 bs
worth_2 [] l = absurd (omega (arith, l))
worth_2 (a ∷ []) l = absurd (omega (arith, l))
worth_2 (a ∷ b ∷ bs) l = omega arith

pub worth_4 : (bs : List ℕ) → 4 ≤ length bs → worth (take 4 bs) ≡ from_be_bytes w32 bs
worth_4 [] l = absurd (omega (arith, l))
worth_4 (a ∷ []) l = absurd (omega (arith, l))
worth_4 (a ∷ b ∷ []) l = absurd (omega (arith, l))
worth_4 (a ∷ b ∷ c ∷ []) l = absurd (omega (arith, l))
worth_4 (a ∷ b ∷ c ∷ d ∷ bs) l = omega arith

pub worth_8 : (bs : List ℕ) → 8 ≤ length bs → worth (take 8 bs) ≡ from_be_bytes w64 bs
worth_8 [] l = absurd (omega (arith, l))
worth_8 (a ∷ []) l = absurd (omega (arith, l))
worth_8 (a ∷ b ∷ []) l = absurd (omega (arith, l))
worth_8 (a ∷ b ∷ c ∷ []) l = absurd (omega (arith, l))
worth_8 (a ∷ b ∷ c ∷ d ∷ []) l = absurd (omega (arith, l))
worth_8 (a ∷ b ∷ c ∷ d ∷ e ∷ []) l = absurd (omega (arith, l))
worth_8 (a ∷ b ∷ c ∷ d ∷ e ∷ f ∷ []) l = absurd (omega (arith, l))
worth_8 (a ∷ b ∷ c ∷ d ∷ e ∷ f ∷ g ∷ []) l = absurd (omega (arith, l))
worth_8 (a ∷ b ∷ c ∷ d ∷ e ∷ f ∷ g ∷ h ∷ bs) l = omega arith
