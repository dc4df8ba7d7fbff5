-- Bytes are below 2^8.
use Rattle.std.proofs.Common.{◌≡◌, ℕ, suc, ◌<◌, ◌^◌, true, List, [], ◌∷◌, slice_index, nat_lt, refl, arith}
use Rattle.std.specs.List.{list_all}
use Rattle.std.proofs.lemmas.Bool.Decides.{nat_tests}

pub all_bytes : (bs : List ℕ) → ((i : ℕ) → slice_index bs i < 2 ^ 8) → list_all (λ b. nat_lt b (2 ^ 8)) bs ≡ true
all_bytes [] h = refl
all_bytes (b ∷ bs) h =
    let small : nat_lt b (2 ^ 8) ≡ true = grind (arith, nat_tests, h 0) in
    rw small (all_bytes bs (λ i. h (suc i)))
