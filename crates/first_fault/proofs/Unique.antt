-- There is one place of a fault, and no text of the grammar goes on past it.
use Rattle.std.proofs.Common.{◌≡◌, ℕ, suc, ◌+◌, ◌<◌, ◌≤◌, List, ◌++◌, length, take, Result, Ok, Err, arith, ap}
use Rattle.first_fault.specs.FirstFault.{Begins, IsLongestFront, IsReading}

pub one_place : {A V : Type 0} (spells : List A → V → Type 0) (text : List A) (m n : ℕ) → IsReading spells text (Err m) → IsReading spells text (Err n) → m ≡ n
one_place spells text m n a b =
    let up = b.1.longest m a.1.within a.1.begins in
    let down = a.1.longest n b.1.within b.1.begins in
    omega (arith, up, down)

pub ok_or_fault : {A V : Type 0} (spells : List A → V → Type 0) (text : List A) (v : V) (n : ℕ) → IsReading spells text (Ok v) → IsReading spells text (Err n) → ⊥
ok_or_fault spells text v n a b = b.0 v a

-- no text of the grammar begins with the letter at the fault
pub nothing_beyond : {A V : Type 0} (spells : List A → V → Type 0) (text : List A) (n : ℕ) → n < length text → IsReading spells text (Err n) → (rest : List A) (v : V) → spells (take (n + 1) text ++ rest) v → ⊥
nothing_beyond spells text n lt h rest v s =
    let small = h.1.longest (n + 1) (omega (arith, lt)) (rest, v, s) in
    absurd (omega (arith, small))
