-- A piece that is written part by part.
use Rattle.std.proofs.Common.{◌≡◌, ℕ, ◌+◌, ◌-◌, ◌≤◌, arith, List, ◌++◌, Option, None, Some, length, take, drop, subst, sym, ap, ◌∙◌}
use Rattle.std.proofs.Math.Seq.{take-add}
use Rattle.std.proofs.lemmas.List.{take_all, take_rest}
use Rattle.std.proofs.KnownBytes.{Appends-trans}
use Rattle.std.specs.Io.KnownBytes.{Appends, Keeps}

-- the first i bytes of a piece, and then the next n
pub Appends-part : (a b c : Option (List ℕ)) (piece : List ℕ) (i n : ℕ) → Appends a b (take i piece)
    → Appends b c (take n (take (length piece - i) (drop i piece))) → Appends a c (take (i + n) piece)
Appends-part a b c piece i n front part =
    let joined = take-add i n piece ∙ ap (λ l. take i piece ++ take n l) (sym (take_rest piece i)) in
    subst (Appends a c) (sym joined) (Appends-trans a b c _ _ front part)

Appends-kept : (a b c : Option (List ℕ)) (bs : List ℕ) → Appends a b bs → Keeps b c → Appends a c bs
Appends-kept None b c bs p q = tt
Appends-kept (Some x) None c bs p q = absurd p
Appends-kept (Some x) (Some y) None bs p q = absurd q
Appends-kept (Some x) (Some y) (Some z) bs p q = q ∙ p

-- the whole piece, where i bytes of it are no fewer, and the writer keeps what it holds
pub all-appended : (a b c : Option (List ℕ)) (piece : List ℕ) (i : ℕ) → length piece ≤ i → Appends a b (take i piece) → Keeps b c
    → Appends a c (take (length piece) piece)
all-appended a b c piece i all p q =
    let same : take i piece ≡ take (length piece) piece = take_all i piece all ∙ sym (take_all (length piece) piece (omega arith)) in
    subst (Appends a c) same (Appends-kept a b c (take i piece) p q)
