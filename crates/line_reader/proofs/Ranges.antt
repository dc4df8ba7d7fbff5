-- A run of bytes within others.
use Rattle.std.proofs.Common.{◌≡◌, ℕ, ◌+◌, ◌-◌, ◌≤◌, List, ◌++◌, Option, length, take, drop, sym, ap, ◌∙◌, arith, length-drop}
use Rattle.std.specs.List.{slice_range}
use Rattle.std.proofs.lemmas.List.{drop-drop, take-take, length-take-le}
use Rattle.std.proofs.lemmas.Slice.{between_is}
use Rattle.std.proofs.Math.Seq.{take-add}
use Rattle.agg_ports.specs.Ports.{Takes}
use Rattle.agg_ports.specs.declared.ports.Taken.TheVariants as taken
use Rattle.line_reader.specs.Taking.{TakesBehind}

-- what stands before the end decides
range-same : (xs ys : List ℕ) (a b : ℕ) → take b ys ≡ take b xs → slice_range ys a b ≡ slice_range xs a b
range-same xs ys a b same = between_is ys a b ∙ ap (drop a) same ∙ sym (between_is xs a b)

-- and n more
range-more : (ys : List ℕ) (a b n : ℕ) → a ≤ b → slice_range ys a (b + n) ≡ slice_range ys a b ++ take n (drop b ys)
range-more ys a b n order =
    let split : b + n - a ≡ (b - a) + n = omega arith in
    let place : a + (b - a) ≡ b = omega arith in
    ap (λ (k : ℕ). take k (drop a ys)) split ∙ take-add (b - a) n (drop a ys)
    ∙ ap (λ (rest : List ℕ). take (b - a) (drop a ys) ++ take n rest) (drop-drop (b - a) a ys ∙ ap (λ (k : ℕ). drop k ys) place)

-- the same run, where what stands before its end is the same
pub run-kept : (xs ys : List ℕ) (a b : ℕ) → take b ys ≡ take b xs → slice_range ys a b ≡ slice_range xs a b
run-kept xs ys a b same = range-same xs ys a b same

-- with n bytes behind it
pub run-longer : (xs ys : List ℕ) (a b n : ℕ) → a ≤ b → take b ys ≡ take b xs → slice_range ys a (b + n) ≡ slice_range xs a b ++ take n (drop b ys)
run-longer xs ys a b n order same = range-more ys a b n order ∙ ap (λ (front : List ℕ). front ++ take n (drop b ys)) (range-same xs ys a b same)

-- without its first k bytes
pub run-behind : (xs : List ℕ) (a b k : ℕ) → slice_range xs (a + k) b ≡ drop k (slice_range xs a b)
run-behind xs a b k = between_is xs (a + k) b ∙ sym (drop-drop k a (take b xs)) ∙ ap (drop k) (sym (between_is xs a b))

-- the first k bytes
pub run-front : (xs : List ℕ) (a b k : ℕ) → k ≤ b - a → slice_range xs a (a + k) ≡ take k (slice_range xs a b)
run-front xs a b k within =
    let width : a + k - a ≡ k = omega arith in
    ap (λ (n : ℕ). take n (drop a xs)) width ∙ sym (take-take k (b - a) (drop a xs) within)

-- a piece that was taken into the room behind the run
pub piece-taken : (left now : Option (List ℕ)) (xs ys : List ℕ) (a b n most : ℕ) → a ≤ b → b + most ≤ length ys → take b ys ≡ take b xs
    → Takes left now (take most (drop b ys)) (taken.Bytes n) → TakesBehind left now most (slice_range xs a b) (slice_range ys a (b + n)) (taken.Bytes n)
piece-taken left now xs ys a b n most order room same takes =
    let room_is : length (take most (drop b ys)) ≡ most = length-take-le most (drop b ys) (omega (arith, length-drop b ys, room)) in
    let few : n ≤ most = omega (arith, takes.1, room_is) in (
      take n (take most (drop b ys)),
      length-take-le n (take most (drop b ys)) takes.1,
      takes.0,
      few,
      run-longer xs ys a b n order same ∙ ap (λ (piece : List ℕ). slice_range xs a b ++ piece) (sym (take-take n most (drop b ys) few)),
      takes.2,
    )

pub ruleset run_laws = (run-kept, run-longer, run-behind, run-front, piece-taken)
