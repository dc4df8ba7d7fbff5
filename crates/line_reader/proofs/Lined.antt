-- A line that was waited for is the next one.
use Rattle.std.proofs.Common.{◌≡◌, ℕ, suc, ◌+◌, ◌<◌, false, true, List, [], ◌∷◌, ◌++◌, Option, None, Some, Result, Ok, Err, length, take, drop, get_or, refl, sym, ap, ◌∙◌, arith, subst, append_assoc, length-append, take-append-drop, drop-cons}
use Rattle.std.proofs.lemmas.List.{append-nil, take_all, drop_all, length-take-le}
use Rattle.line_reader.specs.declared.fault.LineFault.{LineFault}
use Rattle.line_reader.specs.declared.fault.LineFault.TheVariants.{Read, TooLong, TooLarge, OutOfMemory}
use Rattle.line_reader.specs.Ahead.{Ahead, IsInput}
use Rattle.line_reader.specs.Answers.{IsHeld, IsNext, ReadsNext}
use Rattle.line_reader.specs.proving.Awaiting.{AwaitsLine, TakesLine}
use Rattle.line_reader.specs.Limits.{next_of, behind_next}
use Rattle.line_reader.proofs.Next.{next-cut, behind-cut, next-unbroken, behind-unbroken}
use Rattle.line_reader.proofs.Grown.{long-grows, large-grows}
use Rattle.line_reader.proofs.Handed.{ahead_of, told_of, told-is, told-consumed, told-end}

-- the input from what was taken
abbrev input_of : List ℕ → Option (List ℕ) → List ℕ
input_of after now = after ++ told_of now

from-taken : (left now : Option (List ℕ)) (m r : ℕ) (before after : List ℕ) (answer : Result (Option ℕ) LineFault) → AwaitsLine left now m r before after answer
    → IsInput left (ahead_of m r before) (input_of after now)
from-taken left now m r before after answer awaited = (
  awaited.taken ++ told_of now,
  ap (λ (bytes : List ℕ). bytes ++ told_of now) awaited.behind ∙ append_assoc before awaited.taken (told_of now),
  told-consumed left now awaited.taken awaited.consumed,
)

-- nothing is handed out
pub nothing-next : (left now : Option (List ℕ)) (m r : ℕ) (before after : List ℕ) (answer : Result (Option ℕ) LineFault) → AwaitsLine left now m r before after answer
    → (told : Result (Option (List ℕ)) LineFault) → IsNext (ahead_of m r before) (ahead_of m r after) (input_of after now) (input_of after now) told
    → ReadsNext left now (ahead_of m r before) (ahead_of m r after) told
nothing-next left now m r before after answer awaited told next = record {
  input = input_of after now;
  rest = input_of after now;
  from = from-taken left now m r before after answer awaited;
  to = (told_of now, refl, told-is now);
  next = next;
}

-- what was held and what was taken is held
all-held : (left now : Option (List ℕ)) (m r : ℕ) (before after : List ℕ) (answer : Result (Option ℕ) LineFault) → AwaitsLine left now m r before after answer
    → IsHeld (ahead_of m r before) (ahead_of m r after) (input_of after now) (input_of after now)
all-held left now m r before after answer awaited = record { taken = awaited.taken; behind = awaited.behind; same = refl }

pub fault-next : (left now : Option (List ℕ)) (m r : ℕ) (before after : List ℕ) (fault : LineFault) → AwaitsLine left now m r before after (Err fault)
    → ReadsNext left now (ahead_of m r before) (ahead_of m r after) (Err fault)
fault-next left now m r before after Read awaited =
    nothing-next left now m r before after (Err Read) awaited (Err Read) (all-held left now m r before after (Err Read) awaited, awaited.holds)
fault-next left now m r before after TooLong awaited =
    nothing-next left now m r before after (Err TooLong) awaited (Err TooLong) (all-held left now m r before after (Err TooLong) awaited, long-grows m r after (told_of now) awaited.holds)
fault-next left now m r before after TooLarge awaited =
    nothing-next left now m r before after (Err TooLarge) awaited (Err TooLarge) (all-held left now m r before after (Err TooLarge) awaited, large-grows m r after (told_of now) awaited.holds)
fault-next left now m r before after OutOfMemory awaited =
    nothing-next left now m r before after (Err OutOfMemory) awaited (Err OutOfMemory) (all-held left now m r before after (Err OutOfMemory) awaited)

nil-of : (xs : List ℕ) → length xs ≡ 0 → xs ≡ []
nil-of [] e = refl
nil-of (x ∷ xs) e = absurd (omega arith)

-- the input has ended
pub end-next : (left now : Option (List ℕ)) (m r : ℕ) (before after : List ℕ) → AwaitsLine left now m r before after (Ok None) → after ≡ []
    → ReadsNext left now (ahead_of m r before) (ahead_of m r after) (Ok None)
end-next left now m r before after awaited none =
    let input_is : input_of after now ≡ [] = λ i. none i ++ told-end now awaited.holds.0 i in
    let first : before ≡ [] = nil-of before (omega (arith, ap length (sym awaited.behind ∙ none), length-append before awaited.taken)) in
    nothing-next left now m r before after (Ok None) awaited (Ok None) (input_is, input_is, ap (ahead_of m r) (none ∙ sym first))

-- a line with its newline, and what follows it
line-split : (after : List ℕ) (at : ℕ) → at < length after → after ≡ take at after ++ get_or after at 0 ∷ drop (at + 1) after
line-split after at within =
    let next : suc at ≡ at + 1 = omega arith in
    sym (take-append-drop at after) ∙ ap (λ (bytes : List ℕ). take at after ++ bytes) (drop-cons after at 0 within ∙ ap (λ (k : ℕ). get_or after at 0 ∷ drop k after) next)

pub line-next : (left now : Option (List ℕ)) (m r : ℕ) (before after : List ℕ) (at : ℕ) → AwaitsLine left now m r before after (Ok (Some at))
    → (ahead : Ahead) (answer : Result (Option (List ℕ)) LineFault) → TakesLine at (at + 1) (ahead_of m r after) ahead answer → ReadsNext left now (ahead_of m r before) ahead answer
line-next left now m r before after at awaited ahead (Ok (Some line)) takes =
    let found = awaited.holds in
    let front = take at after in
    let rest = drop (at + 1) after ++ told_of now in
    let input_is : input_of after now ≡ front ++ get_or after at 0 ∷ rest =
    ap (λ (bytes : List ℕ). bytes ++ told_of now) (line-split after at found.0) ∙ append_assoc front (get_or after at 0 ∷ drop (at + 1) after) (told_of now) in
    let next_is : next_of (input_of after now) ≡ front = ap next_of input_is ∙ next-cut front rest (get_or after at 0) found.2 found.3 in
    let wide : length front ≡ at = length-take-le at after (omega (arith, found.0)) in
    let long : length (input_of after now) ≡ at + 1 + length rest = ap length input_is ∙ length-append front (get_or after at 0 ∷ rest) ∙ omega (arith, wide) in
    let few : length (next_of (input_of after now)) ≡ at = ap length next_is ∙ wide in
    rw takes.1 (record {
      input = input_of after now;
      rest = rest;
      from = from-taken left now m r before after (Ok (Some at)) awaited;
      to = (told_of now, refl, told-is now);
      next = (
        omega (arith, long),
        (omega (arith, few, awaited.line, found.0), omega (arith, few, found.1)),
        takes.0 ∙ sym next_is,
        sym (ap behind_next input_is ∙ behind-cut front rest (get_or after at 0) found.2 found.3),
        refl,
        omega (arith, long, found.1),
      );
    })
line-next left now m r before after at awaited ahead (Ok None) takes = absurd takes
line-next left now m r before after at awaited ahead (Err Read) takes = absurd takes
line-next left now m r before after at awaited ahead (Err TooLong) takes = absurd takes
line-next left now m r before after at awaited ahead (Err TooLarge) takes = absurd takes
line-next left now m r before after at awaited ahead (Err OutOfMemory) takes =
    subst (λ (a : Ahead). ReadsNext left now (ahead_of m r before) a (Err OutOfMemory)) (sym takes) (nothing-next left now m r before after (Ok (Some at)) awaited (Err OutOfMemory) (all-held left now m r before after (Ok (Some at)) awaited))

-- the last line lacks its newline
pub last-next : (left now : Option (List ℕ)) (m r : ℕ) (before after : List ℕ) → AwaitsLine left now m r before after (Ok None) → 0 < length after
    → (ahead : Ahead) (answer : Result (Option (List ℕ)) LineFault) → TakesLine (length after) (length after) (ahead_of m r after) ahead answer → ReadsNext left now (ahead_of m r before) ahead answer
last-next left now m r before after awaited some ahead (Ok (Some line)) takes =
    let told = told-end now awaited.holds.0 in
    let unbroken = awaited.holds.1.unbroken in
    let input_is : input_of after now ≡ after = ap (λ (bytes : List ℕ). after ++ bytes) told ∙ append-nil after in
    let rest = drop (length after) after ++ told_of now in
    let rest_is : rest ≡ [] = λ i. drop_all (length after) after (omega arith) i ++ told i in
    let next_is : next_of (input_of after now) ≡ after = ap next_of input_is ∙ next-unbroken after unbroken in
    let long : length (input_of after now) ≡ length after = ap length input_is in
    let none : length rest ≡ 0 = ap length rest_is in
    let few : length (next_of (input_of after now)) ≡ length after = ap length next_is in
    rw takes.1 (record {
      input = input_of after now;
      rest = rest;
      from = from-taken left now m r before after (Ok None) awaited;
      to = (told_of now, refl, told-is now);
      next = (
        omega (arith, long, some),
        (omega (arith, few, awaited.holds.1.line), omega (arith, long, awaited.holds.1.input)),
        takes.0 ∙ take_all (length after) after (omega arith) ∙ sym next_is,
        rest_is ∙ sym (ap behind_next input_is ∙ behind-unbroken after unbroken),
        refl,
        omega (arith, long, none, awaited.holds.1.input),
      );
    })
last-next left now m r before after awaited some ahead (Ok None) takes = absurd takes
last-next left now m r before after awaited some ahead (Err Read) takes = absurd takes
last-next left now m r before after awaited some ahead (Err TooLong) takes = absurd takes
last-next left now m r before after awaited some ahead (Err TooLarge) takes = absurd takes
last-next left now m r before after awaited some ahead (Err OutOfMemory) takes =
    subst (λ (a : Ahead). ReadsNext left now (ahead_of m r before) a (Err OutOfMemory)) (sym takes) (nothing-next left now m r before after (Ok None) awaited (Err OutOfMemory) (all-held left now m r before after (Ok None) awaited))

pub some-of : (xs : List ℕ) → (xs ≡ [] → false ≡ true) → 0 < length xs
some-of [] h = let e : false ≡ true = h refl in cc
some-of (x ∷ xs) h = omega arith
