use Rattle.std.proofs.Common.{◌≡◌, ◌<◌, true, length, arith, rules}
use Rattle.std.specs.Char.{is_ascii_digit}
use Rattle.std.specs.List.{list_all}
use Rattle.std.proofs.lemmas.Grind.{common_steps}
use Rattle.scalar_texts.proofs.Digits.{all_digits, are_digits_so, some_digits, digits_parts}
use Rattle.scalar_texts.proofs.numbers.judged_digits.Goals as goal
use Rattle.scalar_texts.proofs.numbers.judged_digits.Goals.{then-is_empty-via-then-is_empty, then-is_empty-via-else-is_empty+then-not-are_digits}

pub returns-then-is_empty : goal.returns-then-is_empty
returns-then-is_empty c d =
    let parts = digits_parts c.args.digits.now d in
    let some : 0 < length c.args.digits.now = parts.0 in
    let all : list_all is_ascii_digit c.args.digits.now ≡ true = all_digits c.args.digits.now parts.1 in
    elim c.then-is_empty.branch [
      | then-is_empty-via-then-is_empty w ↦ absurd (first_of (omega arith, grind (arith, common_steps)))
      | then-is_empty-via-else-is_empty+then-not-are_digits w ↦ absurd (first_of (cc, grind (arith, common_steps)))
    ]

pub returns-in-Some : goal.returns-in-Some
returns-in-Some c =
    let all : list_all is_ascii_digit c.args.digits.now ≡ true = first_of (cc, search rules) in
    let some : 0 < length c.args.digits.now = first_of (omega arith, grind (arith, common_steps)) in
    (some_digits c.args.digits.now some (are_digits_so c.args.digits.now all), c.in-Some.ensures)

pub returns-in-None : goal.returns-in-None
returns-in-None c =
    let all : list_all is_ascii_digit c.args.digits.now ≡ true = first_of (cc, search rules) in
    let some : 0 < length c.args.digits.now = first_of (omega arith, grind (arith, common_steps)) in
    (some_digits c.args.digits.now some (are_digits_so c.args.digits.now all), c.in-None.ensures)
