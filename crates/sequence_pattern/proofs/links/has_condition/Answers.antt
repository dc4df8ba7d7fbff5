use Rattle.std.proofs.Common.{pow_mono, ◌-◌, ◌%◌, ◌^◌, ◌<◌, ◌≤◌, nat_eq, ap, sym, ◌∙◌, arith}
use Rattle.std.proofs.lemmas.Bool.{lt-leb}
use Rattle.std.proofs.Math.Nat.{div-eq_of_lt}
use Rattle.sequence_pattern.proofs.links.has_condition.Goals as goal

pub returns-else-condition-le-MOST_CONDITIONS : goal.returns-else-condition-le-MOST_CONDITIONS
returns-else-condition-le-MOST_CONDITIONS c =
    let past : 32 ≤ c.args.condition - 1 = omega arith in
    let larger : 2 ^ 32 ≤ 2 ^ (c.args.condition - 1) = pow_mono past in
    let small : c.args.mask < 2 ^ (c.args.condition - 1) = omega arith in
    lt-leb c.args.condition 32 (omega arith) ∙ sym (ap (λ k. nat_eq (k % 2) 1) (div-eq_of_lt small))
