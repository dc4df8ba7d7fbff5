use Rattle.std.proofs.Common.{ℕ, ◌*◌, ◌≤◌, ◌^◌, ◌<◌, arith, rules}
use Rattle.chain_params.proofs.Powers.{scaled}
use Rattle.chain_params.proofs.literals.level.Goals as goal

pub overflow_cast-result : goal.overflow_cast-result
overflow_cast-result c =
    let small = scaled c.in-Decimal.units c.in-Decimal.places c.power_of_ten.result c.power_of_ten-then-units-power_of_ten.result c.if-places-le9.true c.power_of_ten.ensures
    c.if-units-power_of_ten.true c.power_of_ten-then-units-power_of_ten.ensures in
    record { fits = omega (arith, small) }
