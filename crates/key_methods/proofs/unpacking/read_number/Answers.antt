use Rattle.std.proofs.Common.{◌≤◌, length, arith}
use Rattle.std.proofs.Math.Nat.{pow-le-pow_right}
use Rattle.value_types.specs.Folds.{ty_of}
use Rattle.key_methods.specs.Kinds.{width_of}
use Rattle.key_methods.proofs.unpacking.read_number.Goals as goal

pub number_of-requires : goal.number_of-requires
number_of-requires c =
    let width = width_of (ty_of c.args.ty.now) in
    let short : length c.split_at.result.0.now ≤ width = omega (arith, c.split_at.ensures.front_len, c.min.ensures, c.number_width.ensures.value) in
    let most = pow-le-pow_right {n = 256} (omega arith) {i = length c.split_at.result.0.now} {j = width} short in
    omega (arith, most, c.worth.ensures.below)
