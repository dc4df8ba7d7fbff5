use Rattle.std.proofs.Common.{◌≡◌, ◌≤◌, ◌*◌, reverse, take}
use Rattle.agg_typing.specs.Suffixes as rules
use Rattle.chain_params.proofs.suffixes.resample_params.Given as goal

abbrev pub invariant-loop-suffix : goal.invariant-loop-suffix
invariant-loop-suffix l = record {
  all : l.all ≡ rules.resample_params (reverse (take l.suffix-index l.suffixes));
  few : l.all ≤ 3 * l.suffix-index;
}
