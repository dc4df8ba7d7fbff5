use Rattle.std.proofs.Common.{◌≡◌, reverse, take}
use Rattle.std.specs.List.{list_any}
use Rattle.agg_typing.specs.Suffixes.{has_array_outside_if, is_if}
use Rattle.chain_params.proofs.suffixes.has_array_outside_if.Given as goal

abbrev pub invariant-loop-suffix : goal.invariant-loop-suffix
invariant-loop-suffix l = record {
  found : l.outside ≡ has_array_outside_if (reverse (take l.suffix-index l.suffixes));
  met : l.over_if ≡ list_any is_if (reverse (take l.suffix-index l.suffixes));
}
