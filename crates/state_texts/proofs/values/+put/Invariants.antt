use Rattle.std.proofs.Common.{◌≡◌, ◌++◌, length, take, map}
use Rattle.std.specs.Prelude.{flat_map}
use Rattle.value_types.specs.Folds.{ty_of, value_of}
use Rattle.state_texts.specs.Figures.{high}
use Rattle.state_texts.specs.Texts.{value_text}
use Rattle.state_texts.specs.proving.Writing.{pair_text, pair_view}
use Rattle.state_texts.proofs.values.+put.Given as goal

abbrev pub invariant-put_values-loop-value : goal.invariant-put_values-loop-value
invariant-put_values-loop-value l = l.out.items ≡ l.fn.out.items ++ (high 8 (length l.values) ++ flat_map (value_text (ty_of l.ty)) (map value_of (take l.value-index l.values)))

abbrev pub invariant-put_pairs-loop-pair : goal.invariant-put_pairs-loop-pair
invariant-put_pairs-loop-pair l = l.out.items ≡ l.fn.out.items ++ (high 8 (length l.pairs) ++ flat_map (pair_text (ty_of l.ty)) (map pair_view (take l.pair-index l.pairs)))
