use Rattle.std.proofs.Common.{◌-◌, map}
use Rattle.agg_terms.specs.Lists.{Each}
use Rattle.value_types.specs.Folds.{ty_of}
use Rattle.key_methods.specs.KeyBytes.{AreShort, values_bytes}
use Rattle.key_columns.specs.Words.{key_tuples}
use Rattle.group_keys.specs.proving.Texts.{same_bytes}
use Rattle.group_keys.proofs.KeyLists.{Placed}
use Rattle.group_keys.proofs.texts.place_written.Given as goal

abbrev pub invariant-loop-row : goal.invariant-loop-row
invariant-loop-row l =
    let rows = key_tuples l.columns l.keys l.from (l.row - l.from) in
    record {
      placed : Placed same_bytes (map (λ k. k.items) l.initial.set.keys) (map (values_bytes (map ty_of l.types)) rows) (map (λ k. k.items) l.set.keys) l.places.items;
      short : Each AreShort rows;
    }
