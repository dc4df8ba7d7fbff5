use Rattle.std.proofs.Common.{map}
use Rattle.value_types.specs.Folds.{value_of}
use Rattle.key_methods.proofs.Undone.{ok_as}
use Rattle.group_keys.proofs.key_set.KeySet.place_tuple.Goals as goal

pub returns : goal.returns
returns c =
    ok_as c.place_key.result _ _
    (λ place is. is.each c.args.types.now (map value_of c.args.values.now) c.requires.types
    (record { tuple = record { fits = c.requires.values; short = c.in_ok-key.ensures.short }; key_is = c.in_ok-key.ensures.key }))
    c.place_key.ensures
