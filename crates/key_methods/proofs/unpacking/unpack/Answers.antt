use Rattle.std.proofs.Common.{map}
use Rattle.value_types.specs.Folds.{value_of}
use Rattle.key_methods.proofs.Undone.{formed, ok_as, undone}
use Rattle.key_methods.proofs.unpacking.unpack.Goals as goal

pub unpacked-requires-clause-key : goal.unpacked-requires-clause-key
unpacked-requires-clause-key c = formed c.args.types.now c.requires.packed.0 c.args.key.now c.requires.types c.requires.packed.1

pub returns : goal.returns
returns c = ok_as c.unpacked.result _ _ (λ values read. undone c.args.types.now c.args.key.now c.args.kind (map value_of values) c.requires.types c.requires.kind read) c.unpacked.ensures
