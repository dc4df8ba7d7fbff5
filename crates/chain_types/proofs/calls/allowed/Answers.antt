use Rattle.std.proofs.Common.{map}
use Rattle.agg_typing.specs.Names.{read_name}
use Rattle.chain_params.specs.Literals.{literal_of}
use Rattle.pattern_texts.specs.Machine.{pattern_reader}
use Rattle.type_names.specs.Reads.{HasTooMany}
use Rattle.value_types.specs.Folds.{ty_of}
use Rattle.chain_types.proofs.TooLong.{too_long}
use Rattle.chain_types.proofs.calls.allowed.Goals as goal

pub returns-in-Err-TooManySuffixes : goal.returns-in-Err-TooManySuffixes
returns-in-Err-TooManySuffixes c =
    let long : HasTooMany (read_name c.args.name.now) = rw c.in-Err-TooManySuffixes.field-0-is at c.in-Err-TooManySuffixes.ensures in
    too_long pattern_reader (map literal_of c.args.params.now) (map ty_of c.args.args.now) (read_name c.args.name.now) long
