use Rattle.std.proofs.Common.{sym}
use Rattle.std.proofs.lemmas.List.{length-map}
use Rattle.value_types.specs.Folds.{ty_of}
use Rattle.int_leaves.proofs.Parts.{made_is}
use Rattle.int_leaves.proofs.made.Made.new.Goals as goal

pub returns-clause-made : goal.returns-clause-made
returns-clause-made c = made_is _ _ _ _ _ _ c.function_of.ensures (sym (length-map c.args.args.now ty_of)) c.numbers_of.ensures c.any_nullable.ensures
