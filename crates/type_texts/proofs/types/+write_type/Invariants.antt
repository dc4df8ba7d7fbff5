use Rattle.std.proofs.Common.{◌≡◌, ◌++◌, drop}
use Rattle.type_texts.proofs.TypesWritten.{listed}
use Rattle.type_texts.proofs.types.+write_type.Given as goal

abbrev pub invariant-write_types-loop-ty : goal.invariant-write_types-loop-ty
invariant-write_types-loop-ty l = l.text ++ listed (drop l.ty-index l.types) ≡ l.initial.text ++ listed l.types
