use Rattle.std.proofs.Common.{drop}
use Rattle.key_methods.specs.Kinds.{AreKeyTypes}
use Rattle.key_methods_tests.proofs.checks.are_key_types.Given as goal

-- the types that are left decide
abbrev pub invariant-loop-ty : goal.invariant-loop-ty
invariant-loop-ty l = AreKeyTypes (drop l.ty-index l.types) → AreKeyTypes l.types
