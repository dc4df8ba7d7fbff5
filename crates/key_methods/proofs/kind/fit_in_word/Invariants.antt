use Rattle.std.proofs.Common.{◌≡◌, drop, map}
use Rattle.key_methods.specs.Kinds.{fit_in}
use Rattle.value_types.specs.Folds.{ty_of}
use Rattle.key_methods.proofs.kind.fit_in_word.Given as goal

-- the types that are left decide
abbrev pub invariant-loop-ty : goal.invariant-loop-ty
invariant-loop-ty l = fit_in l.room (map ty_of (drop l.ty-index l.types)) ≡ fit_in 16 (map ty_of l.types)
