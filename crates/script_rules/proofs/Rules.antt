-- What a rule that was met says.
use Rattle.std.proofs.Common.{◌≡◌, refl, Bool, true, false, Result, Ok}
use Rattle.refusals.specs.declared.why.Why.{Why}
use Rattle.request_rules.specs.Turns.{and_then, check}

pub passed : (b : Bool) (why : Why) (u : Unit {0}) → check b why ≡ Ok u → b ≡ true
passed true why u e = refl
passed false why u e = absurd cc

pub passed_first : {X : Type 0} (b : Bool) (why : Why) (next : Result X Why) (x : X) → and_then (check b why) (λ (_ : Unit {0}). next) ≡ Ok x → b ≡ true
passed_first true why next x e = refl
passed_first false why next x e = absurd cc
