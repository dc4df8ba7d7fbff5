-- What an answer is to the rules.
use Rattle.std.specs.Prelude.{◌≡◌, ℕ, Result, Ok, Err}
use Rattle.chain_params.specs.declared.fault.ChainFault.{ChainFault}
use Rattle.refusals.specs.declared.why.Why.{Why}
use Rattle.request_rules.specs.declared.refusal.Refusal.{Refusal}

-- An answer is what the rules give, seen through an image, and a refusal is the first rule that is broken. Want of memory
-- says nothing.
abbrev pub Says : {X Y : Type 0} → (X → Y) → Result X Refusal → Result Y Why → Type 0
Says image (Ok x) rules = rules ≡ Ok (image x)
Says image (Err (Refusal.Broken why)) rules = rules ≡ Err why
Says image (Err Refusal.OutOfMemory) rules = Unit {0}

-- what a refused chain is at the part of a number
abbrev pub part_refusal : ℕ → ChainFault → Refusal
part_refusal part ChainFault.OutOfMemory = Refusal.OutOfMemory
part_refusal part fault = Refusal.Broken (Why.Chain part fault)
