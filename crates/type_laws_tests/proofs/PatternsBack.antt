-- An answer that gives a pattern is that pattern, or there was no room.
use Rattle.std.proofs.Common.{◌≡◌, List, ℕ, Result, Ok, Err, IfOk, IfErr, refl, subst, sym}
use Rattle.agg_terms.specs.Chains.{Pattern}
use Rattle.pattern_texts.specs.Answer.{Gives}
use Rattle.pattern_texts.specs.Texts.{Spells}
use Rattle.pattern_texts.specs.declared.fault.PatternFault.{PatternFault}
use Rattle.pattern_texts.specs.declared.fault.PatternFault.TheVariants.{At, OutOfMemory}
use Rattle.value_types.specs.Folds.{pattern_of}
use Rattle.value_types.specs.declared.pattern.Pattern.{Pattern as Code}

pub record IsBack (p : Pattern) (r : Result Code PatternFault) : Type 0 where
  pub same : IfOk r (λ back. pattern_of back ≡ p)
  pub memory : IfErr r (λ why. why ≡ OutOfMemory)

ok_is : (a b : Pattern) → (let r : Result Pattern ℕ = Ok a in r) ≡ Ok b → b ≡ a
ok_is a b e = cc

given : (p : Pattern) (r : Result Code PatternFault) → Gives r (Ok p) → IsBack p r
given p (Ok back) g = record { same = ok_is p (pattern_of back) g; memory = tt }
given p (Err (At at)) g = absurd cc
given p (Err OutOfMemory) g = record { same = tt; memory = refl }

-- what a text spells is what was printed
pub read_back : (n : ℕ) (p : Pattern) (text printed : List ℕ) (r : Result Code PatternFault) → text ≡ printed → Spells n printed p → ((q : Pattern) → Spells n text q → Gives r (Ok q)) → IsBack p r
read_back n p text printed r same spelled reads = given p r (reads p (subst (λ t. Spells n t p) (sym same) spelled))
