-- A merge of the intervals of -Resample.
use Rattle.std.proofs.Common.{◌≡◌, ℕ, ℤ, List, length, sym, subst, Result, Vec, Global}
use Rattle.std.specs.Result.{OnOk}
use Rattle.agg_terms.specs.Chains.{Chain, Resample, Ty}
use Rattle.running_states.specs.declared.running.Running.{Running}
use Rattle.running_states.specs.declared.running.Running.TheVariants.{Slots}
use Rattle.running_states.specs.Shapes.{IsState}
use Rattle.running_states.specs.Words.{JoinsAll}
use Rattle.running_states.proofs.Outcomes.{on_ok}
use Rattle.chain_links.specs.proving.Words.{JoinsPlaces}
use Rattle.chain_links.proofs.Parts.{parts_are, parts_join}

module _ (start end : ℤ) (step : ℕ) (c : Chain) (us : List Ty) where
  abbrev R : Chain
  R = Resample start end step c

  pub parts_joined : {A E : Type 0} (x : Result A E) (s u v : Running) (p q w : Vec Running Global) → s ≡ Slots p → u ≡ Slots q → v ≡ Slots w → IsState R us s → IsState R us u → OnOk x (JoinsPlaces c us p.items q.items (length q.items) w.items) → OnOk x (JoinsAll R us s u v)
  parts_joined x s u v p q w e g i k l h = on_ok x (λ a.
      subst (λ z. JoinsAll R us z u v) (sym e) (subst (λ z. JoinsAll R us (Slots p) z v) (sym g) (subst (JoinsAll R us (Slots p) (Slots q)) (sym i)
      (parts_join start end step c us p q w (parts_are start end step c us s p e k).0 (parts_are start end step c us u q g l).0 a)))) h
