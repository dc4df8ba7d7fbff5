-- Conditions, one more at a time.
use Rattle.std.proofs.Common.{◌≡◌, ℕ, zero, suc, ◌+◌, false, List, [], ◌∷◌, ◌++◌, get_or, refl, ap, ◌∙◌, add-one}
use Rattle.agg_terms.specs.Values.{Nil, Value}
use Rattle.agg_meaning.specs.Events.{falses, is_met, mets}
use Rattle.agg_meaning.proofs.EventLists.{length-mets}

mets_next : (n : ℕ) (vs : List Value) → mets (suc n) vs ≡ mets n vs ++ is_met (get_or vs n Nil) ∷ []
mets_next zero [] = refl
mets_next zero (v ∷ vs) = refl
mets_next (suc n) [] = ap (λ l. false ∷ l) (mets_next n [])
mets_next (suc n) (v ∷ vs) = ap (λ l. is_met v ∷ l) (mets_next n vs)

pub mets_more : (n : ℕ) (vs : List Value) → mets (n + 1) vs ≡ mets n vs ++ is_met (get_or vs n Nil) ∷ []
mets_more n vs = ap (λ k. mets k vs) (add-one n) ∙ mets_next n vs

falses_next : (n : ℕ) → falses (suc n) ≡ falses n ++ false ∷ []
falses_next zero = refl
falses_next (suc n) = ap (λ l. false ∷ l) (falses_next n)

pub falses_more : (n : ℕ) → falses (n + 1) ≡ falses n ++ false ∷ []
falses_more n = ap falses (add-one n) ∙ falses_next n

pub ruleset mets_length = (length-mets)
