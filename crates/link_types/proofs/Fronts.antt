-- All but the last of a list, the types of a state, and a chain by its outermost link.
use Rattle.std.proofs.Common.{◌≡◌, ap, sym, ◌∙◌, ℕ, zero, suc, ◌-◌, List, [], ◌∷◌, length, take, map, arith}
use Rattle.agg_terms.specs.Chains.{State}
use Rattle.agg_terms.specs.Lists.{front}
use Rattle.value_types.specs.declared.chain.Chain.{Chain as Coded}
use Rattle.value_types.specs.declared.chain.Chain.TheVariants as chain
use Rattle.value_types.specs.Folds.{chain_of}
use Rattle.value_types.proofs.FoldLaws.{chain_of-State}
use Rattle.agg_values.proofs.Images.{state_args_at}

pub front-take : {X Y : Type 0} (f : X → Y) (xs : List X) (n : ℕ) → n ≡ length xs - 1 → map f (take n xs) ≡ front (map f xs)
front-take f [] n h = let z : n ≡ 0 = omega arith in rw z
front-take f (x ∷ []) n h = let z : n ≡ 0 = omega arith in rw z
front-take f (x ∷ y ∷ ys) zero h = absurd (omega arith)
front-take f (x ∷ y ∷ ys) (suc n) h =
    let k : n ≡ length (y ∷ ys) - 1 = omega arith in ap (λ z. f x ∷ z) (front-take f (y ∷ ys) n k)

pub ruleset front_laws = (front-take)

pub ruleset state_laws = (state_args_at)

pub is_state : (ch o p : Coded) → p ≡ o → ch ≡ chain.State o → chain_of ch ≡ State (chain_of p)
is_state ch o p f e = ap chain_of e ∙ chain_of-State o ∙ ap (λ z. State (chain_of z)) (sym f)
