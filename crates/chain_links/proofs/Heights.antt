-- How deep a state is: the measure of the calls that make its tree.
use Rattle.std.proofs.Common.{◌≡◌, ℕ, zero, suc, ◌<◌, ◌≤◌, max, List, [], ◌∷◌, map, length, get_or, refl, sym, ap, ◌∙◌, arith, Vec, Global}
use Rattle.value_types.specs.declared.value.Value.{Value as Valued}
use Rattle.running_states.specs.declared.running.Running.{Running}
use Rattle.running_states.specs.declared.running.Running.TheVariants.{Keyed, Slots, rolls-Keyed, rolls-Slots}
use Rattle.running_states.specs.declared.running.Running.TheOpen.{Running-F}
use Rattle.running_states.specs.declared.running.Running.TheFolds.{fold-Running, fold-roll-Running}

abbrev pub tallest : List ℕ → ℕ
tallest [] = 0
tallest (n ∷ ns) = max n (tallest ns)

abbrev pub height_step : Running-F ℕ → ℕ
height_step (Running-F.Int s) = 0
height_step (Running-F.Boxed s) = 0
height_step (Running-F.Slots v) = suc (tallest v.items)
height_step (Running-F.Keyed v) = suc (tallest (map (λ e. e.1) v.items))
height_step (Running-F.Rows v) = 0

unfoldable pub height : Running → ℕ
height = fold-Running ℕ height_step

-- the slots, and the entries, of a state
abbrev pub heights : List Running → ℕ
heights ss = tallest (map height ss)

abbrev pub entry_heights : List (Valued × Running) → ℕ
entry_heights es = tallest (map (λ e. height e.1) es)

pub height_Slots : (v : Vec Running Global) → height (Slots v) ≡ suc (heights v.items)
unfolding height
height_Slots v = ap height (sym (rolls-Slots v)) ∙ fold-roll-Running ℕ height_step (Running-F.Slots v)

pub height_Keyed : (v : Vec (Valued × Running) Global) → height (Keyed v) ≡ suc (entry_heights v.items)
unfolding height
height_Keyed v = ap height (sym (rolls-Keyed v)) ∙ fold-roll-Running ℕ height_step (Running-F.Keyed v) ∙ ap (λ ns. suc (tallest ns)) (one_map v.items)
  where
    one_map : (es : List (Valued × Running)) → map (λ (e : Valued × ℕ). e.1) (map (λ e. (e.0, height e.1)) es) ≡ map (λ e. height e.1) es
    one_map [] = refl
    one_map (e ∷ es) = ap (◌∷◌ (height e.1)) (one_map es)

-- none is taller than the tallest
pub below_tallest : {X : Type 0} (f : X → ℕ) (xs : List X) (i : ℕ) (x : X) → i < length xs → x ≡ get_or xs i x → f x ≤ tallest (map f xs)
below_tallest f [] i x l e = absurd (omega arith)
below_tallest f (y ∷ xs) zero x l e = let g : f x ≡ f y = ap f e in omega arith
below_tallest f (y ∷ xs) (suc i) x l e = let h : f x ≤ tallest (map f xs) = below_tallest f xs i x (omega arith) e in omega arith
