-- The best of the arguments is the argument of the best row.
use Rattle.std.proofs.Common.{◌≡◌, Bool, true, false, cond, List, [], ◌∷◌, map, Option, Some, None, refl, ap, ◌∙◌}
use Rattle.agg_terms.specs.Order.{best, of_two}
use Rattle.agg_terms.specs.Trees.{one_tree, pair_tree}
use Rattle.agg_terms.specs.Values.{Value}
use Rattle.agg_meaning.specs.Functions.{arg_val, higher, higher_second, lower, lower_second, option_first, or_nothing, the_arg}
use Rattle.plain_functions.specs.proving.Best.{beats_at, first_of, one_of, pair_of}

mapped : {X Y : Type 0} → (X → Y) → Option X → Option Y
mapped f None = None
mapped f (Some x) = Some (f x)

two_mapped : {X Y : Type 0} (f : X → Y) (beats : Y → Y → Bool) (x : X) (o : Option X) →
    of_two beats (f x) (mapped f o) ≡ f (of_two (λ a b. beats (f a) (f b)) x o)
unfolding mapped
two_mapped f beats x None = refl
two_mapped f beats x (Some y) = chosen (beats (f y) (f x))
  where
    chosen : (b : Bool) → cond b (f y) (f x) ≡ f (cond b y x)
    chosen true = refl
    chosen false = refl

best_mapped : {X Y : Type 0} (f : X → Y) (beats : Y → Y → Bool) (xs : List X) →
    best beats (map f xs) ≡ mapped f (best (λ a b. beats (f a) (f b)) xs)
unfolding mapped
best_mapped f beats [] = refl
best_mapped f beats (x ∷ xs) =
    ap (λ o. Some (of_two beats (f x) o)) (best_mapped f beats xs)
    ∙ ap Some (two_mapped f beats x (best (λ a b. beats (f a) (f b)) xs))

one : (nothing : Value) (o : Option (List Value)) → or_nothing nothing (mapped the_arg o) ≡ first_of nothing o
unfolding mapped
one nothing None = refl
one nothing (Some r) = refl

pair : (nothing : Value) (o : Option (List Value)) → or_nothing nothing (option_first (mapped arg_val o)) ≡ first_of nothing o
unfolding mapped
pair nothing None = refl
pair nothing (Some r) = refl

pub least : (nothing : Value) (L : List (List Value)) → or_nothing nothing (best lower (map the_arg L)) ≡ first_of nothing (best (beats_at false 0) L)
least nothing L = ap (or_nothing nothing) (best_mapped the_arg lower L) ∙ one nothing (best (beats_at false 0) L)

pub greatest : (nothing : Value) (L : List (List Value)) → or_nothing nothing (best higher (map the_arg L)) ≡ first_of nothing (best (beats_at true 0) L)
greatest nothing L = ap (or_nothing nothing) (best_mapped the_arg higher L) ∙ one nothing (best (beats_at true 0) L)

pub at_least : (nothing : Value) (L : List (List Value)) → or_nothing nothing (option_first (best lower_second (map arg_val L))) ≡ first_of nothing (best (beats_at false 1) L)
at_least nothing L = ap (λ o. or_nothing nothing (option_first o)) (best_mapped arg_val lower_second L) ∙ pair nothing (best (beats_at false 1) L)

pub at_greatest : (nothing : Value) (L : List (List Value)) → or_nothing nothing (option_first (best higher_second (map arg_val L))) ≡ first_of nothing (best (beats_at true 1) L)
at_greatest nothing L = ap (λ o. or_nothing nothing (option_first o)) (best_mapped arg_val higher_second L) ∙ pair nothing (best (beats_at true 1) L)

pub ruleset best_laws = (least, greatest, at_least, at_greatest)

one_here : (o : Option (List Value)) → one_tree (mapped the_arg o) ≡ one_of o
unfolding mapped
one_here None = refl
one_here (Some r) = refl

pair_here : (o : Option (List Value)) → pair_tree (mapped arg_val o) ≡ pair_of o
unfolding mapped
pair_here None = refl
pair_here (Some r) = refl

pub least_tree : (L : List (List Value)) → one_tree (best lower (map the_arg L)) ≡ one_of (best (beats_at false 0) L)
least_tree L = ap one_tree (best_mapped the_arg lower L) ∙ one_here (best (beats_at false 0) L)

pub greatest_tree : (L : List (List Value)) → one_tree (best higher (map the_arg L)) ≡ one_of (best (beats_at true 0) L)
greatest_tree L = ap one_tree (best_mapped the_arg higher L) ∙ one_here (best (beats_at true 0) L)

pub at_least_tree : (L : List (List Value)) → pair_tree (best lower_second (map arg_val L)) ≡ pair_of (best (beats_at false 1) L)
at_least_tree L = ap pair_tree (best_mapped arg_val lower_second L) ∙ pair_here (best (beats_at false 1) L)

pub at_greatest_tree : (L : List (List Value)) → pair_tree (best higher_second (map arg_val L)) ≡ pair_of (best (beats_at true 1) L)
at_greatest_tree L = ap pair_tree (best_mapped arg_val higher_second L) ∙ pair_here (best (beats_at true 1) L)

pub ruleset tree_laws = (least_tree, greatest_tree, at_least_tree, at_greatest_tree)
