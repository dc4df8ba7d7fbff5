-- What each call on a state behind a pointer says, from what the call on the state itself says.
use Rattle.std.proofs.Common.{◌≡◌, refl, sym, ap, ◌∙◌, subst, List, arith, Result, Ok, Err, Box, Global}
use Rattle.std.specs.Result.{IfOk, OnOk}
use Rattle.agg_terms.specs.Chains.{Ty}
use Rattle.agg_terms.specs.Values as family
use Rattle.agg_meaning.specs.States.{Held, Means, TakesRow, TakesState}
use Rattle.event_leaves.specs.Funnels as funnel
use Rattle.event_leaves.specs.Matches as matches
use Rattle.event_leaves.specs.declared.funnel.FunnelState.{FunnelState}
use Rattle.event_leaves.specs.declared.matching.MatchState.{MatchState}
use Rattle.list_leaves.specs.Arrays as array
use Rattle.list_leaves.specs.Quantiles as quantile
use Rattle.list_leaves.specs.declared.array.ArrayState.{ArrayState}
use Rattle.list_leaves.specs.declared.quantile.QuantileState.{QuantileState}
use Rattle.set_leaves.specs.Sets as set
use Rattle.set_leaves.specs.declared.state.SetState.{SetState}
use Rattle.value_types.specs.Folds.{tree_of, value_of}
use Rattle.value_types.specs.declared.value.Tree.{Tree}
use Rattle.value_types.specs.declared.value.Value.{Value}
use Rattle.boxed_leaves.specs.Boxed.{held}
use Rattle.boxed_leaves.specs.declared.state.BoxedState.{BoxedState}
use Rattle.boxed_leaves.specs.declared.state.BoxedState.TheVariants as boxed
use Rattle.boxed_leaves.proofs.Making.{number_of}

-- the state behind the pointer
pub array_at : (s : BoxedState) (p : Box ArrayState Global) (d : ArrayState) → s ≡ boxed.Array p → d ≡ p.value → (t : Ty) → held t s ≡ array.held t d
array_at s p d e v t = ap (held t) e ∙ ap (array.held t) (sym v)

pub quantile_at : (s : BoxedState) (p : Box QuantileState Global) (d : QuantileState) → s ≡ boxed.Quantile p → d ≡ p.value → (t : Ty) → held t s ≡ quantile.held d
quantile_at s p d e v t = ap (held t) e ∙ ap quantile.held (sym v)

pub set_at : (s : BoxedState) (p : Box SetState Global) (d : SetState) → s ≡ boxed.Set p → d ≡ p.value → (t : Ty) → held t s ≡ set.held d
set_at s p d e v t = ap (held t) e ∙ ap set.held (sym v)

pub funnel_at : (s : BoxedState) (p : Box FunnelState Global) (d : FunnelState) → s ≡ boxed.Funnel p → d ≡ p.value → (t : Ty) → held t s ≡ funnel.held d
funnel_at s p d e v t = ap (held t) e ∙ ap funnel.held (sym v)

pub match_at : (s : BoxedState) (p : Box MatchState Global) (d : MatchState) → s ≡ boxed.Match p → d ≡ p.value → (t : Ty) → held t s ≡ matches.held d
match_at s p d e v t = ap (held t) e ∙ ap matches.held (sym v)

-- states made alike, by those behind the pointers
pub made_alike : (a b c d : Held) → a ≡ c → b ≡ d → a.made ≡ b.made → c.made ≡ d.made
made_alike a b c d e g h = ap (λ (z : Held). z.made) (sym e) ∙ h ∙ ap (λ (z : Held). z.made) g

-- what holds of a result, at each type
on_ok : {A E P Q : Type 0} (x : Result A E) → (P → Q) → OnOk x P → OnOk x Q
on_ok (Ok a) f h = f h
on_ok (Err e) f h = h

if_ok : {A E : Type 0} {P Q : A → Type 0} (x : Result A E) → ((a : A) → P a → Q a) → IfOk x P → IfOk x Q
if_ok (Ok a) f h = f a h
if_ok (Err e) f h = h

pub takes_at : {A E : Type 0} (x : Result A E) (r : List family.Value) (f g u : Ty → Held) → ((t : Ty) → f t ≡ g t) → OnOk x ((t : Ty) → TakesRow (g t) r (u t)) → OnOk x ((t : Ty) → TakesRow (f t) r (u t))
takes_at x r f g u e h = on_ok x (λ a t. subst (λ y. TakesRow y r (u t)) (sym (e t)) (a t)) h

pub joins_at : {A E : Type 0} (x : Result A E) (f g f' g' u : Ty → Held) → ((t : Ty) → f t ≡ f' t) → ((t : Ty) → g t ≡ g' t) → OnOk x ((t : Ty) → TakesState (f' t) (g' t) (u t)) → OnOk x ((t : Ty) → TakesState (f t) (g t) (u t))
joins_at x f g f' g' u e i h = on_ok x (λ a t. subst (λ y. TakesState y (g t) (u t)) (sym (e t)) (subst (λ y. TakesState (f' t) y (u t)) (sym (i t)) (a t))) h

pub joins_one : {A E : Type 0} (x : Result A E) (f g : Ty → Held) (a b u : Held) → ((t : Ty) → f t ≡ a) → ((t : Ty) → g t ≡ b) → OnOk x (TakesState a b u) → OnOk x ((t : Ty) → TakesState (f t) (g t) u)
joins_one x f g a b u e i h = on_ok x (λ k t. subst (λ y. TakesState y (g t) u) (sym (e t)) (subst (λ y. TakesState a y u) (sym (i t)) k)) h

pub means_at : {E : Type 0} (x : Result Value E) (f g : Ty → Held) → ((t : Ty) → f t ≡ g t) → IfOk x (λ v. (t : Ty) → Means (g t) (value_of v)) → IfOk x (λ v. (t : Ty) → Means (f t) (value_of v))
means_at x f g e h = if_ok x (λ v a t. subst (λ y. Means y (value_of v)) (sym (e t)) (a t)) h

pub trees_at : {E : Type 0} (x : Result Tree E) (f g : Ty → Held) → ((t : Ty) → f t ≡ g t) → IfOk x (λ v. (t : Ty) → tree_of v ≡ (g t).tree) → IfOk x (λ v. (t : Ty) → tree_of v ≡ (f t).tree)
trees_at x f g e h = if_ok x (λ v a t. a t ∙ ap (λ (z : Held). z.tree) (sym (e t))) h

-- a state of a kind's number is of the kind
pub only_best : (u : BoxedState) → number_of u ≡ 1 → ((x : _) → u ≡ boxed.Best x → ⊥) → ⊥
only_best (boxed.Best s) h n = n s refl
only_best (boxed.Array s) h n = omega (arith, h)
only_best (boxed.Quantile s) h n = omega (arith, h)
only_best (boxed.Set s) h n = omega (arith, h)
only_best (boxed.Funnel s) h n = omega (arith, h)
only_best (boxed.Match s) h n = omega (arith, h)

pub only_array : (u : BoxedState) → number_of u ≡ 2 → ((x : _) → u ≡ boxed.Array x → ⊥) → ⊥
only_array (boxed.Best s) h n = omega (arith, h)
only_array (boxed.Array s) h n = n s refl
only_array (boxed.Quantile s) h n = omega (arith, h)
only_array (boxed.Set s) h n = omega (arith, h)
only_array (boxed.Funnel s) h n = omega (arith, h)
only_array (boxed.Match s) h n = omega (arith, h)

pub only_quantile : (u : BoxedState) → number_of u ≡ 3 → ((x : _) → u ≡ boxed.Quantile x → ⊥) → ⊥
only_quantile (boxed.Best s) h n = omega (arith, h)
only_quantile (boxed.Array s) h n = omega (arith, h)
only_quantile (boxed.Quantile s) h n = n s refl
only_quantile (boxed.Set s) h n = omega (arith, h)
only_quantile (boxed.Funnel s) h n = omega (arith, h)
only_quantile (boxed.Match s) h n = omega (arith, h)

pub only_set : (u : BoxedState) → number_of u ≡ 4 → ((x : _) → u ≡ boxed.Set x → ⊥) → ⊥
only_set (boxed.Best s) h n = omega (arith, h)
only_set (boxed.Array s) h n = omega (arith, h)
only_set (boxed.Quantile s) h n = omega (arith, h)
only_set (boxed.Set s) h n = n s refl
only_set (boxed.Funnel s) h n = omega (arith, h)
only_set (boxed.Match s) h n = omega (arith, h)

pub only_funnel : (u : BoxedState) → number_of u ≡ 5 → ((x : _) → u ≡ boxed.Funnel x → ⊥) → ⊥
only_funnel (boxed.Best s) h n = omega (arith, h)
only_funnel (boxed.Array s) h n = omega (arith, h)
only_funnel (boxed.Quantile s) h n = omega (arith, h)
only_funnel (boxed.Set s) h n = omega (arith, h)
only_funnel (boxed.Funnel s) h n = n s refl
only_funnel (boxed.Match s) h n = omega (arith, h)

pub only_match : (u : BoxedState) → number_of u ≡ 6 → ((x : _) → u ≡ boxed.Match x → ⊥) → ⊥
only_match (boxed.Best s) h n = omega (arith, h)
only_match (boxed.Array s) h n = omega (arith, h)
only_match (boxed.Quantile s) h n = omega (arith, h)
only_match (boxed.Set s) h n = omega (arith, h)
only_match (boxed.Funnel s) h n = omega (arith, h)
only_match (boxed.Match s) h n = n s refl
