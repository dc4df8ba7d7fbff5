-- Which functions each kind of state is made for, so that states made alike are of one kind.
use Rattle.std.proofs.Common.{◌≡◌, ℕ, refl, sym, ap, ◌∙◌}
use Rattle.agg_terms.specs.Chains.{ArgMax, ArgMin, GroupArray, Leaf, Max, Min, QuantileExact, SequenceMatch, Str, Ty, UniqExact, WindowFunnel}
use Rattle.agg_meaning.specs.States as states
use Rattle.best_leaves.specs.Made.{function_leaf}
use Rattle.best_leaves.specs.declared.function.Function.{Function}
use Rattle.best_leaves.specs.declared.function.Function.TheVariants as function
use Rattle.boxed_leaves.specs.Boxed.{held}
use Rattle.boxed_leaves.specs.declared.state.BoxedState.{BoxedState}
use Rattle.boxed_leaves.specs.declared.state.BoxedState.TheVariants as boxed

-- the number of a kind, told by the function and by the state
abbrev kind_of : Leaf → ℕ
kind_of Min = 1
kind_of Max = 1
kind_of ArgMin = 1
kind_of ArgMax = 1
kind_of (GroupArray most) = 2
kind_of (QuantileExact level) = 3
kind_of UniqExact = 4
kind_of (WindowFunnel window strict) = 5
kind_of (SequenceMatch pattern) = 6
kind_of _ = 0

abbrev pub number_of : BoxedState → ℕ
number_of (boxed.Best s) = 1
number_of (boxed.Array s) = 2
number_of (boxed.Quantile s) = 3
number_of (boxed.Set s) = 4
number_of (boxed.Funnel s) = 5
number_of (boxed.Match s) = 6

best_kind : (f : Function) → kind_of (function_leaf f) ≡ 1
best_kind function.Min = refl
best_kind function.Max = refl
best_kind function.ArgMin = refl
best_kind function.ArgMax = refl

told : (s : BoxedState) → kind_of (held Str s).made.leaf ≡ number_of s
told (boxed.Best s) = best_kind s.value.made.function
told (boxed.Array s) = refl
told (boxed.Quantile s) = refl
told (boxed.Set s) = refl
told (boxed.Funnel s) = refl
told (boxed.Match s) = refl

pub one_kind : (s u : BoxedState) → ((t : Ty) → (held t s).made ≡ (held t u).made) → number_of s ≡ number_of u
one_kind s u h = sym (told s) ∙ ap (λ (m : states.Made). kind_of m.leaf) (h Str) ∙ told u
