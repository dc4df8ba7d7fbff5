-- What a state was made for is what its function and its types ask.
use Rattle.std.proofs.Common.{◌≡◌, Bool, true, List, [], ◌∷◌, length, refl, sym, ap, ap₂, ◌∙◌, subst, true≢false}
use Rattle.agg_terms.specs.Chains.{Leaf, Ty}
use Rattle.agg_terms.specs.Types.{any_null, bare, first_type}
use Rattle.agg_meaning.specs.Results.{nullable_if}
use Rattle.agg_meaning.specs.States.{made_for}
use Rattle.best_leaves.specs.Made.{arguments_of, function_leaf, kind_ty, made_of}
use Rattle.best_leaves.specs.Served.{are_two_single, is_one_text, is_served}
use Rattle.best_leaves.specs.declared.function.Function.{Function}
use Rattle.best_leaves.specs.declared.function.Function.TheVariants.{ArgMax, ArgMin, Max, Min}
use Rattle.best_leaves.specs.declared.kind.Kind.{Kind}

one_length : (ts : List Ty) → is_one_text ts ≡ true → 1 ≡ length ts
one_length [] e = absurd (true≢false (sym e))
one_length (t ∷ []) e = refl
one_length (t ∷ u ∷ ts) e = absurd (true≢false (sym e))

two_length : (ts : List Ty) → are_two_single ts ≡ true → 2 ≡ length ts
two_length [] e = absurd (true≢false (sym e))
two_length (t ∷ []) e = absurd (true≢false (sym e))
two_length (t ∷ u ∷ []) e = refl
two_length (t ∷ u ∷ v ∷ ts) e = absurd (true≢false (sym e))

counted : (w : Function) (ts : List Ty) → is_served (function_leaf w) ts ≡ true → arguments_of w ≡ length ts
counted Min ts e = one_length ts e
counted Max ts e = one_length ts e
counted ArgMin ts e = two_length ts e
counted ArgMax ts e = two_length ts e

result_is : (w : Function) (ts : List Ty) → record { leaf = function_leaf w; result = nullable_if (any_null ts) (bare (first_type ts)); arguments = length ts } ≡ made_for (function_leaf w) ts
result_is Min ts = refl
result_is Max ts = refl
result_is ArgMin ts = refl
result_is ArgMax ts = refl

pub made_is : (w : Function) (k : Kind) (b : Bool) (f : Leaf) (ts : List Ty) → function_leaf w ≡ f → kind_ty k ≡ bare (first_type ts) → b ≡ any_null ts → is_served f ts ≡ true →
    made_of (record { function = w; kind = k; nullable = b }) ≡ made_for f ts
made_is w k b f ts e g h s =
    subst (λ m. made_of (record { function = w; kind = k; nullable = b }) ≡ made_for m ts) e
    (ap (λ t. record { leaf = function_leaf w; result = t; arguments = arguments_of w }) (ap₂ nullable_if h g)
    ∙ ap (λ n. record { leaf = function_leaf w; result = nullable_if (any_null ts) (bare (first_type ts)); arguments = n }) (counted w ts (ap (λ m. is_served m ts) e ∙ s))
    ∙ result_is w ts)
