-- A plan whose columns are counted among the marked ones.
use Rattle.std.proofs.Common.{◌≡◌, add-one, ℕ, zero, suc, ◌+◌, ◌<◌, Bool, List, [], ◌∷◌, ◌++◌, length, map, take, get_or, ap, sym, subst, ◌∙◌, refl, arith}
use Rattle.agg_terms.specs.Lists.{Each}
use Rattle.agg_meaning.specs.Views.{Call}
use Rattle.agg_defs.specs.Parts.{Parts}
use Rattle.agg_defs.specs.Plans.{call_in, view_in}
use Rattle.agg_defs.specs.declared.plan.Call as rust
use Rattle.agg_defs.specs.declared.plan.GroupPlan.{GroupPlan}
use Rattle.needed_columns.specs.Columns.{narrowed, narrowed_call, place_in}

-- a column that there is
pub below_at : (n : ℕ) (columns : List ℕ) (i column : ℕ) → Each (λ j. j < n) columns → i < length columns → column ≡ get_or columns i column → column < n
below_at n [] i column h within is = absurd (omega arith)
below_at n (k ∷ columns) zero column h within is = omega (arith, h.0, is)
below_at n (k ∷ columns) (suc i) column h within is = below_at n columns i column h.1 (omega (arith, within)) is

-- and the columns of a call
pub columns_at : (n : ℕ) (calls : List rust.Call) (i : ℕ) (call : rust.Call) → Each (λ (c : rust.Call). Each (λ j. j < n) c.columns) calls → i < length calls → call ≡ get_or calls i call → Each (λ j. j < n) call.columns
columns_at n [] i call h within is = absurd (omega arith)
columns_at n (k ∷ calls) zero call h within is = subst (λ (c : rust.Call). Each (λ j. j < n) c.columns) (sym is) h.0
columns_at n (k ∷ calls) (suc i) call h within is = columns_at n calls i call h.1 (omega (arith, within)) is

next_of : {A : Type 0} (xs : List A) (i : ℕ) (x : A) → i < length xs → x ≡ get_or xs i x → take (suc i) xs ≡ take i xs ++ x ∷ []
next_of [] i x h is = absurd (omega arith)
next_of (y ∷ xs) zero x h is = ap (λ z. z ∷ []) (sym is)
next_of (y ∷ xs) (suc i) x h is = ap (◌∷◌ y) (next_of xs i x (omega (arith, h)) is)

map_next : {A B : Type 0} (f : A → B) (xs : List A) (i : ℕ) (x : A) → i < length xs → x ≡ get_or xs i x → map f (take (i + 1) xs) ≡ map f (take i xs) ++ f x ∷ []
map_next f xs i x h is = ap (λ n. map f (take n xs)) (add-one i) ∙ ap (map f) (next_of xs i x h is) ∙ join (take i xs)
  where
    join : (front : List _) → map f (front ++ x ∷ []) ≡ map f front ++ f x ∷ []
    join [] = refl
    join (y ∷ front) = ap (◌∷◌ (f y)) (join front)

-- places are made one by one
pub places_more : (marks : List Bool) (places columns : List ℕ) (i column place : ℕ) → places ≡ map (place_in marks) (take i columns) → i < length columns → column ≡ get_or columns i column → place ≡ place_in marks column
    → places ++ place ∷ [] ≡ map (place_in marks) (take (i + 1) columns)
places_more marks places columns i column place so within is at =
    ap (λ p. places ++ p ∷ []) at ∙ ap (λ front. front ++ place_in marks column ∷ []) so ∙ sym (map_next (place_in marks) columns i column within is)

-- and calls
pub calls_more : (marks : List Bool) (narrow calls : List rust.Call) (i : ℕ) (call few : rust.Call) → map call_in narrow ≡ map (narrowed_call marks) (map call_in (take i calls)) → i < length calls → call ≡ get_or calls i call
    → call_in few ≡ narrowed_call marks (call_in call) → map call_in (narrow ++ few ∷ []) ≡ map (narrowed_call marks) (map call_in (take (i + 1) calls))
calls_more marks narrow calls i call few so within is at =
    join call_in narrow few ∙ ap (λ c. map call_in narrow ++ c ∷ []) at ∙ ap (λ front. front ++ narrowed_call marks (call_in call) ∷ []) so
    ∙ sym (ap (map (narrowed_call marks)) (map_next call_in calls i call within is) ∙ join (narrowed_call marks) (map call_in (take i calls)) (call_in call))
  where
    join : {A B : Type 0} (f : A → B) (front : List A) (x : A) → map f (front ++ x ∷ []) ≡ map f front ++ f x ∷ []
    join f [] x = refl
    join f (y ∷ front) x = ap (◌∷◌ (f y)) (join f front x)

pub narrow_call_is : (marks : List Bool) (call : rust.Call) (legal : Parts) (columns : List ℕ) → legal ≡ call.legal → columns ≡ map (place_in marks) call.columns
    → call_in (record { legal = legal; columns = columns }) ≡ narrowed_call marks (call_in call)
narrow_call_is marks call legal columns same places = λ j. call_in (record { legal = same j; columns = places j })

pub narrow_plan_is : (marks : List Bool) (plan : GroupPlan) (calls : List rust.Call) (keys : List ℕ) → map call_in calls ≡ map (narrowed_call marks) (map call_in plan.calls) → keys ≡ map (place_in marks) plan.keys
    → view_in (record { calls = calls; keys = keys }) ≡ narrowed marks (view_in plan)
narrow_plan_is marks plan calls keys same places = λ j. record { keys = places j; calls = same j }

pub ruleset plan_laws = (below_at, columns_at, places_more, calls_more, narrow_call_is, narrow_plan_is)
