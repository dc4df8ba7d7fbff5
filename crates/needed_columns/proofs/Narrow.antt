-- A view over the marked columns alone fits them.
use Rattle.std.proofs.Common.{◌≡◌, ℕ, ◌<◌, Bool, true, List, [], ◌∷◌, length, map, get_or, ap, ap₂, sym, subst, ◌∙◌, refl, arith}
use Rattle.agg_terms.specs.Chains.{Str, Ty}
use Rattle.agg_terms.specs.Lists.{Each}
use Rattle.agg_typing.specs.Kinds.{is_number_or_text}
use Rattle.agg_typing.specs.Views.{IsCallOver, IsKeyOver, IsViewOver}
use Rattle.agg_meaning.specs.Views.{Call, View}
use Rattle.agg_defs.specs.Plans.{PlanFits, call_in, types_in, view_in}
use Rattle.agg_defs.specs.declared.plan.Call as rust
use Rattle.agg_defs.specs.declared.plan.GroupPlan.{GroupPlan}
use Rattle.agg_defs.specs.declared.schema.Column.{Column}
use Rattle.agg_defs.specs.declared.schema.Schema.{Schema}
use Rattle.value_types.specs.Folds.{ty_of}
use Rattle.quick_rows.specs.Keeping.{kept}
use Rattle.needed_columns.specs.Columns.{is_named, kept_schema, marks_of, narrowed, narrowed_call, place_in}
use Rattle.needed_columns.proofs.Kept.{IsMarked, kept_below, kept_get, map_kept}
use Rattle.needed_columns.proofs.Named.{arguments_named, keys_named, long_places, marked}

-- all columns of a view are marked
pub record AreMarked (marks : List Bool) (v : View) : Type 0 where
  pub keys_marked : Each (IsMarked marks) v.keys
  pub arguments_marked : Each (λ (c : Call). Each (IsMarked marks) c.columns) v.calls

marked_each : (v : View) (n : ℕ) (columns : List ℕ) → Each (λ i. i < n) columns → Each (λ i. is_named v i ≡ true) columns → Each (IsMarked (marks_of n v)) columns
marked_each v n [] below named = tt
marked_each v n (i ∷ columns) below named = ((omega (arith, below.0, long_places (is_named v) 0 n), marked v n i below.0 named.0), marked_each v n columns below.1 named.1)

keys_below : (types : List Ty) (keys : List ℕ) → Each (IsKeyOver types) keys → Each (λ i. i < length types) keys
keys_below types [] h = tt
keys_below types (k ∷ keys) h = (h.0.0, keys_below types keys h.1)

calls_marked : (types : List Ty) (v : View) (calls : List Call) → Each (IsCallOver types) calls → Each (λ (c : Call). Each (λ i. is_named v i ≡ true) c.columns) calls
    → Each (λ (c : Call). Each (IsMarked (marks_of (length types) v)) c.columns) calls
calls_marked types v [] h named = tt
calls_marked types v (c ∷ calls) h named = (marked_each v (length types) c.columns h.0.1 named.0, calls_marked types v calls h.1 named.1)

pub all_marked : (types : List Ty) (v : View) → IsViewOver types v → AreMarked (marks_of (length types) v) v
all_marked types v h = record {
  keys_marked = marked_each v (length types) v.keys (keys_below types v.keys h.keys) (keys_named v);
  arguments_marked = calls_marked types v v.calls h.calls (arguments_named v);
}

-- Types at the new numbers.

columns_below : (marks : List Bool) (types : List Ty) (columns : List ℕ) → length marks ≡ length types → Each (IsMarked marks) columns → Each (λ i. i < length (kept marks types)) (map (place_in marks) columns)
columns_below marks types [] same h = tt
columns_below marks types (i ∷ columns) same h = (kept_below marks types i same h.0, columns_below marks types columns same h.1)

same_types : (marks : List Bool) (types : List Ty) (columns : List ℕ) → length marks ≡ length types → Each (IsMarked marks) columns
    → map (λ i. get_or (kept marks types) i Str) (map (place_in marks) columns) ≡ map (λ i. get_or types i Str) columns
same_types marks types [] same h = refl
same_types marks types (i ∷ columns) same h = ap₂ ◌∷◌ (kept_get marks types i Str same h.0) (same_types marks types columns same h.1)

calls_over : (marks : List Bool) (types : List Ty) (calls : List Call) → length marks ≡ length types → Each (λ (c : Call). Each (IsMarked marks) c.columns) calls → Each (IsCallOver types) calls
    → Each (IsCallOver (kept marks types)) (map (narrowed_call marks) calls)
calls_over marks types [] same m h = tt
calls_over marks types (c ∷ calls) same m h =
    ((h.0.0, columns_below marks types c.columns same m.0, h.0.2 ∙ sym (same_types marks types c.columns same m.0)), calls_over marks types calls same m.1 h.1)

keys_over : (marks : List Bool) (types : List Ty) (keys : List ℕ) → length marks ≡ length types → Each (IsMarked marks) keys → Each (IsKeyOver types) keys → Each (IsKeyOver (kept marks types)) (map (place_in marks) keys)
keys_over marks types [] same m h = tt
keys_over marks types (k ∷ keys) same m h =
    ((kept_below marks types k same m.0, ap is_number_or_text (kept_get marks types k Str same m.0) ∙ h.0.1), keys_over marks types keys same m.1 h.1)

pub view_over : (marks : List Bool) (types : List Ty) (v : View) → length marks ≡ length types → AreMarked marks v → IsViewOver types v → IsViewOver (kept marks types) (narrowed marks v)
view_over marks types v same m h = record {
  calls = calls_over marks types v.calls same m.arguments_marked h.calls;
  keys = keys_over marks types v.keys same m.keys_marked h.keys;
}

-- the plan over the marked columns fits them
pub plan_fits : (schema few : Schema) (plan narrow : GroupPlan) (marks : List Bool) → PlanFits schema plan → marks ≡ marks_of (length schema.columns) (view_in plan) → few ≡ kept_schema marks schema
    → view_in narrow ≡ narrowed marks (view_in plan) → PlanFits few narrow
plan_fits schema few plan narrow marks fits are few_is narrow_is =
    let types = types_in schema in
    let long : length types ≡ length schema.columns = long_types schema.columns in
    let count : marks ≡ marks_of (length types) (view_in plan) = are ∙ ap (λ n. marks_of n (view_in plan)) (sym long) in
    let same : length marks ≡ length types = ap length count ∙ long_places (is_named (view_in plan)) 0 (length types) in
    let over : IsViewOver (kept marks types) (narrowed marks (view_in plan)) = view_over marks types (view_in plan) same (subst (λ m. AreMarked m (view_in plan)) (sym count) (all_marked types (view_in plan) fits)) fits in
    let kept_types : types_in few ≡ kept marks types = ap types_in few_is ∙ map_kept (λ (c : Column). ty_of c.ty) marks schema.columns in
    subst (λ ts. IsViewOver ts (view_in narrow)) (sym kept_types) (subst (IsViewOver (kept marks types)) (sym narrow_is) over)
  where
    long_types : (columns : List Column) → length (map (λ (c : Column). ty_of c.ty) columns) ≡ length columns
    long_types [] = refl
    long_types (c ∷ columns) = omega (arith, long_types columns)

-- The columns of a plan are the table's.

arguments_below : (types : List Ty) (calls : List rust.Call) → Each (IsCallOver types) (map call_in calls) → Each (λ (c : rust.Call). Each (λ i. i < length types) c.columns) calls
arguments_below types [] h = tt
arguments_below types (c ∷ calls) h = (h.0.1, arguments_below types calls h.1)

long_columns : (columns : List Column) → length (map (λ (c : Column). ty_of c.ty) columns) ≡ length columns
long_columns [] = refl
long_columns (c ∷ columns) = omega (arith, long_columns columns)

pub arguments_low : (schema : Schema) (plan : GroupPlan) (marks : List Bool) → PlanFits schema plan → marks ≡ marks_of (length schema.columns) (view_in plan) → Each (λ (c : rust.Call). Each (λ i. i < length marks) c.columns) plan.calls
arguments_low schema plan marks fits are =
    subst (λ n. Each (λ (c : rust.Call). Each (λ i. i < n) c.columns) plan.calls) (long_columns schema.columns ∙ sym (marks_long schema plan marks are)) (arguments_below (types_in schema) plan.calls fits.calls)
  where
    marks_long : (schema : Schema) (plan : GroupPlan) (marks : List Bool) → marks ≡ marks_of (length schema.columns) (view_in plan) → length marks ≡ length schema.columns
    marks_long schema plan marks are = ap length are ∙ long_places (is_named (view_in plan)) 0 (length schema.columns)

pub keys_are_low : (schema : Schema) (plan : GroupPlan) (marks : List Bool) → PlanFits schema plan → marks ≡ marks_of (length schema.columns) (view_in plan) → Each (λ i. i < length marks) plan.keys
keys_are_low schema plan marks fits are =
    subst (λ n. Each (λ i. i < n) plan.keys) (long_columns schema.columns ∙ sym (ap length are ∙ long_places (is_named (view_in plan)) 0 (length schema.columns))) (keys_below (types_in schema) plan.keys fits.keys)

pub marks_long : (schema : Schema) (plan : GroupPlan) (marks : List Bool) → marks ≡ marks_of (length schema.columns) (view_in plan) → length marks ≡ length schema.columns
marks_long schema plan marks are = ap length are ∙ long_places (is_named (view_in plan)) 0 (length schema.columns)

-- all columns that a plan names are marked
pub plan_marked : (schema : Schema) (plan : GroupPlan) (marks : List Bool) → PlanFits schema plan → marks ≡ marks_of (length schema.columns) (view_in plan) → AreMarked marks (view_in plan)
plan_marked schema plan marks fits are =
    subst (λ m. AreMarked m (view_in plan)) (ap (λ n. marks_of n (view_in plan)) (long_columns schema.columns) ∙ sym are) (all_marked (types_in schema) (view_in plan) fits)
