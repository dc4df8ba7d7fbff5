-- Rows with their marked fields alone bring the same answer and the same tables.
use Rattle.std.proofs.Common.{◌≡◌, ℕ, zero, suc, Bool, cond, List, [], ◌∷◌, ◌++◌, length, map, ap, ap₂, sym, subst, ◌∙◌, refl, arith}
use Rattle.std.specs.List.{flat_map}
use Rattle.std.specs.Ordering.{is_eq}
use Rattle.agg_terms.specs.Chains.{Chain, Ty}
use Rattle.agg_terms.specs.Lists.{Each, is_empty, places}
use Rattle.agg_terms.specs.Order.{compare_rows, different}
use Rattle.agg_terms.specs.Values.{Nil, Value}
use Rattle.agg_meaning.specs.Feeds.{Feed, opened}
use Rattle.agg_meaning.specs.Suffixes.{meaning, normal}
use Rattle.agg_meaning.specs.Views.{Call, Contribution, View, answer, call_at, feeds_of, first_groups, groups, items_at, of_row, tables}
use Rattle.quick_rows.specs.Keeping.{kept}
use Rattle.agg_defs.specs.Plans.{PlanFits, view_in}
use Rattle.agg_defs.specs.declared.plan.GroupPlan.{GroupPlan}
use Rattle.agg_defs.specs.declared.schema.Schema.{Schema}
use Rattle.needed_columns.specs.Columns.{marks_of, narrowed, narrowed_call, place_in}
use Rattle.needed_columns.specs.Sameness.{AreSame}
use Rattle.needed_columns.proofs.Kept.{IsMarked, kept_get}
use Rattle.needed_columns.proofs.Narrow.{AreMarked, arguments_low, keys_are_low, marks_long, plan_fits, plan_marked}

-- Fields and arguments.

pub items_same : (marks : List Bool) (row : List Value) (columns : List ℕ) → length marks ≡ length row → Each (IsMarked marks) columns → items_at (map (place_in marks) columns) (kept marks row) ≡ items_at columns row
items_same marks row [] same h = refl
items_same marks row (i ∷ columns) same h = ap₂ ◌∷◌ (kept_get marks row i Nil same h.0) (items_same marks row columns same h.1)

call_narrow : (marks : List Bool) (calls : List Call) (i : ℕ) → call_at (map (narrowed_call marks) calls) i ≡ narrowed_call marks (call_at calls i)
call_narrow marks [] i = refl
call_narrow marks (c ∷ calls) zero = refl
call_narrow marks (c ∷ calls) (suc i) = call_narrow marks calls i

call_marked : (marks : List Bool) (calls : List Call) (i : ℕ) → Each (λ (c : Call). Each (IsMarked marks) c.columns) calls → Each (IsMarked marks) (call_at calls i).columns
call_marked marks [] i h = tt
call_marked marks (c ∷ calls) zero h = h.0
call_marked marks (c ∷ calls) (suc i) h = call_marked marks calls i h.1

arguments_same : (marks : List Bool) (v : View) (row : List Value) (i : ℕ) → length marks ≡ length row → AreMarked marks v
    → items_at (call_at (narrowed marks v).calls i).columns (kept marks row) ≡ items_at (call_at v.calls i).columns row
arguments_same marks v row i same m =
    ap (λ (c : Call). items_at c.columns (kept marks row)) (call_narrow marks v.calls i) ∙ items_same marks row (call_at v.calls i).columns same (call_marked marks v.calls i m.arguments_marked)

-- The feeds of a group.

abbrev feeds : List ℕ → (c : Call) → List Value → List (List Value) → List (Feed c.chain)
feeds keys c g rows = flat_map (λ r. cond (is_eq (compare_rows g (items_at keys r))) (opened c.chain (items_at c.columns r) ∷ []) []) rows

feeds_are : (v : View) (g : List Value) (i : ℕ) (rows : List (List Value)) → feeds_of v g i (map (of_row v) rows) ≡ feeds v.keys (call_at v.calls i) g rows
feeds_are v g i [] = refl
feeds_are v g i (r ∷ rows) =
    ap (λ more. cond (is_eq (compare_rows g (items_at v.keys r))) (opened (call_at v.calls i).chain (items_at (call_at v.calls i).columns r) ∷ []) [] ++ more) (feeds_are v g i rows)

feeds_same : (marks : List Bool) (keys : List ℕ) (c : Call) (g : List Value) (rows : List (List Value)) → Each (IsMarked marks) keys → Each (IsMarked marks) c.columns → Each (λ (row : List Value). length row ≡ length marks) rows
    → feeds (map (place_in marks) keys) (narrowed_call marks c) g (map (kept marks) rows) ≡ feeds keys c g rows
feeds_same marks keys c g [] k m h = refl
feeds_same marks keys c g (r ∷ rows) k m h =
    let key = items_same marks r keys (sym h.0) k in
    let args = items_same marks r c.columns (sym h.0) m in
    let more = feeds_same marks keys c g rows k m h.1 in
    λ j. cond (is_eq (compare_rows g (key j))) (opened c.chain (args j) ∷ []) [] ++ more j

-- The groups.

keys_are : (v : View) (rows : List (List Value)) → map (λ (c : Contribution v). c.0) (map (of_row v) rows) ≡ map (items_at v.keys) rows
keys_are v [] = refl
keys_are v (r ∷ rows) = ap (◌∷◌ (items_at v.keys r)) (keys_are v rows)

keys_same : (marks : List Bool) (keys : List ℕ) (rows : List (List Value)) → Each (IsMarked marks) keys → Each (λ (row : List Value). length row ≡ length marks) rows
    → map (items_at (map (place_in marks) keys)) (map (kept marks) rows) ≡ map (items_at keys) rows
keys_same marks keys [] k h = refl
keys_same marks keys (r ∷ rows) k h = ap₂ ◌∷◌ (items_same marks r keys (sym h.0) k) (keys_same marks keys rows k h.1)

empty_same : (marks : List Bool) (keys : List ℕ) → is_empty (map (place_in marks) keys) ≡ is_empty keys
empty_same marks [] = refl
empty_same marks (k ∷ keys) = refl

groups_same : (marks : List Bool) (v : View) (rows : List (List Value)) → AreMarked marks v → Each (λ (row : List Value). length row ≡ length marks) rows
    → groups (narrowed marks v) (map (of_row (narrowed marks v)) (map (kept marks) rows)) ≡ groups v (map (of_row v) rows)
groups_same marks v rows m h =
    let first : first_groups (narrowed marks v) ≡ first_groups v = ap (λ b. cond b ([] ∷ []) []) (empty_same marks v.keys) in
    let keys = keys_are (narrowed marks v) (map (kept marks) rows) ∙ keys_same marks v.keys rows m.keys_marked h ∙ sym (keys_are v rows) in
    λ j. different compare_rows (first j ++ keys j)

-- What a call means in a group, and its state.

abbrev value : {X : Type 0} → ((c : Chain) → List Ty → List (Feed c) → X) → List ℕ → List Value → List (List Value) → Call → X
value f keys g rows c = f c.chain c.types (feeds keys c g rows)

value_same : {X : Type 0} (f : (c : Chain) → List Ty → List (Feed c) → X) (marks : List Bool) (v : View) (rows : List (List Value)) (g : List Value) (i : ℕ) → AreMarked marks v → Each (λ (row : List Value). length row ≡ length marks) rows
    → f (call_at (narrowed marks v).calls i).chain (call_at (narrowed marks v).calls i).types (feeds_of (narrowed marks v) g i (map (of_row (narrowed marks v)) (map (kept marks) rows)))
    ≡ f (call_at v.calls i).chain (call_at v.calls i).types (feeds_of v g i (map (of_row v) rows))
value_same f marks v rows g i m h =
    let few = narrowed marks v in
    let short = map (kept marks) rows in
    let c = call_at v.calls i in
    ap (f (call_at few.calls i).chain (call_at few.calls i).types) (feeds_are few g i short)
    ∙ ap (value f few.keys g short) (call_narrow marks v.calls i)
    ∙ ap (f c.chain c.types) (feeds_same marks v.keys c g rows m.keys_marked (call_marked marks v.calls i m.arguments_marked) h ∙ sym (feeds_are v g i rows))

map_same : {X Y : Type 0} (f g : X → Y) (xs ys : List X) → ((x : X) → f x ≡ g x) → xs ≡ ys → map f xs ≡ map g ys
map_same {X} f g xs ys h is = each xs ∙ ap (map g) is
  where
    each : (xs : List X) → map f xs ≡ map g xs
    each [] = refl
    each (x ∷ xs) = ap₂ ◌∷◌ (h x) (each xs)

long_map : {X Y : Type 0} (f : X → Y) (xs : List X) → length (map f xs) ≡ length xs
long_map f [] = refl
long_map f (x ∷ xs) = omega (arith, long_map f xs)

-- the line of a group
abbrev line_with : {X : Type 0} → ((c : Chain) → List Ty → List (Feed c) → X) → (v : View) → List (Contribution v) → List Value → List Value × List X
line_with f v C g = (g, map (λ i. f (call_at v.calls i).chain (call_at v.calls i).types (feeds_of v g i C)) (places 0 (length v.calls)))

line_same : {X : Type 0} (f : (c : Chain) → List Ty → List (Feed c) → X) (marks : List Bool) (v : View) (rows : List (List Value)) (g : List Value) → AreMarked marks v → Each (λ (row : List Value). length row ≡ length marks) rows
    → line_with f (narrowed marks v) (map (of_row (narrowed marks v)) (map (kept marks) rows)) g ≡ line_with f v (map (of_row v) rows) g
line_same {X} f marks v rows g m h =
    let few = narrowed marks v in
    let one : ℕ → X = λ i. f (call_at few.calls i).chain (call_at few.calls i).types (feeds_of few g i (map (of_row few) (map (kept marks) rows))) in
    let other : ℕ → X = λ i. f (call_at v.calls i).chain (call_at v.calls i).types (feeds_of v g i (map (of_row v) rows)) in
    let values = map_same one other (places 0 (length few.calls)) (places 0 (length v.calls)) (λ i. value_same f marks v rows g i m h) (ap (places 0) (long_map (narrowed_call marks) v.calls)) in
    λ j. (g, values j)

lines_same : {X : Type 0} (f : (c : Chain) → List Ty → List (Feed c) → X) (marks : List Bool) (v : View) (rows : List (List Value)) → AreMarked marks v → Each (λ (row : List Value). length row ≡ length marks) rows
    → map (line_with f (narrowed marks v) (map (of_row (narrowed marks v)) (map (kept marks) rows))) (groups (narrowed marks v) (map (of_row (narrowed marks v)) (map (kept marks) rows)))
    ≡ map (line_with f v (map (of_row v) rows)) (groups v (map (of_row v) rows))
lines_same f marks v rows m h =
    map_same (line_with f (narrowed marks v) (map (of_row (narrowed marks v)) (map (kept marks) rows))) (line_with f v (map (of_row v) rows))
    (groups (narrowed marks v) (map (of_row (narrowed marks v)) (map (kept marks) rows))) (groups v (map (of_row v) rows))
    (λ g. line_same f marks v rows g m h) (groups_same marks v rows m h)

pub are_same : (n : ℕ) (marks : List Bool) (v : View) → length marks ≡ n → AreMarked marks v → AreSame n marks v (narrowed marks v)
are_same n marks v long m = record {
  same_keys = λ row h. items_same marks row v.keys (long ∙ sym h) m.keys_marked;
  same_number = long_map (narrowed_call marks) v.calls;
  same_arguments = λ row i h. arguments_same marks v row i (long ∙ sym h) m;
  same_answer = λ rows h. lines_same meaning marks v rows m (subst (λ k. Each (λ (row : List Value). length row ≡ k) rows) (sym long) h);
  same_tables = λ rows h. lines_same normal marks v rows m (subst (λ k. Each (λ (row : List Value). length row ≡ k) rows) (sym long) h);
}

-- rows with the columns of a plan alone, as the code has the plan
pub rows_same : (schema : Schema) (plan narrow : GroupPlan) (marks : List Bool) → PlanFits schema plan → marks ≡ marks_of (length schema.columns) (view_in plan) → view_in narrow ≡ narrowed marks (view_in plan)
    → AreSame (length schema.columns) marks (view_in plan) (view_in narrow)
rows_same schema plan narrow marks fits are is =
    subst (AreSame (length schema.columns) marks (view_in plan)) (sym is) (are_same (length schema.columns) marks (view_in plan) (marks_long schema plan marks are) (plan_marked schema plan marks fits are))

pub ruleset needed_laws = (arguments_low, keys_are_low, marks_long, plan_fits, rows_same)
