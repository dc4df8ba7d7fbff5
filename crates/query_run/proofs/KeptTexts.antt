-- The text of an answer over the kept columns is that over all columns.
use Rattle.std.proofs.Common.{◌≡◌, ℕ, Bool, true, List, [], ◌∷◌, ◌++◌, length, map, get_or, Result, Ok, Err, IfOk, refl, sym, ap, ap₂, subst, ◌∙◌, arith}
use Rattle.agg_defs.specs.Plans.{PlanFits, types_in, view_in}
use Rattle.agg_defs.specs.declared.plan.GroupPlan.{GroupPlan}
use Rattle.agg_defs.specs.declared.schema.Column.{Column}
use Rattle.agg_defs.specs.declared.schema.Schema.{Schema}
use Rattle.agg_meaning.specs.Results.{result}
use Rattle.agg_meaning.specs.Views.{Call, View, answer, of_row}
use Rattle.agg_terms.specs.Chains as terms
use Rattle.agg_terms.specs.Lists.{Each}
use Rattle.agg_terms.specs.Values as family
use Rattle.agg_typing.specs.Kinds.{is_number_or_text}
use Rattle.agg_typing.specs.Promises.{ResultIsLegal}
use Rattle.agg_typing.specs.Views.{IsCallOver, IsKeyOver, IsViewOver}
use Rattle.answer_texts.specs.Lines.{answer_text, with_results}
use Rattle.batch_reader.specs.Reading.{column_type}
use Rattle.group_tables.specs.Groupings.{IsReady, answer_types, view_of}
use Rattle.group_tables.specs.declared.grouping.Grouping.{Grouping}
use Rattle.needed_columns.specs.Columns.{narrowed, narrowed_call, place_in}
use Rattle.needed_columns.proofs.Kept.{IsMarked, kept_get, map_kept}
use Rattle.needed_columns.proofs.Narrow.{marks_long, plan_marked}
use Rattle.quick_rows.specs.Keeping.{kept}
use Rattle.request_text.specs.declared.query.Query.{Query}
use Rattle.scalar_texts.specs.States.{AllStates}
use Rattle.state_codec.specs.Codec.{IsLegalState, LegalTypesHaveStates, state_text}
use Rattle.value_lists.specs.declared.out_of_memory.OutOfMemory.{OutOfMemory}
use Rattle.value_types.specs.Folds.{ty_of, value_of}
use Rattle.value_types.specs.declared.ty.Ty.{Ty}
use Rattle.value_types.specs.declared.value.Value.{Value}
use Rattle.query_run.specs.Outcome.{answered}
use Rattle.query_run.specs.proving.Answering.{IsGroupingOf, IsNeeded, grouped}

-- Types.

pub types-in : (columns : List Column) → map ty_of (map column_type columns) ≡ map (λ (c : Column). ty_of c.ty) columns
types-in [] = refl
types-in (c ∷ columns) = ap (◌∷◌ (ty_of c.ty)) (types-in columns)

keys-same : (keep : List Bool) (types : List terms.Ty) (keys : List ℕ) → length keep ≡ length types → Each (IsMarked keep) keys
    → map (λ k. get_or (kept keep types) k terms.Str) (map (place_in keep) keys) ≡ map (λ k. get_or types k terms.Str) keys
keys-same keep types [] same h = refl
keys-same keep types (k ∷ keys) same h = ap₂ ◌∷◌ (kept_get keep types k terms.Str same h.0) (keys-same keep types keys same h.1)

results-same : (keep : List Bool) (calls : List Call) → map (λ (c : Call). result c.chain c.types) (map (narrowed_call keep) calls) ≡ map (λ (c : Call). result c.chain c.types) calls
results-same keep [] = refl
results-same keep (c ∷ calls) = ap (◌∷◌ (result c.chain c.types)) (results-same keep calls)

fields-same : (keep : List Bool) (types : List terms.Ty) (v : View) → length keep ≡ length types → Each (IsMarked keep) v.keys → answer_types (kept keep types) (narrowed keep v) ≡ answer_types types v
fields-same keep types v same h = ap₂ ◌++◌ (keys-same keep types v.keys same h) (results-same keep v.calls)

long-types : (columns : List Column) → length (map (λ (c : Column). ty_of c.ty) columns) ≡ length columns
long-types [] = refl
long-types (c ∷ columns) = omega (arith, long-types columns)

-- Rows.

kept-values : (keep : List Bool) (rows : List (List Value)) → map (map value_of) (map (kept keep) rows) ≡ map (kept keep) (map (map value_of) rows)
kept-values keep [] = refl
kept-values keep (r ∷ rows) = ap₂ ◌∷◌ (map_kept value_of keep r) (kept-values keep rows)

long-values : (xs : List Value) → length (map value_of xs) ≡ length xs
long-values [] = refl
long-values (x ∷ xs) = omega (arith, long-values xs)

long-rows : (n : ℕ) (rows : List (List Value)) → Each (λ (row : List Value). length row ≡ n) rows → Each (λ (row : List family.Value). length row ≡ n) (map (map value_of) rows)
long-rows n [] h = tt
long-rows n (r ∷ rows) h = (long-values r ∙ h.0, long-rows n rows h.1)

-- Fields of legal types are written.

each-map : {X Y : Type 0} (f : X → Y) (P : X → Type 0) (Q : Y → Type 0) → ((x : X) → P x → Q (f x)) → (xs : List X) → Each P xs → Each Q (map f xs)
each-map f P Q g [] h = tt
each-map f P Q g (x ∷ xs) h = (g x h.0, each-map f P Q g xs h.1)

each-both : {X : Type 0} (P : X → Type 0) (xs ys : List X) → Each P xs → Each P ys → Each P (xs ++ ys)
each-both P [] ys h g = g
each-both P (x ∷ xs) ys h g = (h.0, each-both P xs ys h.1 g)

key-written : (t : terms.Ty) → is_number_or_text t ≡ true → AllStates IsLegalState t
key-written terms.Str h = tt
key-written (terms.Whole n) h = tt
key-written (terms.Signed w) h = tt
key-written (terms.Nullable t) h = key-written t h
key-written (terms.Arr t) h = absurd cc
key-written (terms.MapTy k t) h = absurd cc
key-written (terms.StateOf c ts) h = absurd cc

pub all-written : ResultIsLegal → LegalTypesHaveStates → (types : List terms.Ty) (v : View) → IsViewOver types v → Each (AllStates IsLegalState) (answer_types types v)
all-written legal states types v fits =
    each-both (AllStates IsLegalState) (map (λ k. get_or types k terms.Str) v.keys) (map (λ (c : Call). result c.chain c.types) v.calls)
    (each-map (λ k. get_or types k terms.Str) (IsKeyOver types) (AllStates IsLegalState) (λ k h. key-written (get_or types k terms.Str) h.1) v.keys fits.keys)
    (each-map (λ (c : Call). result c.chain c.types) (IsCallOver types) (AllStates IsLegalState) (λ c h. states (result c.chain c.types) (legal c.chain c.types h.0)) v.calls fits.calls)

-- The grouping of what a query needs.

module _ (query : Query) (keep : List Bool) (schema : Schema) (plan : GroupPlan) (fits : PlanFits query.schema query.plan) (needed : IsNeeded query keep schema plan)
    (g : Grouping) (view-is : view_of g ≡ view_in plan) (types-is : g.types ≡ map column_type schema.columns) where
  many : length keep ≡ length query.schema.columns
  many = marks_long query.schema query.plan keep needed.marks

  kept-types : types_in schema ≡ kept keep (types_in query.schema)
  kept-types = ap types_in needed.schema_is ∙ map_kept (λ (c : Column). ty_of c.ty) keep query.schema.columns

  all-types : answer_types (map ty_of g.types) (view_of g) ≡ answer_types (types_in query.schema) (view_in query.plan)
  all-types =
      (λ i. answer_types (map ty_of (types-is i)) (view-is i)) ∙ (λ i. answer_types ((types-in schema.columns ∙ kept-types) i) (needed.plan_is i))
      ∙ fields-same keep (types_in query.schema) (view_in query.plan) (many ∙ sym (long-types query.schema.columns)) (plan_marked query.schema query.plan keep fits needed.marks).keys_marked

  all-lines : (rows : List (List Value)) → Each (λ (row : List Value). length row ≡ length query.schema.columns) rows
      → answer (view_of g) (map (of_row (view_of g)) (map (map value_of) (map (kept keep) rows))) ≡ answer (view_in query.plan) (map (of_row (view_in query.plan)) (map (map value_of) rows))
  all-lines rows long =
      (λ i. answer (view-is i) (map (of_row (view-is i)) (kept-values keep rows i))) ∙ needed.same.same_answer (map (map value_of) rows) (long-rows (length query.schema.columns) rows long)

  pub needed-answers : (rows : List (List Value)) → Each (λ (row : List Value). length row ≡ length query.schema.columns) rows → grouped g keep rows ≡ answered (types_in query.schema) (view_in query.plan) rows
  needed-answers rows long = λ i. answer_text state_text (all-types i) (map with_results (all-lines rows long i))

  pub grouping-of : ResultIsLegal → LegalTypesHaveStates → IsReady g → IsGroupingOf query keep g
  grouping-of legal states ready = record {
    many = many;
    ready = ready;
    types = types-is ∙ ap (λ (s : Schema). map column_type s.columns) needed.schema_is ∙ map_kept column_type keep query.schema.columns;
    answers = needed-answers;
    written = all-written legal states (map ty_of g.types) (view_of g) ready.fits;
  }

-- the answer of what makes a plan ready
pub grouping-if : ResultIsLegal → LegalTypesHaveStates → (query : Query) (keep : List Bool) (schema : Schema) (plan : GroupPlan) → PlanFits query.schema query.plan → IsNeeded query keep schema plan → (types : List Ty) → types ≡ map column_type schema.columns
    → (made : Result Grouping OutOfMemory) → IfOk made (λ g. view_of g ≡ view_in plan) → IfOk made (λ g. g.types ≡ types) → IfOk made IsReady → IfOk made (IsGroupingOf query keep)
grouping-if legal states query keep schema plan fits needed types types-are (Ok g) view-is types-is ready = grouping-of query keep schema plan fits needed g view-is (types-is ∙ types-are) legal states ready
grouping-if legal states query keep schema plan fits needed types types-are (Err fault) view-is types-is ready = tt

-- the plan fits the types that are copied
pub fits-types : (schema : Schema) (plan : GroupPlan) (types : List Ty) → PlanFits schema plan → types ≡ map column_type schema.columns → IsViewOver (map ty_of types) (view_in plan)
fits-types schema plan types fits is = subst (λ ts. IsViewOver ts (view_in plan)) (sym (ap (map ty_of) is ∙ types-in schema.columns)) fits
