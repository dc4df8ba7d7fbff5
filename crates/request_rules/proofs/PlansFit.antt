-- What a request that breaks no rule asks for agrees with its table.
use Rattle.std.proofs.Common.{◌≡◌, refl, sym, ap, subst, ◌∙◌, ℕ, suc, ◌+◌, ◌<◌, Bool, true, false, List, [], ◌∷◌, ◌++◌, length, get_or, map, Option, Some, None, Result, Ok, Err, IfOk, if◌then◌else◌, arith}
use Rattle.std.specs.Str.{bytes_eq}
use Rattle.agg_terms.specs.Chains.{Chain, Str, Ty}
use Rattle.agg_terms.specs.Lists.{Each}
use Rattle.agg_meaning.specs.Views as meaning
use Rattle.agg_typing.specs.Faults.{Fault}
use Rattle.agg_typing.specs.Faults as faults
use Rattle.agg_typing.specs.Kinds.{is_number_or_text}
use Rattle.agg_typing.specs.Legal.{are_legal_types}
use Rattle.agg_typing.specs.Promises.{AllowedIsLegal, IsLegalCall}
use Rattle.agg_typing.specs.Typing as typing
use Rattle.agg_typing.specs.Views.{IsCallOver, IsKeyOver}
use Rattle.agg_defs.specs.Plans.{PlanFits, call_in}
use Rattle.agg_defs.specs.declared.plan.Call as code_call
use Rattle.agg_defs.specs.declared.plan.GroupPlan.{GroupPlan}
use Rattle.agg_defs.specs.declared.schema.Column as code_column
use Rattle.agg_defs.specs.declared.schema.Schema.{Schema}
use Rattle.line_forms.specs.Letters.{Name}
use Rattle.line_forms.specs.Selects as written
use Rattle.pattern_texts.specs.Machine.{pattern_reader}
use Rattle.pattern_texts.proofs.Law.{reader_gives}
use Rattle.refusals.specs.declared.why.Why.{Why}
use Rattle.request_rules.specs.Answers.{Says}
use Rattle.request_rules.specs.Selects.{PlacedCall, Named, Plan, all_known, call_numbered, is_new_key, is_of_key_type, judged_call, judged_calls, judged_key, judged_keys, judged_select, known, known_or, named_from, places_of, resolved_call, named_types, within_limits}
use Rattle.request_rules.specs.Tables.{AreLegal, Column}
use Rattle.request_rules.specs.Turns.{and_then, at_part, check, in_turn}
use Rattle.request_rules.specs.Views.{call_of, column_of, plan_of, schema_of}
use Rattle.request_rules.specs.declared.refusal.Refusal.{Refusal}
use Rattle.request_rules.proofs.AllJudged.{past, same_value}
use Rattle.request_rules.proofs.KnownTypes.{known_legal}
use Rattle.value_types.specs.Folds.{ty_of}

-- ---- rules that were met

-- what was read before a rule that was met
reached : {X Y : Type 0} (r : Result X Why) (next : X → Result Y Why) (y : Y) → and_then r next ≡ Ok y → (x : X) × (r ≡ Ok x) × (next x ≡ Ok y)
reached (Ok x) next y e = (x, refl, e)
reached (Err why) next y e = absurd cc

-- a test that was passed
tested : {X : Type 0} (b : Bool) (why : Why) (next : Result X Why) (x : X) → and_then (check b why) (λ (_ : Unit {0}). next) ≡ Ok x → b ≡ true
tested true why next x e = refl
tested false why next x e = absurd cc

each_push : {X : Type 0} (P : X → Type 0) (xs : List X) (x : X) → Each P xs → P x → Each P (xs ++ x ∷ [])
each_push P [] x h g = (g, tt)
each_push P (y ∷ ys) x h g = (h.0, each_push P ys x h.1 g)

-- what each part gives, all of them give
module _ {A X : Type 0} (judge : List X → A → Result X Why) (P : X → Type 0) (gives : (before : List X) (part : A) (x : X) → judge before part ≡ Ok x → P x) where
  next : (r : Result X Why) (before : List X) (parts : List A) (all : List X) → ((x : X) → r ≡ Ok x → P x) →
      ((x : X) → P x → in_turn judge (before ++ x ∷ []) parts ≡ Ok all → Each P all) →
      and_then r (λ (x : X). in_turn judge (before ++ x ∷ []) parts) ≡ Ok all → Each P all
  next (Ok x) before parts all h more e = more x (h x refl) e
  next (Err why) before parts all h more e = absurd cc

  each_judged : (parts : List A) (before all : List X) → Each P before → in_turn judge before parts ≡ Ok all → Each P all
  each_judged [] before all here e = subst (Each P) (same_value before all e) here
  each_judged (part ∷ parts) before all here e =
      next (judge before part) before parts all (λ x. gives before part x)
      (λ x g. each_judged parts (before ++ x ∷ []) all (each_push P before x here g)) e

-- ---- names

-- the types of columns
abbrev types : List Column → List Ty
types columns = map (λ (c : Column). c.ty) columns

-- a column that is there, with its type; the same counted from a place on
abbrev StandsIn : List Ty → Named → Type 0
StandsIn ts n = (n.place < length ts) × (n.ty ≡ get_or ts n.place Str)

abbrev StandsFrom : ℕ → List Ty → Named → Type 0
StandsFrom place ts n = (i : ℕ) × (n.place ≡ place + i) × (i < length ts) × (n.ty ≡ get_or ts i Str)

same_named : (a b : Named) → Some a ≡ Some b → a ≡ b
same_named a b e = cc

later_found : (place : ℕ) (ty : Ty) (ts : List Ty) (n : Named) → StandsFrom (suc place) ts n → StandsFrom place (ty ∷ ts) n
later_found place ty ts n h = (suc h.0, let e = h.1 in omega (arith, e), let l = h.2 in omega (arith, l), h.3)

found : (is : Bool) (place : ℕ) (ty : Ty) (ts : List Ty) (later : Option Named) (n : Named) → (later ≡ Some n → StandsFrom (suc place) ts n) →
    (if is then Some (record { place = place; ty = ty }) else later) ≡ Some n → StandsFrom place (ty ∷ ts) n
found true place ty ts later n more e =
    let here : Named = record { place = place; ty = ty } in
    subst (StandsFrom place (ty ∷ ts)) (same_named here n e) (0, omega arith, omega arith, refl)
found false place ty ts later n more e = later_found place ty ts n (more e)

named_there : (place : ℕ) (columns : List Column) (name : List ℕ) (n : Named) → named_from place columns name ≡ Some n → StandsFrom place (types columns) n
named_there place [] name n e = absurd cc
named_there place (c ∷ cs) name n e =
    found (bytes_eq c.name name) place c.ty (types cs) (named_from (suc place) cs name) n (named_there (suc place) cs name n) e

from_first : (ts : List Ty) (n : Named) → StandsFrom 0 ts n → StandsIn ts n
from_first ts n h =
    let e : h.0 ≡ n.place = let e = h.1 in omega (arith, e) in
    subst (λ i. (i < length ts) × (n.ty ≡ get_or ts i Str)) e (h.2, h.3)

or_there : (ts : List Ty) (r : Option Named) (why : Why) (n : Named) → ((m : Named) → r ≡ Some m → StandsIn ts m) → known_or r why ≡ Ok n → StandsIn ts n
or_there ts (Some m) why n h e = subst (StandsIn ts) (same_value m n e) (h m refl)
or_there ts None why n h e = absurd cc

known_there : (columns : List Column) (name : Name) (n : Named) → known columns name ≡ Ok n → StandsIn (types columns) n
known_there columns name n e =
    or_there (types columns) (named_from 0 columns name.name) (Why.UnknownColumn name.at) n
    (λ m is. from_first (types columns) m (named_there 0 columns name.name m is)) e

all_there : (columns : List Column) (names : List Name) (all : List Named) → all_known columns names ≡ Ok all → Each (StandsIn (types columns)) all
all_there columns names all e =
    each_judged (λ (_ : List Named). known columns) (StandsIn (types columns)) (λ before name n is. known_there columns name n is) names [] all tt e

places_there : (ts : List Ty) (all : List Named) → Each (StandsIn ts) all → Each (λ i. i < length ts) (places_of all)
places_there ts [] h = tt
places_there ts (n ∷ all) h = (h.0.0, places_there ts all h.1)

types_there : (ts : List Ty) (all : List Named) → Each (StandsIn ts) all → named_types all ≡ map (λ i. get_or ts i Str) (places_of all)
types_there ts [] h = refl
types_there ts (n ∷ all) h = ap (λ t. t ∷ named_types all) h.0.1 ∙ ap (λ l. get_or ts n.place Str ∷ l) (types_there ts all h.1)

-- ---- calls

-- a call as views have it
abbrev seen : PlacedCall → meaning.Call
seen c = record { chain = c.typed.chain; types = c.typed.args; columns = c.columns }

part_met : {X : Type 0} (number : ℕ) (r : Result X Fault) (x : X) → at_part number r ≡ Ok x → r ≡ Ok x
part_met number (Ok y) x e = ap (λ z. Ok z) (same_value y x e)
part_met number (Err f) x e = absurd cc

same_met : {X : Type 0} (a b : X) (r : Result X Fault) → r ≡ Ok a → r ≡ Ok b → a ≡ b
same_met a b r e f = cc

resolved_is : (r : Result Chain Fault) (args : List Ty) (t : typing.TypedCall) → faults.and_then r (λ (c : Chain). Ok (typing.call_of c args)) ≡ Ok t →
    (c : Chain) × (r ≡ Ok c) × (typing.call_of c args ≡ t)
resolved_is (Ok c) args t e = (c, refl, same_met (typing.call_of c args) t (Ok t) (sym e) refl)
resolved_is (Err f) args t e = absurd cc

-- a chain that breaks no rule over legal types
resolved_legal : AllowedIsLegal → (number : ℕ) (call : written.SelectCall) (args : List Named) (t : typing.TypedCall) → are_legal_types (named_types args) ≡ true → resolved_call number call args ≡ Ok t →
    IsLegalCall t.chain t.args × (t.args ≡ named_types args)
resolved_legal law number call args t legal e =
    let is = resolved_is (typing.allowed pattern_reader call.name call.params (named_types args)) (named_types args) t
    (part_met number (typing.resolved pattern_reader call.name call.params (named_types args)) t e) in
    subst (λ (u : typing.TypedCall). IsLegalCall u.chain u.args × (u.args ≡ named_types args)) is.2
    ((law pattern_reader reader_gives call.name call.params (named_types args) is.0 is.1, legal), refl)

call_fits : AllowedIsLegal → (columns : List Column) → AreLegal columns → (number : ℕ) (call : written.SelectCall) (c : PlacedCall) → call_numbered number columns call ≡ Ok c → IsCallOver (types columns) (seen c)
call_fits law columns legal number call c e =
    let all = reached (all_known columns call.arguments) _ c e in
    let chain = reached (resolved_call number call all.0) _ c all.2 in
    let there = all_there columns call.arguments all.0 all.1 in
    let is = resolved_legal law number call all.0 chain.0 (known_legal columns call.arguments all.0 legal all.1) chain.1 in
    let made : PlacedCall = record { typed = chain.0; columns = places_of all.0 } in
    subst (λ (x : PlacedCall). IsCallOver (types columns) (seen x)) (same_value made c chain.2)
    (is.0, places_there (types columns) all.0 there, is.1 ∙ types_there (types columns) all.0 there)

-- ---- keys

key_fits : (columns : List Column) (before : List ℕ) (key : Name) (place : ℕ) → judged_key columns before key ≡ Ok place → IsKeyOver (types columns) place
key_fits columns before key place e =
    let column = reached (known columns key) _ place e in
    let there = known_there columns key column.0 column.1 in
    let new = past (is_new_key before column.0.place key.at) _ place column.2 in
    let kind = tested (is_number_or_text column.0.ty) (Why.KeyType key.at) _ place new in
    let same : column.0.place ≡ place = same_value column.0.place place (past (is_of_key_type column.0.ty key.at) _ place new) in
    subst (IsKeyOver (types columns)) same (there.0, ap is_number_or_text (sym there.1) ∙ kind)

-- ---- requests

select_fits : AllowedIsLegal → (columns : List Column) → AreLegal columns → (select : written.Select) (p : Plan) → judged_select columns select ≡ Ok p →
    Each (λ c. IsCallOver (types columns) (seen c)) p.calls × Each (IsKeyOver (types columns)) p.keys
select_fits law columns legal select p e =
    let calls = reached (judged_calls columns select.calls) _ p (past (within_limits select) _ p e) in
    let keys = reached (judged_keys columns select.keys) _ p calls.2 in
    let made : Plan = record { calls = calls.0; keys = keys.0 } in
    subst (λ (x : Plan). Each (λ c. IsCallOver (types columns) (seen c)) x.calls × Each (IsKeyOver (types columns)) x.keys) (same_value made p keys.2) (
      each_judged (judged_call columns) (λ c. IsCallOver (types columns) (seen c)) (λ before call c. call_fits law columns legal (suc (length before)) call c) select.calls [] calls.0 tt calls.1,
      each_judged (judged_key columns) (IsKeyOver (types columns)) (key_fits columns) select.keys [] keys.0 tt keys.1,
    )

-- ---- plans of the code

same_types : (cs : List code_column.Column) → types (map column_of cs) ≡ map (λ (c : code_column.Column). ty_of c.ty) cs
same_types [] = refl
same_types (c ∷ cs) = ap (λ ts. ty_of c.ty ∷ ts) (same_types cs)

calls_fit : (ts : List Ty) (cs : List code_call.Call) → Each (λ c. IsCallOver ts (seen c)) (map call_of cs) → Each (IsCallOver ts) (map call_in cs)
calls_fit ts [] h = tt
calls_fit ts (c ∷ cs) h = (h.0, calls_fit ts cs h.1)

plan_fits : AllowedIsLegal → (schema : Schema) → AreLegal (schema_of schema) → (select : written.Select) (plan : GroupPlan) → judged_select (schema_of schema) select ≡ Ok (plan_of plan) → PlanFits schema plan
plan_fits law schema legal select plan e =
    let h = select_fits law (schema_of schema) legal select (plan_of plan) e in
    let same = same_types schema.columns in
    record {
      calls = subst (λ ts. Each (IsCallOver ts) (map call_in plan.calls)) same (calls_fit (types (schema_of schema)) plan.calls h.0);
      keys = subst (λ ts. Each (IsKeyOver ts) plan.keys) same h.1;
    }

pub answer_fits : AllowedIsLegal → (schema : Schema) → AreLegal (schema_of schema) → (select : written.Select) (answer : Result GroupPlan Refusal) →
    Says plan_of answer (judged_select (schema_of schema) select) → IfOk answer (PlanFits schema)
answer_fits law schema legal select (Ok plan) e = plan_fits law schema legal select plan e
answer_fits law schema legal select (Err refusal) e = tt
