-- A short line spells few things of each kind.
use Rattle.std.proofs.Common.{◌≡◌, sym, ap, ℕ, suc, ◌≤◌, ◌<◌, ◌-◌, ◌^◌, List, [], ◌∷◌, length, map, codes, Option, Some, None, arith}
use Rattle.std.proofs.lemmas.List.{length-map, length-append}
use Rattle.agg_typing.specs.Literals.{Literal}
use Rattle.line_forms.specs.Answers.{SpellsTable, SpellsSelect}
use Rattle.line_forms.specs.Letters.{EachPair, Letter, Sign, Leads, divided, in_brackets, letters_of, more_parts, name_sign, sign}
use Rattle.line_forms.specs.Selects.{SelectCall, CallText, IsCallOf, Params, no_params, params, AreParams, Select, call_signs, group_signs, names_signs, params_signs, select_signs}
use Rattle.line_forms.specs.Tables.{Column, ColumnText, AreColumns, IsShapeOf, IsTable, column_signs}
use Rattle.line_tokens.specs.Tokens.{Placed, close_bracket, tokens_of, word}
use Rattle.request_rules.specs.Selects.{AreFewCalls, IsFewCall}
use Rattle.request_rules.specs.Tables.{AreCountableShapes, IsCountableShape}
use Rattle.shape_types.proofs.ShortTexts.{countable, few_tokens, one_each}
use Rattle.type_names.specs.Syntax.{tokens_in}
use Rattle.type_names.specs.TypeTexts.{WrittenType as TypeText}
use Rattle.type_names.specs.TypeTexts as type_texts
use Rattle.type_shapes.specs.Shapes.{Shape}

as_long : (signs : List Sign) (letters : List Letter) → Leads signs letters [] → length signs ≡ length letters
as_long [] letters h = sym (ap length h)
as_long (s ∷ signs) [] h = absurd h
as_long (s ∷ signs) (l ∷ letters) h = ap suc (as_long signs letters h.2)

few_letters : (line : List ℕ) → length (letters_of line) ≤ length line
few_letters line =
    let few = few_tokens line in
    let here : length (letters_of line) ≡ length (tokens_of line) = length-map (tokens_of line) (λ (t : Placed). (t.0, length line - t.1)) in
    let there : length (tokens_in line) ≡ length (tokens_of line) = length-map (tokens_of line) (λ (t : Placed). t.0) in
    omega (arith, few, here, there)

-- the signs of a short line are few
pub few_signs : (line : List ℕ) (signs : List Sign) → length line < 2 ^ 32 → Leads signs (letters_of line) [] → length signs < 2 ^ 32
few_signs line signs few h =
    let same = as_long signs (letters_of line) h in
    let all = few_letters line in
    omega (arith, few, same, all)

-- Tables.

shape_countable : (w : TypeText) (s : Option Shape) → IsShapeOf w s → length (type_texts.tokens_of w) < 2 ^ 32 → IsCountableShape s
shape_countable w None h few = tt
shape_countable w (Some s) h few = countable w s h.0 few

column_countable : (t : ColumnText) (c : Column) → IsShapeOf t.ty c.shape → length (column_signs t) < 2 ^ 32 → IsCountableShape c.shape
column_countable t c h few =
    let own : length (map sign (type_texts.tokens_of t.ty)) ≡ length (type_texts.tokens_of t.ty) = length-map (type_texts.tokens_of t.ty) sign in
    shape_countable t.ty c.shape h (omega (arith, few, own))

more_countable : (ts : List ColumnText) (cs : List Column) → AreColumns ts cs → length (more_parts (map column_signs ts)) < 2 ^ 32 → AreCountableShapes cs
more_countable [] [] h few = tt
more_countable (t ∷ ts) (c ∷ cs) h few =
    let both = length-append (column_signs t) (more_parts (map column_signs ts)) in
    (column_countable t c h.0.1 (omega (arith, few, both)), more_countable ts cs h.1 (omega (arith, few, both)))
more_countable [] (c ∷ cs) h few = absurd h
more_countable (t ∷ ts) [] h few = absurd h

texts_countable : (line : List ℕ) (ts : List ColumnText) (cs : List Column) → length line < 2 ^ 32 → IsTable (letters_of line) ts → AreColumns ts cs → AreCountableShapes cs
texts_countable line [] cs few is h = absurd is
texts_countable line (t ∷ ts) [] few is h = absurd h
texts_countable line (t ∷ ts) (c ∷ cs) few is h =
    let signs : List Sign = sign (word (codes "TABLE")) ∷ divided (map column_signs (t ∷ ts)) in
    let short = few_signs line signs few is.1 in
    let both = length-append (column_signs t) (more_parts (map column_signs ts)) in
    (column_countable t c h.0.1 (omega (arith, short, both)), more_countable ts cs h.1 (omega (arith, short, both)))

pub table_countable : (line : List ℕ) (cs : List Column) → length line < 2 ^ 32 → SpellsTable line cs → AreCountableShapes cs
table_countable line cs few h = texts_countable line h.0 cs few h.1 h.2

-- Requests.

-- one sign a part
long_more : {T : Type 0} (mark : T → Sign) (ts : List T) → length ts ≤ length (more_parts (map (λ t. mark t ∷ []) ts))
long_more mark [] = omega arith
long_more mark (t ∷ ts) = let h = long_more mark ts in omega (arith, h)

long_divided : {T : Type 0} (mark : T → Sign) (ts : List T) → length ts ≤ length (divided (map (λ t. mark t ∷ []) ts))
long_divided mark [] = omega arith
long_divided mark (t ∷ ts) = let h = long_more mark ts in omega (arith, h)

long_brackets : {T : Type 0} (mark : T → Sign) (ts : List T) → length ts ≤ length (in_brackets (divided (map (λ t. mark t ∷ []) ts)))
long_brackets mark ts =
    let h = long_divided mark ts in
    let both = length-append (divided (map (λ t. mark t ∷ []) ts)) (sign close_bracket ∷ []) in
    omega (arith, h, both)

long_params : (p : Params) (ls : List Literal) → AreParams p ls → length ls ≤ length (params_signs p)
long_params no_params ls h = let e : length ls ≡ 0 = ap length h in omega (arith, e)
long_params (params ts) ls h =
    let e = one_each ts ls h in
    let l = long_brackets sign ts in
    omega (arith, e, l)

few_call : (t : CallText) (c : SelectCall) → IsCallOf t c → length (call_signs t) < 2 ^ 32 → IsFewCall c
few_call t c h few =
    let params = long_params t.parameters c.params h.1 in
    let names = long_brackets name_sign t.arguments in
    let as_many : length c.arguments ≡ length t.arguments = ap length h.2 in
    let both = length-append (params_signs t.parameters) (in_brackets (names_signs t.arguments)) in
    (omega (arith, few, params, both), omega (arith, few, names, as_many, both))

more_few : (ts : List CallText) (cs : List SelectCall) → EachPair IsCallOf ts cs → length (more_parts (map call_signs ts)) < 2 ^ 32 → AreFewCalls cs
more_few [] [] h few = tt
more_few (t ∷ ts) (c ∷ cs) h few =
    let both = length-append (call_signs t) (more_parts (map call_signs ts)) in
    (few_call t c h.0 (omega (arith, few, both)), more_few ts cs h.1 (omega (arith, few, both)))
more_few [] (c ∷ cs) h few = absurd h
more_few (t ∷ ts) [] h few = absurd h

pub calls_few : (ts : List CallText) (cs : List SelectCall) → EachPair IsCallOf ts cs → length (divided (map call_signs ts)) < 2 ^ 32 → AreFewCalls cs
calls_few [] [] h few = tt
calls_few (t ∷ ts) (c ∷ cs) h few =
    let both = length-append (call_signs t) (more_parts (map call_signs ts)) in
    (few_call t c h.0 (omega (arith, few, both)), more_few ts cs h.1 (omega (arith, few, both)))
calls_few [] (c ∷ cs) h few = absurd h
calls_few (t ∷ ts) [] h few = absurd h

pub select_few : (line : List ℕ) (q : Select) → length line < 2 ^ 32 → SpellsSelect line q → AreFewCalls q.calls
select_few line q few h =
    let short = few_signs line (select_signs h.0) few h.1.1 in
    let both = length-append (divided (map call_signs h.0.calls)) (group_signs h.0.keys) in
    calls_few h.0.calls q.calls h.2.0 (omega (arith, short, both))
