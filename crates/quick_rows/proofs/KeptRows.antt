-- A row of which some fields are taken and the others walked.
use Rattle.std.proofs.Common.{◌≡◌, add-one, ℕ, suc, zero, ◌+◌, ◌≤◌, ◌<◌, Bool, true, false, List, [], ◌∷◌, ◌++◌, length, map, get_or, set, drop, inl, inr, ap, sym, subst, ◌∙◌, refl, arith}
use Rattle.std.specs.Prelude.{Ok}
use Rattle.std.proofs.lemmas.List.{append_assoc, append-nil, length_push}
use Rattle.value_types.specs.declared.ty.Ty.{Ty}
use Rattle.value_types.specs.declared.value.Value.{Value}
use Rattle.tsv_text.specs.Lines.{fields_of}
use Rattle.typed_columns.specs.TypedValues.{TypedValues}
use Rattle.typed_columns.specs.Growth.{trim, Fits}
use Rattle.columns.specs.Rows.{AreLong, RowFits, pushed}
use Rattle.columns.proofs.Rows.{length_pushed, pushed_none, trimmed}
use Rattle.scalar_texts.specs.States.{ReadsStates}
use Rattle.quick_rows.specs.Taking.{IsFront, SaysBy}
use Rattle.quick_rows.specs.Keeping.{AreSaidBy, AreSteps, IsState, IsStep, kept}
use Rattle.quick_rows.specs.proving.Walking.{FillsKept, IsStepped, TakesBy}
use Rattle.quick_rows.specs.declared.walk.Step.{Step}
use Rattle.quick_rows.specs.declared.walk.Step.TheVariants as step
use Rattle.value_types.specs.declared.ty.Ty.TheVariants as ty
use Rattle.quick_rows.proofs.Walks.{step_at, steps_long}
use Rattle.quick_rows.proofs.Fronts.{field_alone, field_then_tab}
use Rattle.quick_rows.proofs.RowLaws.{pushed_here, pushed_push}

kept_none : (keep : List Bool) → kept {A = Value} keep [] ≡ []
kept_none [] = refl
kept_none (k ∷ keep) = refl

-- what a mark keeps of one value more
pub kept_yes : (keep : List Bool) (row : List Value) (v : Value) (e : Bool) → length row < length keep → get_or keep (length row) e ≡ true → kept keep (row ++ v ∷ []) ≡ kept keep row ++ v ∷ []
kept_yes [] row v e h is = absurd (omega arith)
kept_yes (true ∷ keep) [] v e h is = ap (λ (more : List Value). v ∷ more) (kept_none keep)
kept_yes (false ∷ keep) [] v e h is = cc
kept_yes (true ∷ keep) (w ∷ row) v e h is = ap (λ (more : List Value). w ∷ more) (kept_yes keep row v e (omega arith) is)
kept_yes (false ∷ keep) (w ∷ row) v e h is = kept_yes keep row v e (omega arith) is

pub kept_no : (keep : List Bool) (row : List Value) (v : Value) (e : Bool) → length row < length keep → get_or keep (length row) e ≡ false → kept keep (row ++ v ∷ []) ≡ kept keep row
kept_no [] row v e h is = absurd (omega arith)
kept_no (true ∷ keep) [] v e h is = cc
kept_no (false ∷ keep) [] v e h is = kept_none keep
kept_no (true ∷ keep) (w ∷ row) v e h is = ap (λ (more : List Value). w ∷ more) (kept_no keep row v e (omega arith) is)
kept_no (false ∷ keep) (w ∷ row) v e h is = kept_no keep row v e (omega arith) is

-- the kept type at a place that is kept
pub kept_at : (keep : List Bool) (types : List Ty) (row : List Value) (e : Bool) → length keep ≡ length types → length row < length types → get_or keep (length row) e ≡ true
    → (t : Ty) → (length (kept keep row) < length (kept keep types)) × (get_or (kept keep types) (length (kept keep row)) t ≡ get_or types (length row) t)
kept_at [] [] row e same h is t = absurd (omega arith)
kept_at [] (u ∷ types) row e same h is t = absurd (omega arith)
kept_at (k ∷ keep) [] row e same h is t = absurd (omega arith)
kept_at (true ∷ keep) (u ∷ types) [] e same h is t = (omega arith, refl)
kept_at (false ∷ keep) (u ∷ types) [] e same h is t = cc
kept_at (true ∷ keep) (u ∷ types) (w ∷ row) e same h is t = let more = kept_at keep types row e (omega arith) (omega arith) is t in (omega (arith, more.0), more.1)
kept_at (false ∷ keep) (u ∷ types) (w ∷ row) e same h is t = kept_at keep types row e (omega arith) (omega arith) is t

abbrev IsKept : ReadsStates → List Ty → List (List ℕ) → List Value → Type 0
IsKept reads types fields row = RowFits types row × AreSaidBy reads types fields row

-- the first i fields are values, the kept ones of them stand in their columns, and with values of the fields that are left they are a row of the line
pub record FilledKept (reads : ReadsStates) (types : List Ty) (keep : List Bool) (columns now : List TypedValues) (line : List ℕ) (i at : ℕ) (left : List (List ℕ)) : Type 0 where
  pub row : List Value
  pub count : length row ≡ i
  pub places : at ≡ length (kept keep row)
  pub stand : now ≡ pushed columns (kept keep row)
  pub rest : (tail : List Value) → IsKept reads (drop i types) left tail → IsKept reads types (fields_of line) (row ++ tail)

pub filled_none : (reads : ReadsStates) (types : List Ty) (keep : List Bool) (columns : List TypedValues) (line : List ℕ) → FilledKept reads types keep columns columns line 0 0 (fields_of line)
filled_none reads types keep columns line = record {
  row = [];
  count = refl;
  places = ap length (sym (kept_none keep));
  stand = sym (ap (pushed columns) (kept_none keep) ∙ pushed_none columns);
  rest = λ tail h. h;
}

type_here : (ts : List Ty) (i : ℕ) (t : Ty) → i < length ts → t ≡ get_or ts i t → drop i ts ≡ t ∷ drop (suc i) ts
type_here [] i t h at = absurd (omega arith)
type_here (u ∷ ts) zero t h at = ap (λ x. x ∷ ts) (sym at)
type_here (u ∷ ts) (suc i) t h at = type_here ts i t (omega arith) at

-- one value more of the line's row
rest_more : (reads : ReadsStates) (types : List Ty) (line : List ℕ) (i : ℕ) (row : List Value) (left after : List (List ℕ)) (field : List ℕ) (t : Ty) (v : Value)
    → ((tail : List Value) → IsKept reads (drop i types) left tail → IsKept reads types (fields_of line) (row ++ tail))
    → left ≡ field ∷ after → i < length types → t ≡ get_or types i t → Fits t v → SaysBy reads t field v
    → (tail : List Value) → IsKept reads (drop (i + 1) types) after tail → IsKept reads types (fields_of line) ((row ++ v ∷ []) ++ tail)
rest_more reads types line i row left after field t v rest split h at fits said tail g =
    subst (IsKept reads types (fields_of line)) (sym (append_assoc row (v ∷ []) tail))
    (rest (v ∷ tail) (
      subst (λ ts. RowFits ts (v ∷ tail)) (sym (type_here types i t h at)) (fits, subst (λ n. RowFits (drop n types) tail) (add-one i) g.0),
      subst (λ fs. AreSaidBy reads (drop i types) fs (v ∷ tail)) (sym split)
          (subst (λ ts. AreSaidBy reads ts (field ∷ after) (v ∷ tail)) (sym (type_here types i t h at))
          (said, subst (λ n. AreSaidBy reads (drop n types) after tail) (add-one i) g.1)),
    ))

type_of_column : (cs : List TypedValues) (i : ℕ) (e : TypedValues) → i < length cs → e ≡ get_or cs i e → e.ty ≡ get_or (map (λ c. c.ty) cs) i e.ty
type_of_column [] i e h at = absurd (omega arith)
type_of_column (d ∷ cs) zero e h at = ap (λ c. c.ty) at
type_of_column (d ∷ cs) (suc i) e h at = type_of_column cs i e (omega arith) at

long_map : (cs : List TypedValues) → length (map (λ c. c.ty) cs) ≡ length cs
long_map [] = refl
long_map (c ∷ cs) = omega (arith, long_map cs)

-- a column is there for a field that is kept
pub place_within : (reads : ReadsStates) (types : List Ty) (keep : List Bool) (columns now : List TypedValues) (line : List ℕ) (i at : ℕ) (left : List (List ℕ)) (b : Bool) (t : Ty) → FilledKept reads types keep columns now line i at left
    → length keep ≡ length types → map (λ c. c.ty) columns ≡ kept keep types → i < length types → get_or keep i b ≡ true → at < length columns
place_within reads types keep columns now line i at left b t f same of h marked =
    let here = kept_at keep types f.row b same (omega (arith, f.count)) (ap (λ n. get_or keep n b) f.count ∙ marked) t in
    omega (arith, here.0, f.places, ap length of, long_map columns)

pub column_within : (reads : ReadsStates) (types : List Ty) (keep : List Bool) (columns now : List TypedValues) (line : List ℕ) (i at : ℕ) (left : List (List ℕ)) (b : Bool) (t : Ty) → FilledKept reads types keep columns now line i at left
    → length keep ≡ length types → map (λ c. c.ty) columns ≡ kept keep types → i < length types → get_or keep i b ≡ true → at < length now
column_within reads types keep columns now line i at left b t f same of h marked =
    omega (arith, place_within reads types keep columns now line i at left b t f same of h marked, ap length f.stand, length_pushed columns (kept keep f.row))

-- what a column was before, and its type
column_before : (reads : ReadsStates) (types : List Ty) (keep : List Bool) (columns now : List TypedValues) (line : List ℕ) (i at : ℕ) (left : List (List ℕ)) (e : TypedValues) → FilledKept reads types keep columns now line i at left
    → e ≡ get_or now at e → e ≡ get_or columns at e
column_before reads types keep columns now line i at left e f here = here ∙ ap (λ xs. get_or xs at e) f.stand ∙ pushed_here columns (kept keep f.row) at e (sym f.places)

pub type_kept : (reads : ReadsStates) (types : List Ty) (keep : List Bool) (columns now : List TypedValues) (line : List ℕ) (i at : ℕ) (left : List (List ℕ)) (b : Bool) (e : TypedValues) →
    FilledKept reads types keep columns now line i at left → length keep ≡ length types → map (λ c. c.ty) columns ≡ kept keep types → i < length types → get_or keep i b ≡ true → e ≡ get_or now at e →
    e.ty ≡ get_or types i e.ty
type_kept reads types keep columns now line i at left b e f same of h marked here =
    let marked_row = ap (λ n. get_or keep n b) f.count ∙ marked in
    let within = place_within reads types keep columns now line i at left b e.ty f same of h marked in
    type_of_column columns at e within (column_before reads types keep columns now line i at left e f here) ∙ ap (λ ts. get_or ts at e.ty) of ∙ ap (λ n. get_or (kept keep types) n e.ty) f.places
    ∙ (kept_at keep types f.row b same (omega (arith, f.count)) marked_row e.ty).1 ∙ ap (λ n. get_or types n e.ty) f.count

-- a value at a place within, whatever stands for those beyond
pub get_within : (ts : List Ty) (i : ℕ) (t u : Ty) → i < length ts → get_or ts i t ≡ get_or ts i u
get_within [] i t u h = absurd (omega arith)
get_within (v ∷ ts) zero t u h = refl
get_within (v ∷ ts) (suc i) t u h = get_within ts i t u (omega arith)

pub filled_kept : (reads : ReadsStates) (types : List Ty) (keep : List Bool) (columns now : List TypedValues) (line : List ℕ) (i at : ℕ) (left after : List (List ℕ)) (field : List ℕ) (b : Bool) (e c : TypedValues) →
    FilledKept reads types keep columns now line i at left → length keep ≡ length types → map (λ c. c.ty) columns ≡ kept keep types → left ≡ field ∷ after →
    i < length types → get_or keep i b ≡ true → e ≡ get_or now at e → TakesBy reads e field c (Ok true) → FilledKept reads types keep columns (set now at c) line (i + 1) (at + 1) after
filled_kept reads types keep columns now line i at left after field b e c f same of split h marked taken_at taken =
    let v = taken.0 in
    let marked_row = ap (λ n. get_or keep n b) f.count ∙ marked in
    let grown = kept_yes keep f.row v b (omega (arith, f.count, same)) marked_row in
    let within = place_within reads types keep columns now line i at left b e.ty f same of h marked in
    let old = column_before reads types keep columns now line i at left e f taken_at in
    let ty_is = type_kept reads types keep columns now line i at left b e f same of h marked taken_at in
    record {
      row = f.row ++ v ∷ [];
      count = length_push f.row v ∙ ap (λ n. n + 1) f.count;
      places = omega (arith, f.places, ap length grown, length_push (kept keep f.row) v);
      stand = ap (λ xs. set xs at c) f.stand ∙ pushed_push columns (kept keep f.row) at c e v (sym f.places) within old taken.3 ∙ ap (pushed columns) (sym grown);
      rest = rest_more reads types line i f.row left after field e.ty v f.rest split h ty_is taken.1 taken.2;
    }

pub filled_walked : (reads : ReadsStates) (types : List Ty) (keep : List Bool) (columns now : List TypedValues) (line : List ℕ) (i at : ℕ) (left after : List (List ℕ)) (field : List ℕ) (b : Bool) (t : Ty) (v : Value) →
    FilledKept reads types keep columns now line i at left → length keep ≡ length types → left ≡ field ∷ after →
    i < length types → get_or keep i b ≡ false → t ≡ get_or types i t → Fits t v → SaysBy reads t field v → FilledKept reads types keep columns now line (i + 1) at after
filled_walked reads types keep columns now line i at left after field b t v f same split h marked ty_is fits said =
    let left_out = kept_no keep f.row v b (omega (arith, f.count, same)) (ap (λ n. get_or keep n b) f.count ∙ marked) in
    record {
      row = f.row ++ v ∷ [];
      count = length_push f.row v ∙ ap (λ n. n + 1) f.count;
      places = f.places ∙ ap length (sym left_out);
      stand = f.stand ∙ ap (pushed columns) (sym left_out);
      rest = rest_more reads types line i f.row left after field t v f.rest split h ty_is fits said;
    }

-- by the steps of the columns
pub mark_of : (types : List Ty) (keep : List Bool) (steps : List Step) (i : ℕ) (b : Bool) (s : Step) → AreSteps types keep steps → i < length types → get_or steps i s ≡ step.Keep → get_or keep i b ≡ true
mark_of types keep steps i b s are h is = subst (λ p. IsStep (get_or types i ty.Str) (get_or keep i b) p) is (step_at types keep steps i ty.Str b s are h)

pub state_of : (types : List Ty) (keep : List Bool) (steps : List Step) (i : ℕ) (t : Ty) (b : Bool) (s : Step) → AreSteps types keep steps → i < length types → t ≡ get_or types i t → get_or steps i s ≡ step.State → IsState t
state_of types keep steps i t b s are h here is = subst IsState (sym here) (subst (λ p. IsStep (get_or types i t) (get_or keep i b) p) is (step_at types keep steps i t b s are h)).1

-- the same under other names
filled_as : (reads : ReadsStates) (types : List Ty) (keep : List Bool) (columns now same : List TypedValues) (line : List ℕ) (i at here : ℕ) (left : List (List ℕ)) → same ≡ now → here ≡ at →
    FilledKept reads types keep columns now line i at left → FilledKept reads types keep columns same line i here left
filled_as reads types keep columns now same line i at here left same_is here_is f =
    subst (λ cs. FilledKept reads types keep columns cs line i here left) (sym same_is) (subst (λ n. FilledKept reads types keep columns now line i n left) (sym here_is) f)

-- the first field of a text, and those that are left behind it: the text has a tab behind the field, or nothing
abbrev pub Left : List ℕ → List (List ℕ) → Type 0
Left left after = (field text : List ℕ) → IsFront text field left → fields_of text ≡ field ∷ after

pub left_tab : (left behind : List ℕ) → left ≡ 9 ∷ behind → Left left (fields_of behind)
left_tab left behind tab field text h = field_then_tab text field left behind h tab

pub left_none : (left : List ℕ) → left ≡ [] → Left left []
left_none left none field text h = field_alone text field left h none

pub filled_step : (reads : ReadsStates) (types : List Ty) (keep : List Bool) (steps : List Step) (columns now next : List TypedValues) (line : List ℕ) (i at to : ℕ) (after : List (List ℕ)) (text left : List ℕ) (s : Step) (t : Ty) →
    FilledKept reads types keep columns now line i at (fields_of text) → AreSteps types keep steps → map (λ c. c.ty) columns ≡ kept keep types → i < length types → t ≡ get_or types i t →
    IsStepped reads (get_or steps i s) t now at text next to left → Left left after → FilledKept reads types keep columns next line (i + 1) to after
filled_step reads types keep steps columns now next line i at to after text left s t f are of h type_is (inl (is, e, here, c, next_is, to_is, taken)) splits =
    filled_as reads types keep columns (set now at c) next line (i + 1) (at + 1) to after next_is to_is
    (filled_kept reads types keep columns now line i at (fields_of text) after taken.0 false e c f (steps_long types keep steps are).0 of (splits taken.0 text taken.1) h
    (mark_of types keep steps i false s are h is) here taken.2)
filled_step reads types keep steps columns now next line i at to after text left s t f are of h type_is (inr (next_is, to_is, walks)) splits =
    let walked = walks (get_or keep i false) (subst (λ u. IsStep u (get_or keep i false) (get_or steps i s)) (sym type_is) (step_at types keep steps i t false s are h)) in
    let front = walked.1 in
    filled_as reads types keep columns now next line (i + 1) at to after next_is to_is
    (filled_walked reads types keep columns now line i at (fields_of text) after front.0 false t front.2 f (steps_long types keep steps are).0 (splits front.0 text front.1) h walked.0
    type_is front.3 front.4)

-- a step goes with the values before it
pub undone : (reads : ReadsStates) (count : ℕ) (types : List Ty) (keep : List Bool) (steps : List Step) (columns now next : List TypedValues) (line : List ℕ) (i at to : ℕ) (fields : List (List ℕ)) (text left : List ℕ) (s : Step) (t : Ty) →
    FilledKept reads types keep columns now line i at fields → AreLong columns count → AreSteps types keep steps → map (λ c. c.ty) columns ≡ kept keep types → i < length types →
    IsStepped reads (get_or steps i s) t now at text next to left → map (trim count) next ≡ columns
undone reads count types keep steps columns now next line i at to fields text left s t f long are of h (inl (is, e, here, c, next_is, to_is, taken)) =
    let v = taken.2.0 in
    let within = place_within reads types keep columns now line i at fields false e.ty f (steps_long types keep steps are).0 of h (mark_of types keep steps i false s are h is) in
    let old = column_before reads types keep columns now line i at fields e f here in
    ap (map (trim count)) (next_is ∙ ap (λ xs. set xs at c) f.stand ∙ pushed_push columns (kept keep f.row) at c e v (sym f.places) within old taken.2.3)
    ∙ trimmed columns (kept keep f.row ++ v ∷ []) count long
undone reads count types keep steps columns now next line i at to fields text left s t f long are of h (inr (next_is, to_is, walks)) =
    ap (map (trim count)) (next_is ∙ f.stand) ∙ trimmed columns (kept keep f.row) count long

none_left : (ts : List Ty) (i : ℕ) → length ts ≤ i → drop i ts ≡ []
none_left [] zero h = refl
none_left [] (suc i) h = refl
none_left (t ∷ ts) zero h = absurd (omega arith)
none_left (t ∷ ts) (suc i) h = none_left ts i (omega arith)

pub filled_all : (reads : ReadsStates) (count : ℕ) (types : List Ty) (keep : List Bool) (columns now : List TypedValues) (line : List ℕ) (i at : ℕ) (left : List (List ℕ)) → FilledKept reads types keep columns now line i at left →
    length types ≤ i → left ≡ [] → FillsKept reads count types keep columns line now (Ok true)
filled_all reads count types keep columns now line i at left f h none =
    let whole = f.rest [] (
      subst (λ ts. RowFits ts []) (sym (none_left types i h)) tt,
      subst (λ ts. AreSaidBy reads ts left []) (sym (none_left types i h)) (subst (λ fs. AreSaidBy reads [] fs []) (sym none) tt),
    ) in
    let row = append-nil f.row in
    (f.row, subst (RowFits types) row whole.0, subst (AreSaidBy reads types (fields_of line)) row whole.1, f.stand)

pub unfilled : (reads : ReadsStates) (count : ℕ) (types : List Ty) (keep : List Bool) (columns now : List TypedValues) (line : List ℕ) (i at : ℕ) (left : List (List ℕ)) → FilledKept reads types keep columns now line i at left →
    AreLong columns count → map (trim count) now ≡ columns
unfilled reads count types keep columns now line i at left f long = ap (map (trim count)) f.stand ∙ trimmed columns (kept keep f.row) count long

-- the kept values of a row that fits
pub kept_fits : (keep : List Bool) (types : List Ty) (row : List Value) → RowFits types row → RowFits (kept keep types) (kept keep row)
kept_fits [] types row h = tt
kept_fits (k ∷ keep) [] [] h = tt
kept_fits (k ∷ keep) [] (v ∷ row) h = absurd h
kept_fits (k ∷ keep) (t ∷ types) [] h = absurd h
kept_fits (true ∷ keep) (t ∷ types) (v ∷ row) h = (h.0, kept_fits keep types row h.1)
kept_fits (false ∷ keep) (t ∷ types) (v ∷ row) h = kept_fits keep types row h.1
