-- Rows that are joined column by column.
use Rattle.std.proofs.Common.{◌≡◌, ℕ, zero, suc, ◌+◌, ◌<◌, ◌≤◌, List, [], ◌∷◌, ◌++◌, length, map, take, drop, get_or, refl, sym, ap, ◌∙◌, arith, subst, length-append}
use Rattle.std.specs.Prelude.{All, Some}
use Rattle.std.specs.List.{AllByRecursion, slice_get}
use Rattle.std.specs.Cmp.Derive.{both_true}
use Rattle.std.proofs.Math.Seq.{drop-cons, take-suc}
use Rattle.std.proofs.lemmas.List.{append-nil, get_or-drop, get_or-map, length-map, take-append-drop, take_all, take_at}
use Rattle.std.proofs.lemmas.List.Concat.{flat_map-append}
use Rattle.std.proofs.lemmas.List.Elements.{All-append, All-get_or, All-head, All-nil, All-tail, recursion_from_All}
use Rattle.value_types.specs.declared.ty.Ty.{Ty}
use Rattle.value_types.specs.declared.value.Value.{Value}
use Rattle.value_types.specs.declared.value.Value.TheVariants.{Nil}
use Rattle.typed_columns.specs.TypedValues.{TypedValues}
use Rattle.typed_columns.specs.Growth.{AllFit, Fits, trim, with_values}
use Rattle.columns.specs.Rows.{AreLong, AreTyped, RowFits, column_at, joined, row_at, rows_of, rows_upto, with_rows}
use Rattle.columns.proofs.Rows.{long_joined, rows_joined, type_at, typed_joined}
use Rattle.batch_reader.specs.proving.Joining.{AreFit, JoinsColumn, columns_from, columns_of}
use Rattle.batch_reader.specs.proving.Pieces.{AreOf, rows_in}
use Rattle.batch_reader.specs.declared.lane.Lane.{Lane}

-- the lanes' columns at a place are of the type of the column there
pub types-at : (cs : List TypedValues) (lanes : List Lane) (place : ℕ) (c : TypedValues) → AreOf (map (λ d. d.ty) cs) lanes → place < length cs → c ≡ get_or cs place c
    → All (λ lane. slice_get lane.rows.types place ≡ Some c.ty) lanes
types-at cs lanes place c of within is k d lt = ap (λ (ts : List Ty). slice_get ts place) (of k d lt) ∙ type_at cs place c within is

rows_in-split : (i : ℕ) (lanes : List Lane) → rows_in lanes ≡ rows_in (take i lanes) ++ rows_in (drop i lanes)
rows_in-split i lanes = ap rows_in (sym (take-append-drop i lanes)) ∙ flat_map-append (λ (lane : Lane). lane.rows.rows) (take i lanes) (drop i lanes)

nil-of : {X : Type 0} (xs : List X) → length xs ≡ 0 → xs ≡ []
nil-of [] e = refl
nil-of (x ∷ xs) e = absurd (omega (arith, e))

-- a column that has the values of the first lanes
pub joins-first : (place i : ℕ) (lanes : List Lane) (before after : TypedValues) → after ≡ with_values before (column_at place (rows_in (take i lanes))) → JoinsColumn place (rows_in lanes) before after
joins-first place i lanes before after is =
    let first = rows_in (take i lanes) in
    let rest = rows_in (drop i lanes) in
    let added = column_at place first in
    record {
      front = ap (trim (length before.values)) is ∙ (λ k. record { ty = before.ty; values = take_at before.values added (length before.values) refl k });
      whole = λ long.
          let split = rows_in-split i lanes in
          let count : length after.values ≡ length before.values + length first =
          ap (λ (c : TypedValues). length c.values) is ∙ length-append before.values added ∙ ap (λ (n : ℕ). length before.values + n) (length-map first (λ row. get_or row place Nil)) in
          let none : length rest ≡ 0 = omega (arith, long, count, ap length split, length-append first rest) in
          let all : first ≡ rows_in lanes = sym (split ∙ ap (λ (l : List (List Value)). first ++ l) (nil-of rest none) ∙ append-nil first) in
          is ∙ ap (λ (rows : List (List Value)). with_values before (column_at place rows)) all;
    }

-- a call at each place of the columns
pub each-joins : (rows : List (List Value)) (cs called ds : List TypedValues) → called ≡ cs
    → ((i : ℕ) (d : TypedValues) → i < length called → (before : TypedValues) × (after : TypedValues) × JoinsColumn i rows before after × (before ≡ get_or called i d) × (after ≡ get_or ds i d))
    → (i at : ℕ) (d : TypedValues) → at ≡ 0 + i → i < length cs → JoinsColumn at rows (get_or cs i d) (get_or ds i d)
each-joins rows cs called ds same each i at d at_is within =
    let it = each i d (omega (arith, within, ap length same)) in
    let before = it.3 ∙ ap (λ (l : List TypedValues). get_or l i d) same in
    let here : i ≡ at = omega (arith, at_is) in
    subst (λ (c : TypedValues). JoinsColumn at rows c (get_or ds i d)) before
    (subst (λ (c : TypedValues). JoinsColumn at rows it.0 c) it.4 (subst (λ (n : ℕ). JoinsColumn n rows it.0 it.1) here it.2))

-- all columns
pub joined-each : (place count total : ℕ) (rows : List (List Value)) (cs ds : List TypedValues) → length ds ≡ length cs → AreLong cs count → total ≡ count + length rows → All (λ d. length d.values ≡ total) ds
    → ((i at : ℕ) (d : TypedValues) → at ≡ place + i → i < length cs → JoinsColumn at rows (get_or cs i d) (get_or ds i d)) → ds ≡ joined cs (columns_from place (map (λ c. c.ty) cs) rows)
joined-each place count total rows [] [] same long total_is all each = refl
joined-each place count total rows [] (d ∷ ds) same long total_is all each = absurd (omega (arith, same))
joined-each place count total rows (c ∷ cs) [] same long total_is all each = absurd (omega (arith, same))
joined-each place count total rows (c ∷ cs) (d ∷ ds) same long total_is all each =
    let here = (each 0 place c (omega arith) (omega arith)).whole (omega (arith, long.0, total_is, All-head (λ (e : TypedValues). length e.values ≡ total) d ds all)) in
    let rest = joined-each (suc place) count total rows cs ds (omega (arith, same)) long.1 total_is (All-tail (λ (e : TypedValues). length e.values ≡ total) d ds all)
    (λ i at e at_is within. each (suc i) at e (omega (arith, at_is)) (omega (arith, within))) in
    λ k. here k ∷ rest k

-- what was added comes off again
pub trimmed-each : (place count : ℕ) (rows : List (List Value)) (cs ds : List TypedValues) → length ds ≡ length cs → AreLong cs count
    → ((i at : ℕ) (d : TypedValues) → at ≡ place + i → i < length cs → JoinsColumn at rows (get_or cs i d) (get_or ds i d)) → map (trim count) ds ≡ cs
trimmed-each place count rows [] [] same long each = refl
trimmed-each place count rows [] (d ∷ ds) same long each = absurd (omega (arith, same))
trimmed-each place count rows (c ∷ cs) [] same long each = absurd (omega (arith, same))
trimmed-each place count rows (c ∷ cs) (d ∷ ds) same long each =
    let here = ap (λ (n : ℕ). trim n d) (sym long.0) ∙ (each 0 place c (omega arith) (omega arith)).front in
    let rest = trimmed-each (suc place) count rows cs ds (omega (arith, same)) long.1 (λ i at e at_is within. each (suc i) at e (omega (arith, at_is)) (omega (arith, within))) in
    λ k. here k ∷ rest k

-- rows of types, as columns
columns-types : (place : ℕ) (types : List Ty) (rows : List (List Value)) → map (λ c. c.ty) (columns_from place types rows) ≡ types
columns-types place [] rows = refl
columns-types place (t ∷ types) rows = ap (λ (ts : List Ty). t ∷ ts) (columns-types (suc place) types rows)

columns-long : (place : ℕ) (types : List Ty) (rows : List (List Value)) → AreLong (columns_from place types rows) (length rows)
columns-long place [] rows = tt
columns-long place (t ∷ types) rows = (length-map rows (λ row. get_or row place Nil), columns-long (suc place) types rows)

-- a row from a place on
first-fits : (t : Ty) (types : List Ty) (place : ℕ) (row rest : List Value) → rest ≡ drop place row → RowFits (t ∷ types) rest → Fits t (get_or row place Nil)
first-fits t types place row [] is fits = absurd fits
first-fits t types place row (v ∷ rest) is fits =
    let end : place + 0 ≡ place = omega arith in
    let here : v ≡ get_or row place Nil = ap (λ (l : List Value). get_or l 0 Nil) is ∙ get_or-drop place row 0 Nil ∙ ap (λ (n : ℕ). get_or row n Nil) end in
    subst (Fits t) here fits.0

within-row : (t : Ty) (types : List Ty) (place : ℕ) (row : List Value) → RowFits (t ∷ types) (drop place row) → place < length row
within-row t types place [] fits = absurd (none-left place fits)
  where
    none-left : (n : ℕ) → RowFits (t ∷ types) (drop n []) → ⊥
    none-left zero fits = fits
    none-left (suc n) fits = fits
within-row t types zero (v ∷ row) fits = omega arith
within-row t types (suc place) (v ∷ row) fits = omega (arith, within-row t types place row fits)

rest-fits : (t : Ty) (types : List Ty) (place : ℕ) (row : List Value) → RowFits (t ∷ types) (drop place row) → RowFits types (drop (suc place) row)
rest-fits t types place row fits = (subst (RowFits (t ∷ types)) (drop-cons row place Nil (within-row t types place row fits)) fits).1

columns-typed : (place : ℕ) (types : List Ty) (rows : List (List Value)) → AllByRecursion (λ row. RowFits types (drop place row)) rows → AreTyped (columns_from place types rows)
columns-typed place [] rows fits = tt
columns-typed place (t ∷ types) rows fits = (values-fit rows fits, columns-typed (suc place) types rows (rest rows fits))
  where
    values-fit : (rows : List (List Value)) → AllByRecursion (λ row. RowFits (t ∷ types) (drop place row)) rows → AllFit t (column_at place rows)
    values-fit [] fits = refl
    values-fit (row ∷ rows) fits = both_true (first-fits t types place row (drop place row) refl fits.0) (values-fit rows fits.1)

    rest : (rows : List (List Value)) → AllByRecursion (λ row. RowFits (t ∷ types) (drop place row)) rows → AllByRecursion (λ row. RowFits types (drop (suc place) row)) rows
    rest [] fits = tt
    rest (row ∷ rows) fits = (rest-fits t types place row fits.0, rest rows fits.1)

row-at : (place : ℕ) (types : List Ty) (rows : List (List Value)) (j : ℕ) → j < length rows → RowFits types (drop place (get_or rows j [])) → row_at (columns_from place types rows) j ≡ drop place (get_or rows j [])
row-at place [] rows j within fits = sym (no-values (drop place (get_or rows j [])) fits)
  where
    no-values : (vs : List Value) → RowFits [] vs → vs ≡ []
    no-values [] fits = refl
    no-values (v ∷ vs) fits = absurd fits
row-at place (t ∷ types) rows j within fits =
    let row = get_or rows j [] in
    let here : get_or (column_at place rows) j Nil ≡ get_or row place Nil = get_or-map (λ (r : List Value). get_or r place Nil) rows j [] Nil within in
    let rest = row-at (suc place) types rows j within (rest-fits t types place row fits) in
    (λ k. here k ∷ rest k) ∙ sym (drop-cons row place Nil (within-row t types place row fits))

rows-front : (types : List Ty) (rows : List (List Value)) (n : ℕ) → All (RowFits types) rows → n ≤ length rows → rows_upto (columns_of types rows) n ≡ take n rows
rows-front types rows zero fits within = refl
rows-front types rows (suc n) fits within =
    let here = row-at 0 types rows n within (All-get_or (RowFits types) rows n [] within fits) in
    (λ k. rows-front types rows n fits (omega (arith, within)) k ++ here k ∷ []) ∙ sym (take-suc rows n [] within)

-- the rows of the lanes are all of the types
pub fit-in : (types : List Ty) (lanes : List Lane) → AreOf types lanes → AreFit lanes → All (RowFits types) (rows_in lanes)
fit-in types [] of fit = All-nil (RowFits types)
fit-in types (lane ∷ lanes) of fit =
    let IsOf = λ (it : Lane). it.rows.types ≡ types in
    let IsFit = λ (it : Lane). All (RowFits it.rows.types) it.rows.rows in
    All-append (RowFits types) lane.rows.rows (rows_in lanes) (subst (λ (ts : List Ty). All (RowFits ts) lane.rows.rows) (All-head IsOf lane lanes of) (All-head IsFit lane lanes fit))
    (fit-in types lanes (All-tail IsOf lane lanes of) (All-tail IsFit lane lanes fit))

-- columns with the values of rows more have these rows more
pub rows-added : (cs : List TypedValues) (count : ℕ) (rows : List (List Value)) → AreLong cs count → All (RowFits (map (λ c. c.ty) cs)) rows
    → rows_of (joined cs (columns_of (map (λ c. c.ty) cs) rows)) (count + length rows) ≡ with_rows (rows_of cs count) rows
rows-added cs count rows long fits =
    let types = map (λ c. c.ty) cs in
    rows_joined cs (columns_of types rows) count (length rows) long (sym (columns-types 0 types rows))
    ∙ ap (with_rows (rows_of cs count)) (rows-front types rows (length rows) fits (omega arith) ∙ take_all (length rows) rows (omega arith))

pub are-columns : (cs : List TypedValues) (count : ℕ) (rows : List (List Value)) → AreLong cs count → AreTyped cs → All (RowFits (map (λ c. c.ty) cs)) rows
    → (let ds = joined cs (columns_of (map (λ c. c.ty) cs) rows) in AreLong ds (count + length rows) × AreTyped ds)
are-columns cs count rows long typed fits =
    let types = map (λ c. c.ty) cs in
    let more = columns_of types rows in
    let same = sym (columns-types 0 types rows) in
    (long_joined cs more count (length rows) long (columns-long 0 types rows) same, typed_joined cs more typed (columns-typed 0 types rows (recursion_from_All (RowFits types) rows fits)) same)
