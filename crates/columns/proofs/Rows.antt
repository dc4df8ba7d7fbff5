-- Rows out of columns of one length.
use Rattle.std.proofs.Common.{◌≡◌, add-one, ℕ, suc, zero, ◌+◌, ◌≤◌, ◌<◌, List, [], ◌∷◌, ◌++◌, length, map, get_or, set, take, drop, refl, ap, sym, ◌∙◌, arith, subst}
use Rattle.std.proofs.lemmas.List.{get_or_append_left, get_or_push, get_or-take, length-take-le, map-append, take-append-le, take_all, take_at, length_push}
use Rattle.std.proofs.Math.Seq.{take-suc}
use Rattle.std.proofs.lemmas.Option.{slice_get-map, slice_get-get_or}
use Rattle.std.specs.Option.{option_map}
use Rattle.std.specs.Prelude.{Some}
use mathlib.Core.Logic.{◌⊎◌, inl, inr}
use Rattle.std.specs.List.{slice_get}
use Rattle.std.proofs.lemmas.Option.{get_or_from_slice_get}
use Rattle.std.proofs.lemmas.Bool.{cases_lt}
use Rattle.value_types.specs.declared.ty.Ty.{Ty}
use Rattle.value_types.specs.declared.value.Value.{Value}
use Rattle.value_types.specs.declared.value.Value.TheVariants.{Nil}
use Rattle.typed_columns.specs.TypedValues.{TypedValues}
use Rattle.std.specs.Prelude.{true}
use Rattle.std.specs.List.{All}
use Rattle.std.specs.Cmp.Derive.{both_true}
use Rattle.std.proofs.Common.{Bool, false, ◌&&◌}
use Rattle.std.proofs.Common.{◌-◌, length-append}
use Rattle.std.proofs.Math.Nat.{add-suc}
use Rattle.std.proofs.lemmas.List.{append_assoc, append-nil, get_or-append_right, get_or_default, length-map}
use Rattle.std.proofs.lemmas.List.Folds.{list_all-append}
use Rattle.typed_columns.specs.Growth.{AllFit, Fits, no_values, trim, with_value, with_values}
use Rattle.columns.specs.Rows.{AreLong, AreTyped, RowFits, column_at, first_rows, joined, no_rows, pushed, row_at, rows_of, rows_upto, with_row, with_rows}

pub count_rows : (cs : List TypedValues) (n : ℕ) → length (rows_upto cs n) ≡ n
count_rows cs zero = refl
count_rows cs (suc n) = length_push (rows_upto cs n) (row_at cs n) ∙ omega (arith, count_rows cs n)

row_stays : (cs : List TypedValues) (row : List Value) (n i : ℕ) → AreLong cs n → i < n → row_at (pushed cs row) i ≡ row_at cs i
row_stays [] row n i long h = refl
row_stays (c ∷ cs) [] n i long h = refl
row_stays (c ∷ cs) (v ∷ vs) n i long h =
    λ k. get_or_append_left c.values (v ∷ []) Nil i (omega (arith, long.0)) k ∷ row_stays cs vs n i long.1 h k

rows_stay : (cs : List TypedValues) (row : List Value) (n m : ℕ) → AreLong cs n → m ≤ n → rows_upto (pushed cs row) m ≡ rows_upto cs m
rows_stay cs row n zero long h = refl
rows_stay cs row n (suc m) long h = λ k. rows_stay cs row n m long (omega arith) k ++ row_stays cs row n m long (omega arith) k ∷ []

row_comes : (cs : List TypedValues) (row : List Value) (n : ℕ) → AreLong cs n → RowFits (map (λ c. c.ty) cs) row → row_at (pushed cs row) n ≡ row
row_comes [] [] n long fit = refl
row_comes [] (v ∷ vs) n long fit = absurd fit
row_comes (c ∷ cs) [] n long fit = absurd fit
row_comes (c ∷ cs) (v ∷ vs) n long fit = λ k. get_or_push c.values v Nil n long.0 k ∷ row_comes cs vs n long.1 fit.1 k

types_stay : (cs : List TypedValues) (row : List Value) → map (λ c. c.ty) (pushed cs row) ≡ map (λ c. c.ty) cs
types_stay [] row = refl
types_stay (c ∷ cs) [] = refl
types_stay (c ∷ cs) (v ∷ vs) = ap (λ ts. c.ty ∷ ts) (types_stay cs vs)

pub long_pushed : (cs : List TypedValues) (row : List Value) (n : ℕ) → AreLong cs n → RowFits (map (λ c. c.ty) cs) row → AreLong (pushed cs row) (n + 1)
long_pushed [] row n long fit = tt
long_pushed (c ∷ cs) [] n long fit = absurd fit
long_pushed (c ∷ cs) (v ∷ vs) n long fit = (length_push c.values v ∙ ap (λ m. m + 1) long.0, long_pushed cs vs n long.1 fit.1)

pub rows_pushed : (cs : List TypedValues) (row : List Value) (n : ℕ) → AreLong cs n → RowFits (map (λ c. c.ty) cs) row →
    rows_of (pushed cs row) (n + 1) ≡ with_row (rows_of cs n) row
rows_pushed cs row n long fit = rw add-one (λ k. record {
  types = types_stay cs row k;
  rows = rows_stay cs row n n long (omega arith) k ++ row_comes cs row n long fit k ∷ [];
})

pub pushed_none : (cs : List TypedValues) → pushed cs [] ≡ cs
pushed_none [] = refl
pushed_none (c ∷ cs) = refl

pub pushed_more : (cs : List TypedValues) (row : List Value) (i : ℕ) (c e : TypedValues) (v : Value) → i < length cs → i < length row →
    c ≡ with_value e v → e ≡ get_or cs i e → v ≡ get_or row i v → set (pushed cs (take i row)) i c ≡ pushed cs (take (suc i) row)
pushed_more [] row i c e v h l is at same = absurd (omega arith)
pushed_more (d ∷ cs) [] i c e v h l is at same = absurd (omega arith)
pushed_more (d ∷ cs) (w ∷ row) zero c e v h l is at same =
    let none = sym (pushed_none cs) in let first = is ∙ ap (λ x. with_value x v) at ∙ ap (with_value d) same in λ k. first k ∷ none k
pushed_more (d ∷ cs) (w ∷ row) (suc i) c e v h l is at same = ap (λ more. with_value d w ∷ more) (pushed_more cs row i c e v (omega arith) (omega arith) is at same)

trim_none : (cs : List TypedValues) (n : ℕ) → AreLong cs n → map (trim n) cs ≡ cs
trim_none [] n long = refl
trim_none (c ∷ cs) n long = λ k. record { ty = c.ty; values = take_all n c.values (omega (arith, long.0)) k } ∷ trim_none cs n long.1 k

-- what was pushed comes off again
pub trimmed : (cs : List TypedValues) (row : List Value) (n : ℕ) → AreLong cs n → map (trim n) (pushed cs row) ≡ cs
trimmed [] row n long = refl
trimmed (c ∷ cs) [] n long = λ k. record { ty = c.ty; values = take_all n c.values (omega (arith, long.0)) k } ∷ trim_none cs n long.1 k
trimmed (c ∷ cs) (v ∷ vs) n long = λ k. record { ty = c.ty; values = take_at c.values (v ∷ []) n long.0 k } ∷ trimmed cs vs n long.1 k

pub trim_more : (cs : List TypedValues) (n i : ℕ) (c : TypedValues) → i < length cs → c ≡ trim n (get_or cs i c) →
    set (map (trim n) (take i cs) ++ drop i cs) i c ≡ map (trim n) (take (suc i) cs) ++ drop (suc i) cs
trim_more [] n i c h is = absurd (omega arith)
trim_more (d ∷ cs) n zero c h is = ap (λ x. x ∷ cs) is
trim_more (d ∷ cs) n (suc i) c h is = ap (λ more. trim n d ∷ more) (trim_more cs n i c (omega arith) is)

pub trim_at : (cs : List TypedValues) (n i : ℕ) (c : TypedValues) → i < length cs → get_or (map (trim n) (take i cs) ++ drop i cs) i c ≡ get_or cs i c
trim_at [] n i c h = absurd (omega arith)
trim_at (d ∷ cs) n zero c h = refl
trim_at (d ∷ cs) n (suc i) c h = trim_at cs n i c (omega arith)

pub pushed_at : (cs : List TypedValues) (row : List Value) (i : ℕ) (c : TypedValues) → get_or (pushed cs (take i row)) i c ≡ get_or cs i c
pushed_at [] row i c = refl
pushed_at (d ∷ cs) [] zero c = refl
pushed_at (d ∷ cs) [] (suc i) c = refl
pushed_at (d ∷ cs) (v ∷ row) zero c = refl
pushed_at (d ∷ cs) (v ∷ row) (suc i) c = pushed_at cs row i c

pub fit_at : (cs : List TypedValues) (row : List Value) (i : ℕ) (c : TypedValues) (v : Value) → RowFits (map (λ d. d.ty) cs) row → i < length cs →
    Fits (get_or cs i c).ty (get_or row i v)
fit_at [] row i c v fit h = absurd (omega arith)
fit_at (d ∷ cs) [] i c v fit h = absurd fit
fit_at (d ∷ cs) (w ∷ row) zero c v fit h = fit.0
fit_at (d ∷ cs) (w ∷ row) (suc i) c v fit h = fit_at cs row i c v fit.1 (omega arith)

pub fit_length : (cs : List TypedValues) (row : List Value) → RowFits (map (λ d. d.ty) cs) row → length row ≡ length cs
fit_length [] [] fit = refl
fit_length [] (v ∷ vs) fit = absurd fit
fit_length (c ∷ cs) [] fit = absurd fit
fit_length (c ∷ cs) (v ∷ vs) fit = omega (arith, fit_length cs vs fit.1)

pub length_pushed : (cs : List TypedValues) (row : List Value) → length (pushed cs row) ≡ length cs
length_pushed [] row = refl
length_pushed (c ∷ cs) [] = refl
length_pushed (c ∷ cs) (v ∷ vs) = ap suc (length_pushed cs vs)

pub fit_here : (cs : List TypedValues) (row : List Value) (i : ℕ) (c : TypedValues) (v : Value) → RowFits (map (λ d. d.ty) cs) row → i < length cs →
    c ≡ get_or cs i c → v ≡ get_or row i v → Fits c.ty v
fit_here cs row i c v fit h is same =
    subst (λ x. Fits x.ty v) (sym is) (subst (λ y. Fits (get_or cs i c).ty y) (sym same) (fit_at cs row i c v fit h))

pub trim_here : (cs : List TypedValues) (n i : ℕ) (c e : TypedValues) → i < length cs → c ≡ trim n e → e ≡ get_or (map (trim n) (take i cs) ++ drop i cs) i e →
    set (map (trim n) (take i cs) ++ drop i cs) i c ≡ map (trim n) (take (suc i) cs) ++ drop (suc i) cs
trim_here [] n i c e h is at = absurd (omega arith)
trim_here (d ∷ cs) n zero c e h is at = ap (λ x. x ∷ cs) (is ∙ ap (trim n) at)
trim_here (d ∷ cs) n (suc i) c e h is at = ap (λ more. trim n d ∷ more) (trim_here cs n i c e (omega arith) is at)

row_case : (cs : List TypedValues) (n i : ℕ) → ((k : ℕ) → k < n → get_or (rows_upto cs n) k [] ≡ row_at cs k) → i < suc n → (i < n) ⊎ (n ≤ i) →
    get_or (rows_upto cs n ++ row_at cs n ∷ []) i [] ≡ row_at cs i
row_case cs n i before h (inl below) = get_or_append_left (rows_upto cs n) (row_at cs n ∷ []) [] i (omega (arith, count_rows cs n)) ∙ before i below
row_case cs n i before h (inr past) =
    let same : n ≡ i = omega arith in
    get_or_push (rows_upto cs n) (row_at cs n) [] i (count_rows cs n ∙ same) ∙ ap (row_at cs) same

-- row i is what the columns have at i
pub row_is : (cs : List TypedValues) (n i : ℕ) → i < n → get_or (rows_upto cs n) i [] ≡ row_at cs i
row_is cs zero i h = absurd (omega arith)
row_is cs (suc n) i h = row_case cs n i (row_is cs n) h (cases_lt i n)

pub long_at : (cs : List TypedValues) (n j : ℕ) (c : TypedValues) → AreLong cs n → j < length cs → c ≡ get_or cs j c → length c.values ≡ n
long_at [] n j c long h is = absurd (omega arith)
long_at (d ∷ cs) n zero c long h is = ap (λ x. length x.values) is ∙ long.0
long_at (d ∷ cs) n (suc j) c long h is = long_at cs n j c long.1 (omega arith) is

pub item_of : (cs : List TypedValues) (i j : ℕ) (c : TypedValues) (v : Value) → j < length cs → c ≡ get_or cs j c → slice_get c.values i ≡ Some v →
    slice_get (row_at cs i) j ≡ Some v
item_of [] i j c v h is at = absurd (omega arith)
item_of (d ∷ cs) i zero c v h is at = ap Some (get_or_from_slice_get d.values i v Nil (ap (λ x. slice_get x.values i) (sym is) ∙ at))
item_of (d ∷ cs) i (suc j) c v h is at = item_of cs i j c v (omega arith) is at

-- columns without values
pub types_new : (ts : List Ty) → map (λ c. c.ty) (map no_values ts) ≡ ts
types_new [] = refl
types_new (t ∷ ts) = ap (λ us. t ∷ us) (types_new ts)

pub long_new : (ts : List Ty) → AreLong (map no_values ts) 0
long_new [] = tt
long_new (t ∷ ts) = (refl, long_new ts)

pub rows_new : (ts : List Ty) → rows_of (map no_values ts) 0 ≡ no_rows ts
rows_new ts = λ i. record { types = types_new ts i; rows = [] }

-- shorter columns
types_trim : (cs : List TypedValues) (k : ℕ) → map (λ c. c.ty) (map (trim k) cs) ≡ map (λ c. c.ty) cs
types_trim [] k = refl
types_trim (c ∷ cs) k = ap (λ ts. c.ty ∷ ts) (types_trim cs k)

pub long_trim : (cs : List TypedValues) (n k : ℕ) → AreLong cs n → k ≤ n → AreLong (map (trim k) cs) k
long_trim [] n k long h = tt
long_trim (c ∷ cs) n k long h = (length-take-le k c.values (omega (arith, long.0)), long_trim cs n k long.1 h)

row_trim : (cs : List TypedValues) (k i : ℕ) → i < k → row_at (map (trim k) cs) i ≡ row_at cs i
row_trim [] k i h = refl
row_trim (c ∷ cs) k i h = λ j. get_or-take k c.values i Nil h j ∷ row_trim cs k i h j

rows_trim : (cs : List TypedValues) (k m : ℕ) → m ≤ k → rows_upto (map (trim k) cs) m ≡ rows_upto cs m
rows_trim cs k zero h = refl
rows_trim cs k (suc m) h = λ j. rows_trim cs k m (omega arith) j ++ row_trim cs k m (omega arith) j ∷ []

front_case : (cs : List TypedValues) (n k : ℕ) → (k ≤ n → rows_upto cs k ≡ take k (rows_upto cs n)) → k ≤ suc n → (k < suc n) ⊎ (suc n ≤ k) →
    rows_upto cs k ≡ take k (rows_upto cs (suc n))
front_case cs n k before h (inl below) =
    before (omega arith) ∙ sym (take-append-le k (rows_upto cs n) (row_at cs n ∷ []) (omega (arith, count_rows cs n)))
front_case cs n k before h (inr past) =
    let same : k ≡ suc n = omega arith in
    ap (rows_upto cs) same ∙ sym (take_all k (rows_upto cs (suc n)) (omega (arith, count_rows cs (suc n))))

rows_front : (cs : List TypedValues) (n k : ℕ) → k ≤ n → rows_upto cs k ≡ take k (rows_upto cs n)
rows_front cs zero k h = let none : k ≡ zero = omega arith in ap (rows_upto cs) none ∙ sym (take_all k [] (omega arith))
rows_front cs (suc n) k h = front_case cs n k (rows_front cs n k) h (cases_lt k (suc n))

pub rows_first : (cs : List TypedValues) (n k : ℕ) → k ≤ n → rows_of (map (trim k) cs) k ≡ first_rows k (rows_of cs n)
rows_first cs n k h = λ i. record { types = types_trim cs k i; rows = (rows_trim cs k k (omega arith) ∙ rows_front cs n k h) i }

-- one column
cell : (cs : List TypedValues) (m j : ℕ) (c : TypedValues) → j < length cs → c ≡ get_or cs j c → get_or (row_at cs m) j Nil ≡ get_or c.values m Nil
cell [] m j c h is = absurd (omega arith)
cell (d ∷ cs) m zero c h is = ap (λ x. get_or x.values m Nil) (sym is)
cell (d ∷ cs) m (suc j) c h is = cell cs m j c (omega arith) is

column_upto : (cs : List TypedValues) (n m j : ℕ) (c : TypedValues) → AreLong cs n → m ≤ n → j < length cs → c ≡ get_or cs j c →
    column_at j (rows_upto cs m) ≡ take m c.values
column_upto cs n zero j c long h l is = refl
column_upto cs n (suc m) j c long h l is =
    map-append (λ row. get_or row j Nil) (rows_upto cs m) (row_at cs m ∷ [])
    ∙ (λ i. column_upto cs n m j c long (omega arith) l is i ++ cell cs m j c l is i ∷ [])
    ∙ sym (take-suc c.values m Nil (omega (arith, long_at cs n j c long l is)))

pub column_all : (cs : List TypedValues) (n j : ℕ) (c : TypedValues) → AreLong cs n → j < length cs → c ≡ get_or cs j c →
    c.values ≡ column_at j (rows_upto cs n)
column_all cs n j c long l is =
    sym (take_all n c.values (omega (arith, long_at cs n j c long l is))) ∙ sym (column_upto cs n n j c long (omega arith) l is)

pub type_at : (cs : List TypedValues) (j : ℕ) (c : TypedValues) → j < length cs → c ≡ get_or cs j c → slice_get (map (λ d. d.ty) cs) j ≡ Some c.ty
type_at cs j c l is = slice_get-map (λ d. d.ty) cs j ∙ ap (option_map (λ d. d.ty)) (slice_get-get_or cs j c l ∙ ap Some (sym is))

pub row_get : (rows : List (List Value)) (i : ℕ) → i < length rows → slice_get rows i ≡ Some (get_or rows i [])
row_get rows i h = slice_get-get_or rows i [] h

-- values of their types
left : (a b : Bool) → (a && b) ≡ true → a ≡ true
left true b h = refl
left false b h = h

right : (a b : Bool) → (a && b) ≡ true → b ≡ true
right true b h = h
right false b h = cc

all_first : (t : Ty) (v : Value) (vs : List Value) → AllFit t (v ∷ vs) → Fits t v
all_first t v vs h = left _ _ h

all_rest : (t : Ty) (v : Value) (vs : List Value) → AllFit t (v ∷ vs) → AllFit t vs
all_rest t v vs h = right _ _ h

fit_value : (t : Ty) (vs : List Value) (i : ℕ) → i < length vs → AllFit t vs → Fits t (get_or vs i Nil)
fit_value t [] i l h = absurd (omega arith)
fit_value t (v ∷ vs) zero l h = all_first t v vs h
fit_value t (v ∷ vs) (suc i) l h = fit_value t vs i (omega arith) (all_rest t v vs h)

all_append : (t : Ty) (vs ws : List Value) → AllFit t vs → AllFit t ws → AllFit t (vs ++ ws)
all_append t vs ws h k = list_all-append _ vs ws ∙ both_true h k

all_take : (t : Ty) (n : ℕ) (vs : List Value) → AllFit t vs → AllFit t (take n vs)
all_take t zero vs h = refl
all_take t (suc n) [] h = refl
all_take t (suc n) (v ∷ vs) h = both_true (all_first t v vs h) (all_take t n vs (all_rest t v vs h))

row_at-fits : (cs : List TypedValues) (n i : ℕ) → AreLong cs n → AreTyped cs → i < n → RowFits (map (λ c. c.ty) cs) (row_at cs i)
row_at-fits [] n i long typed h = tt
row_at-fits (c ∷ cs) n i long typed h = (fit_value c.ty c.values i (omega (arith, long.0)) typed.0, row_at-fits cs n i long.1 typed.1 h)

pub row_fits : (cs : List TypedValues) (n i : ℕ) → AreLong cs n → AreTyped cs → i < n → RowFits (map (λ c. c.ty) cs) (get_or (rows_upto cs n) i [])
row_fits cs n i long typed h = subst (RowFits (map (λ c. c.ty) cs)) (sym (row_is cs n i h)) (row_at-fits cs n i long typed h)

pub column_fits : (cs : List TypedValues) (j : ℕ) (c : TypedValues) → AreTyped cs → j < length cs → c ≡ get_or cs j c → AllFit c.ty c.values
column_fits [] j c typed h is = absurd (omega arith)
column_fits (d ∷ cs) zero c typed h is = subst (λ x. AllFit x.ty x.values) (sym is) typed.0
column_fits (d ∷ cs) (suc j) c typed h is = column_fits cs j c typed.1 (omega arith) is

pub typed_new : (ts : List Ty) → AreTyped (map no_values ts)
typed_new [] = tt
typed_new (t ∷ ts) = (refl, typed_new ts)

pub typed_pushed : (cs : List TypedValues) (row : List Value) → AreTyped cs → RowFits (map (λ c. c.ty) cs) row → AreTyped (pushed cs row)
typed_pushed [] row typed fit = tt
typed_pushed (c ∷ cs) [] typed fit = absurd fit
typed_pushed (c ∷ cs) (v ∷ vs) typed fit = (all_append c.ty c.values (v ∷ []) typed.0 (both_true fit.0 refl), typed_pushed cs vs typed.1 fit.1)

pub typed_trim : (cs : List TypedValues) (k : ℕ) → AreTyped cs → AreTyped (map (trim k) cs)
typed_trim [] k typed = tt
typed_trim (c ∷ cs) k typed = (all_take c.ty k c.values typed.0, typed_trim cs k typed.1)

-- the values of second columns behind those of the first
pub typed_joined : (cs ds : List TypedValues) → AreTyped cs → AreTyped ds → map (λ c. c.ty) cs ≡ map (λ c. c.ty) ds → AreTyped (joined cs ds)
typed_joined [] ds typed more same = tt
typed_joined (c ∷ cs) [] typed more same = typed
typed_joined (c ∷ cs) (d ∷ ds) typed more same =
    let here : c.ty ≡ d.ty = cc in
    let rest : map (λ c. c.ty) cs ≡ map (λ c. c.ty) ds = cc in
    (all_append c.ty c.values d.values typed.0 (subst (λ t. AllFit t d.values) (sym here) more.0), typed_joined cs ds typed.1 more.1 rest)

pub long_joined : (cs ds : List TypedValues) (n m : ℕ) → AreLong cs n → AreLong ds m → map (λ c. c.ty) cs ≡ map (λ c. c.ty) ds → AreLong (joined cs ds) (n + m)
long_joined [] ds n m long more same = tt
long_joined (c ∷ cs) [] n m long more same = absurd cc
long_joined (c ∷ cs) (d ∷ ds) n m long more same =
    let rest : map (λ c. c.ty) cs ≡ map (λ c. c.ty) ds = cc in
    (omega (arith, long.0, more.0, length-append c.values d.values), long_joined cs ds n m long.1 more.1 rest)

types_join : (cs ds : List TypedValues) → map (λ c. c.ty) (joined cs ds) ≡ map (λ c. c.ty) cs
types_join [] ds = refl
types_join (c ∷ cs) [] = refl
types_join (c ∷ cs) (d ∷ ds) = ap (λ ts. c.ty ∷ ts) (types_join cs ds)

row_before : (cs ds : List TypedValues) (n i : ℕ) → AreLong cs n → i < n → row_at (joined cs ds) i ≡ row_at cs i
row_before [] ds n i long h = refl
row_before (c ∷ cs) [] n i long h = refl
row_before (c ∷ cs) (d ∷ ds) n i long h =
    λ k. get_or_append_left c.values d.values Nil i (omega (arith, long.0)) k ∷ row_before cs ds n i long.1 h k

rows_before : (cs ds : List TypedValues) (n k : ℕ) → AreLong cs n → k ≤ n → rows_upto (joined cs ds) k ≡ rows_upto cs k
rows_before cs ds n zero long h = refl
rows_before cs ds n (suc k) long h = λ i. rows_before cs ds n k long (omega arith) i ++ row_before cs ds n k long (omega arith) i ∷ []

row_behind : (cs ds : List TypedValues) (n i : ℕ) → AreLong cs n → map (λ c. c.ty) cs ≡ map (λ c. c.ty) ds → row_at (joined cs ds) (n + i) ≡ row_at ds i
row_behind [] [] n i long same = refl
row_behind [] (d ∷ ds) n i long same = absurd cc
row_behind (c ∷ cs) [] n i long same = absurd cc
row_behind (c ∷ cs) (d ∷ ds) n i long same =
    let rest : map (λ c. c.ty) cs ≡ map (λ c. c.ty) ds = cc in
    let place : (n + i) - n ≡ i = omega arith in
    λ k. (get_or-append_right c.values d.values n (n + i) Nil long.0 (omega arith) ∙ ap (λ m. get_or d.values m Nil) place) k ∷ row_behind cs ds n i long.1 rest k

rows_behind : (cs ds : List TypedValues) (n m : ℕ) → AreLong cs n → map (λ c. c.ty) cs ≡ map (λ c. c.ty) ds →
    rows_upto (joined cs ds) (n + m) ≡ rows_upto cs n ++ rows_upto ds m
rows_behind cs ds n zero long same =
    (let end : n + zero ≡ n = omega arith in ap (rows_upto (joined cs ds)) end) ∙ rows_before cs ds n n long (omega arith) ∙ sym (append-nil (rows_upto cs n))
rows_behind cs ds n (suc m) long same =
    ap (rows_upto (joined cs ds)) (add-suc n m)
    ∙ (λ i. rows_behind cs ds n m long same i ++ row_behind cs ds n m long same i ∷ [])
    ∙ append_assoc (rows_upto cs n) (rows_upto ds m) (row_at ds m ∷ [])

pub rows_joined : (cs ds : List TypedValues) (n m : ℕ) → AreLong cs n → map (λ c. c.ty) cs ≡ map (λ c. c.ty) ds →
    rows_of (joined cs ds) (n + m) ≡ with_rows (rows_of cs n) (rows_upto ds m)
rows_joined cs ds n m long same = λ i. record { types = types_join cs ds i; rows = rows_behind cs ds n m long same i }

pub joined_none : (cs : List TypedValues) → joined cs [] ≡ cs
joined_none [] = refl
joined_none (c ∷ cs) = refl

pub joined_more : (cs ds : List TypedValues) (i : ℕ) (c e d : TypedValues) → i < length cs → i < length ds →
    c ≡ with_values e d.values → e ≡ get_or cs i e → d ≡ get_or ds i d → set (joined cs (take i ds)) i c ≡ joined cs (take (suc i) ds)
joined_more [] ds i c e d h l is at same = absurd (omega arith)
joined_more (a ∷ cs) [] i c e d h l is at same = absurd (omega arith)
joined_more (a ∷ cs) (b ∷ ds) zero c e d h l is at same =
    let none = sym (joined_none cs) in
    let first = is ∙ ap (λ x. with_values x d.values) at ∙ ap (λ x. with_values a x.values) same in λ k. first k ∷ none k
joined_more (a ∷ cs) (b ∷ ds) (suc i) c e d h l is at same = ap (λ more. with_values a b.values ∷ more) (joined_more cs ds i c e d (omega arith) (omega arith) is at same)

pub joined_at : (cs ds : List TypedValues) (i : ℕ) (c : TypedValues) → get_or (joined cs (take i ds)) i c ≡ get_or cs i c
joined_at [] ds i c = refl
joined_at (a ∷ cs) [] zero c = refl
joined_at (a ∷ cs) [] (suc i) c = refl
joined_at (a ∷ cs) (b ∷ ds) zero c = refl
joined_at (a ∷ cs) (b ∷ ds) (suc i) c = joined_at cs ds i c

pub same_type : (cs ds : List TypedValues) (i : ℕ) (c d : TypedValues) → map (λ c. c.ty) cs ≡ map (λ c. c.ty) ds → i < length cs → i < length ds →
    c ≡ get_or cs i c → d ≡ get_or ds i d → c.ty ≡ d.ty
same_type [] ds i c d same h l at here = absurd (omega arith)
same_type (a ∷ cs) [] i c d same h l at here = absurd (omega arith)
same_type (a ∷ cs) (b ∷ ds) zero c d same h l at here =
    let types : a.ty ≡ b.ty = cc in ap (λ x. x.ty) at ∙ types ∙ ap (λ x. x.ty) (sym here)
same_type (a ∷ cs) (b ∷ ds) (suc i) c d same h l at here =
    let rest : map (λ c. c.ty) cs ≡ map (λ c. c.ty) ds = cc in same_type cs ds i c d rest (omega arith) (omega arith) at here

pub same_length : (cs ds : List TypedValues) → map (λ c. c.ty) cs ≡ map (λ c. c.ty) ds → length cs ≡ length ds
same_length cs ds same = omega (arith, length-map cs (λ c. c.ty), length-map ds (λ c. c.ty), ap length same)

-- what was joined comes off again
pub unjoined : (cs ds : List TypedValues) (n : ℕ) → AreLong cs n → map (trim n) (joined cs ds) ≡ cs
unjoined [] ds n long = refl
unjoined (c ∷ cs) [] n long = λ k. record { ty = c.ty; values = take_all n c.values (omega (arith, long.0)) k } ∷ trim_none cs n long.1 k
unjoined (c ∷ cs) (d ∷ ds) n long = λ k. record { ty = c.ty; values = take_at c.values d.values n long.0 k } ∷ unjoined cs ds n long.1 k

pub rows_fit : (cs : List TypedValues) (n : ℕ) → AreLong cs n → AreTyped cs → All (RowFits (map (λ c. c.ty) cs)) (rows_upto cs n)
rows_fit cs n long typed i d h =
    let within : i < n = omega (arith, h, count_rows cs n) in
    subst (RowFits (map (λ c. c.ty) cs)) (get_or_default (rows_upto cs n) i [] d h) (row_fits cs n i long typed within)

pub ruleset row_laws = (row_get, rows_fit)
