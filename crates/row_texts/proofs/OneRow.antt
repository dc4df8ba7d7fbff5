-- A line has one answer.
use Rattle.std.proofs.Common.{◌≡◌, ◌≢◌, ℕ, suc, ◌+◌, List, [], ◌∷◌, ◌++◌, length, map, Result, Ok, Err, refl, sym, ap, subst, ◌∙◌, inl, inr, arith}
use Rattle.value_types.specs.Folds.{ty_of, value_of}
use Rattle.value_types.specs.declared.ty.Ty.{Ty}
use Rattle.value_types.specs.declared.value.Value.{Value}
use Rattle.tsv_text.specs.Lines.{fields_of}
use Rattle.scalar_texts.specs.States.{ReadsStates}
use Rattle.scalar_texts.specs.declared.fault.FieldFault.{FieldFault}
use Rattle.scalar_texts.specs.declared.fault.FieldFault.TheVariants as faults
use Rattle.tsv_values.specs.Answer.{IsFieldAnswer, IsTold}
use Rattle.tsv_values.specs.Elements.{Said}
use Rattle.tsv_values.specs.OneAnswer.{OneFieldAnswer}
use Rattle.row_texts.specs.OneRow.{IsSameRow, IsToldRow, OneFirstRefused, OneListOfRows, OneRowAnswer, RowsOrRefused, SaidRow}
use Rattle.row_texts.specs.Rows.{AreRows, AreValues, IsFirstFault, IsFirstRefused, IsRowAnswer}
use Rattle.row_texts.specs.declared.refusal.LineRefusal.{LineRefusal}
use Rattle.row_texts.specs.declared.refusal.LineRefusal.TheVariants.{FieldCount, Field, OutOfMemory}

-- ---- faults of fields

-- a fault that isn't want of memory is told
fault_told : (fault : FieldFault) → fault ≢ faults.OutOfMemory → (P : Said → Type 0) → IsTold P (Err fault) → P (Err fault)
fault_told faults.OutOfMemory n P h = absurd (n refl)
fault_told faults.NotNumber n P h = h
fault_told faults.OutOfRange n P h = h
fault_told (faults.Text x) n P h = h
fault_told (faults.BadArray at) n P h = h
fault_told (faults.BadMap at) n P h = h
fault_told faults.NotNullable n P h = h
fault_told (faults.NotHex at) n P h = h
fault_told (faults.BadState x) n P h = h

same_said : (a b : Value) → (let s : Said = Ok (value_of a) in s) ≡ Ok (value_of b) → value_of a ≡ value_of b
same_said a b e = cc

same_fault : (a b : FieldFault) → (let s : Said = Err a in s) ≡ Err b → a ≡ b
same_fault a b e = cc

not_both_said : (a : FieldFault) (v : Value) → (let s : Said = Err a in s) ≡ Ok (value_of v) → ⊥
not_both_said a v e = cc

module _ (law : OneFieldAnswer) (reads : ReadsStates) where
  one_value : (t : Ty) (f : List ℕ) (v w : Value) → IsFieldAnswer reads (ty_of t) f (Ok v) → IsFieldAnswer reads (ty_of t) f (Ok w) → value_of v ≡ value_of w
  one_value t f v w h g = same_said v w (law reads (ty_of t) f (Ok v) (Ok w) h g)

  one_fault : (t : Ty) (f : List ℕ) (a b : FieldFault) → a ≢ faults.OutOfMemory → b ≢ faults.OutOfMemory → IsFieldAnswer reads (ty_of t) f (Err a) → IsFieldAnswer reads (ty_of t) f (Err b) → a ≡ b
  one_fault t f a b n m h g =
      same_fault a b (fault_told b m (λ s. Err a ≡ s) (fault_told a n (λ s. IsTold (λ z. s ≡ z) (Err b)) (law reads (ty_of t) f (Err a) (Err b) h g)))

  value_or_fault : (t : Ty) (f : List ℕ) (a : FieldFault) (v : Value) → a ≢ faults.OutOfMemory → IsFieldAnswer reads (ty_of t) f (Err a) → IsFieldAnswer reads (ty_of t) f (Ok v) → ⊥
  value_or_fault t f a v n h g = not_both_said a v (fault_told a n (λ s. IsTold (λ z. s ≡ z) (Ok v)) (law reads (ty_of t) f (Err a) (Ok v) h g))

  -- ---- the fields of a line

  one_row : (ts : List Ty) (fs : List (List ℕ)) (vs ws : List Value) → AreValues reads ts fs vs → AreValues reads ts fs ws → map value_of vs ≡ map value_of ws
  one_row [] [] [] [] h g = refl
  one_row (t ∷ ts) (f ∷ fs) (v ∷ vs) (w ∷ ws) h g =
      ap (λ x. x ∷ map value_of vs) (one_value t f v w h.0 g.0) ∙ ap (λ xs. value_of w ∷ xs) (one_row ts fs vs ws h.1 g.1)
  one_row [] [] [] (w ∷ ws) h g = absurd g
  one_row [] [] (v ∷ vs) ws h g = absurd h
  one_row [] (f ∷ fs) vs ws h g = absurd h
  one_row (t ∷ ts) [] vs ws h g = absurd h
  one_row (t ∷ ts) (f ∷ fs) [] ws h g = absurd h
  one_row (t ∷ ts) (f ∷ fs) (v ∷ vs) [] h g = absurd g

  as_many : (ts : List Ty) (fs : List (List ℕ)) (vs : List Value) → AreValues reads ts fs vs → length fs ≡ length ts
  as_many [] [] [] h = refl
  as_many (t ∷ ts) (f ∷ fs) (v ∷ vs) h = ap suc (as_many ts fs vs h.1)
  as_many [] [] (v ∷ vs) h = absurd h
  as_many [] (f ∷ fs) vs h = absurd h
  as_many (t ∷ ts) [] vs h = absurd h
  as_many (t ∷ ts) (f ∷ fs) [] h = absurd h

  row_or_fault : (from : ℕ) (ts : List Ty) (fs : List (List ℕ)) (vs : List Value) (column : ℕ) (fault : FieldFault) → fault ≢ faults.OutOfMemory →
      AreValues reads ts fs vs → IsFirstFault reads from ts fs column fault → ⊥
  row_or_fault from [] fs vs column fault n h g = g
  row_or_fault from (t ∷ ts) [] vs column fault n h g = g
  row_or_fault from (t ∷ ts) (f ∷ fs) [] column fault n h g = absurd h
  row_or_fault from (t ∷ ts) (f ∷ fs) (v ∷ vs) column fault n h (inl g) = value_or_fault t f fault v n g.1 h.0
  row_or_fault from (t ∷ ts) (f ∷ fs) (v ∷ vs) column fault n h (inr g) = row_or_fault (from + 1) ts fs vs column fault n h.1 g.2

  one_first : (from : ℕ) (ts : List Ty) (fs : List (List ℕ)) (c d : ℕ) (a b : FieldFault) → a ≢ faults.OutOfMemory → b ≢ faults.OutOfMemory →
      IsFirstFault reads from ts fs c a → IsFirstFault reads from ts fs d b → (c ≡ d) × (a ≡ b)
  one_first from [] fs c d a b n m h g = absurd h
  one_first from (t ∷ ts) [] c d a b n m h g = absurd h
  one_first from (t ∷ ts) (f ∷ fs) c d a b n m (inl h) (inl g) = (h.0 ∙ sym g.0, one_fault t f a b n m h.1 g.1)
  one_first from (t ∷ ts) (f ∷ fs) c d a b n m (inl h) (inr g) = absurd (value_or_fault t f a g.0 n h.1 g.1)
  one_first from (t ∷ ts) (f ∷ fs) c d a b n m (inr h) (inl g) = absurd (value_or_fault t f b h.0 m g.1 h.1)
  one_first from (t ∷ ts) (f ∷ fs) c d a b n m (inr h) (inr g) = one_first (from + 1) ts fs c d a b n m h.2 g.2

  -- ---- lines

  module _ (types : List Ty) where
    abbrev Tells : List ℕ → SaidRow → Type 0
    Tells line (Ok row) = (values : List Value) × AreValues reads types (fields_of line) values × (row ≡ map value_of values)
    Tells line (Err (FieldCount want have)) = IsRowAnswer reads types line (Err (FieldCount want have))
    Tells line (Err (Field column fault)) = IsRowAnswer reads types line (Err (Field column fault))
    Tells line (Err OutOfMemory) = ⊥

    told : (line : List ℕ) (answer : Result (List Value) LineRefusal) → IsRowAnswer reads types line answer → IsToldRow (Tells line) answer
    told line (Ok row) h = (row, h, refl)
    told line (Err (FieldCount want have)) h = h
    told line (Err (Field column fault)) h = h
    told line (Err OutOfMemory) h = tt

    one_tells : (line : List ℕ) (a b : SaidRow) → Tells line a → Tells line b → a ≡ b
    one_tells line (Ok a) (Ok b) h g = ap Ok (h.2 ∙ one_row types (fields_of line) h.0 g.0 h.1 g.1 ∙ sym g.2)
    one_tells line (Err (FieldCount want have)) (Err (FieldCount need has)) h g =
        ap (λ n. Err (FieldCount n have)) (h.0 ∙ sym g.0) ∙ ap (λ n. Err (FieldCount need n)) (h.1 ∙ sym g.1)
    one_tells line (Err (Field column fault)) (Err (Field place cause)) h g =
        let same = one_first 1 types (fields_of line) column place fault cause h.1 g.1 h.2 g.2 in
        ap (λ n. Err (Field n fault)) same.0 ∙ ap (λ f. Err (Field place f)) same.1
    one_tells line (Ok a) (Err (FieldCount want have)) h g = absurd (g.2 (g.1 ∙ as_many types (fields_of line) h.0 h.1 ∙ sym g.0))
    one_tells line (Err (FieldCount want have)) (Ok b) h g = absurd (h.2 (h.1 ∙ as_many types (fields_of line) g.0 g.1 ∙ sym h.0))
    one_tells line (Ok a) (Err (Field column fault)) h g = absurd (row_or_fault 1 types (fields_of line) h.0 column fault g.1 h.1 g.2)
    one_tells line (Err (Field column fault)) (Ok b) h g = absurd (row_or_fault 1 types (fields_of line) g.0 column fault h.1 g.1 h.2)
    one_tells line (Err (FieldCount want have)) (Err (Field column fault)) h g = absurd (h.2 (h.1 ∙ g.0 ∙ sym h.0))
    one_tells line (Err (Field column fault)) (Err (FieldCount want have)) h g = absurd (g.2 (g.1 ∙ h.0 ∙ sym g.0))
    one_tells line (Err OutOfMemory) b h g = absurd h
    one_tells line a (Err OutOfMemory) h g = absurd g

told_so : (P Q : SaidRow → Type 0) → ((said : SaidRow) → P said → Q said) → (answer : Result (List Value) LineRefusal) → IsToldRow P answer → IsToldRow Q answer
told_so P Q f (Ok row) h = f _ h
told_so P Q f (Err (FieldCount want have)) h = f _ h
told_so P Q f (Err (Field column fault)) h = f _ h
told_so P Q f (Err OutOfMemory) h = tt

pub one_row_answer : OneFieldAnswer → OneRowAnswer
one_row_answer law reads types line one other h g =
    told_so (Tells law reads types line) (λ a. IsToldRow (λ b. a ≡ b) other)
    (λ a x. told_so (Tells law reads types line) (λ b. a ≡ b) (λ b y. one_tells law reads types line a b x y) other (told law reads types line other g)) one (told law reads types line one h)

-- ---- all lines

pub one_list_of_rows : OneFieldAnswer → OneListOfRows
one_list_of_rows law reads types [] [] [] h g = refl
one_list_of_rows law reads types (line ∷ lines) (a ∷ one) (b ∷ other) h g =
    ap (λ x. x ∷ map (map value_of) one) (one_row law reads types (fields_of line) a b h.0 g.0)
    ∙ ap (λ xs. map value_of b ∷ xs) (one_list_of_rows law reads types lines one other h.1 g.1)
one_list_of_rows law reads types [] [] (b ∷ other) h g = absurd g
one_list_of_rows law reads types [] (a ∷ one) other h g = absurd h
one_list_of_rows law reads types (line ∷ lines) [] other h g = absurd h
one_list_of_rows law reads types (line ∷ lines) (a ∷ one) [] h g = absurd g

-- a refusal that isn't want of memory is told
refusal_told : (refusal : LineRefusal) → refusal ≢ OutOfMemory → (P : SaidRow → Type 0) → IsToldRow P (Err refusal) → P (Err refusal)
refusal_told OutOfMemory n P h = absurd (n refl)
refusal_told (FieldCount want have) n P h = h
refusal_told (Field column fault) n P h = h

same_refusal : (a b : LineRefusal) → (let s : SaidRow = Err a in s) ≡ Err b → a ≡ b
same_refusal a b e = cc

not_row : (a : LineRefusal) (row : List Value) → (let s : SaidRow = Err a in s) ≡ Ok (map value_of row) → ⊥
not_row a row e = cc

cons_same : {A : Type 0} (x y : A) (xs ys : List A) → x ∷ xs ≡ y ∷ ys → (x ≡ y) × (xs ≡ ys)
cons_same x y xs ys e = (cc, cc)

no_cons : {A : Type 0} (before : List A) (y : A) (ys : List A) → [] ≡ before ++ y ∷ ys → ⊥
no_cons [] y ys e = cc
no_cons (x ∷ before) y ys e = cc

module _ (law : OneRowAnswer) (reads : ReadsStates) (types : List Ty) where
  one_refusal : (line : List ℕ) (a b : LineRefusal) → a ≢ OutOfMemory → b ≢ OutOfMemory → IsRowAnswer reads types line (Err a) → IsRowAnswer reads types line (Err b) → a ≡ b
  one_refusal line a b n m h g =
      same_refusal a b (refusal_told b m (λ s. Err a ≡ s) (refusal_told a n (λ s. IsToldRow (λ z. s ≡ z) (Err b)) (law reads types line (Err a) (Err b) h g)))

  row_or_refused : (line : List ℕ) (a : LineRefusal) (row : List Value) → a ≢ OutOfMemory → IsRowAnswer reads types line (Err a) → IsRowAnswer reads types line (Ok row) → ⊥
  row_or_refused line a row n h g = not_row a row (refusal_told a n (λ s. IsToldRow (λ z. s ≡ z) (Ok row)) (law reads types line (Err a) (Ok row) h g))

  -- the line behind the first rows of lines that are all rows is a row
  stands_before : (before : List (List ℕ)) (line : List ℕ) (after : List (List ℕ)) (rows : List (List Value)) (a : LineRefusal) → a ≢ OutOfMemory →
      AreRows reads types (before ++ line ∷ after) rows → IsRowAnswer reads types line (Err a) → ⊥
  stands_before [] line after [] a n h g = absurd h
  stands_before [] line after (row ∷ rows) a n h g = row_or_refused line a row n g h.0
  stands_before (b ∷ before) line after [] a n h g = absurd h
  stands_before (b ∷ before) line after (row ∷ rows) a n h g = stands_before before line after rows a n h.1 g

  refused_alike : (before : List (List ℕ)) (line : List ℕ) (after others : List (List ℕ)) (other : List ℕ) (behind : List (List ℕ)) (rows more : List (List Value)) (a b : LineRefusal) →
      a ≢ OutOfMemory → b ≢ OutOfMemory → before ++ line ∷ after ≡ others ++ other ∷ behind → AreRows reads types before rows → AreRows reads types others more →
      IsRowAnswer reads types line (Err a) → IsRowAnswer reads types other (Err b) → (length before ≡ length others) × (a ≡ b)
  refused_alike [] line after [] other behind rows more a b n m e h g x y =
      let same = cons_same line other after behind e in
      (refl, one_refusal other a b n m (subst (λ l. IsRowAnswer reads types l (Err a)) same.0 x) y)
  refused_alike [] line after (o ∷ others) other behind rows [] a b n m e h g x y = absurd g
  refused_alike [] line after (o ∷ others) other behind rows (row ∷ more) a b n m e h g x y =
      let same = cons_same line o after (others ++ other ∷ behind) e in
      absurd (row_or_refused o a row n (subst (λ l. IsRowAnswer reads types l (Err a)) same.0 x) g.0)
  refused_alike (l ∷ before) line after [] other behind [] more a b n m e h g x y = absurd h
  refused_alike (l ∷ before) line after [] other behind (row ∷ rows) more a b n m e h g x y =
      let same = cons_same l other (before ++ line ∷ after) behind e in
      absurd (row_or_refused l b row m (subst (λ z. IsRowAnswer reads types z (Err b)) (sym same.0) y) h.0)
  refused_alike (l ∷ before) line after (o ∷ others) other behind [] more a b n m e h g x y = absurd h
  refused_alike (l ∷ before) line after (o ∷ others) other behind (row ∷ rows) [] a b n m e h g x y = absurd g
  refused_alike (l ∷ before) line after (o ∷ others) other behind (row ∷ rows) (last ∷ more) a b n m e h g x y =
      let same = cons_same l o (before ++ line ∷ after) (others ++ other ∷ behind) e in
      let r = refused_alike before line after others other behind rows more a b n m same.1 h.1 g.1 x y in
      (ap suc r.0, r.1)

pub one_first_refused : OneRowAnswer → OneFirstRefused
one_first_refused law reads types lines m n a b x y h g =
    let r = refused_alike law reads types h.before h.line h.after g.before g.line g.after h.rows g.rows a b x y (sym h.split ∙ g.split) h.read g.read h.refused g.refused in
    (h.place ∙ ap (λ k. k + 1) r.0 ∙ sym g.place, r.1)

pub rows_or_refused : OneRowAnswer → RowsOrRefused
rows_or_refused law reads types lines rows n a x h g =
    stands_before law reads types g.before g.line g.after rows a x (subst (λ ls. AreRows reads types ls rows) g.split h) g.refused
