-- The lines of bytes, from the left.
use Rattle.std.proofs.Common.{◌≡◌, ℕ, zero, suc, ◌+◌, ◌≤◌, Bool, true, false, cond, List, [], ◌∷◌, ◌++◌, length, refl, sym, ap, ◌∙◌, arith, subst}
use Rattle.std.specs.List.{slice_split, onto_first}
use Rattle.std.proofs.lemmas.Bool.Decides.{nat_tests}
use Rattle.tsv_text.specs.Lines.{is_newline, lines_of, without_empty_last}
use Rattle.line_reader.specs.Limits.{ends_line, AreShort}

-- a list of parts is never empty, so that the part before it is kept
front-kept : (x : List ℕ) (bs : List ℕ) → without_empty_last (x ∷ slice_split is_newline bs) ≡ x ∷ without_empty_last (slice_split is_newline bs)
front-kept x [] = refl
front-kept x (b ∷ bs) =
    elim (is_newline b) as (λ t. without_empty_last (x ∷ cond t ([] ∷ slice_split is_newline bs) (onto_first b (slice_split is_newline bs))) ≡ x ∷ without_empty_last (cond t ([] ∷ slice_split is_newline bs) (onto_first b (slice_split is_newline bs)))) [
      | true ↦ refl
      | false ↦ elim (slice_split is_newline bs) as (λ parts. without_empty_last (x ∷ onto_first b parts) ≡ x ∷ without_empty_last (onto_first b parts)) [ [] ↦ refl | part ∷ parts ↦ refl ]
    ]

last-kept : (b : ℕ) (x : List ℕ) (xs : List (List ℕ)) → without_empty_last ((b ∷ x) ∷ xs) ≡ onto_first b (without_empty_last (x ∷ xs))
last-kept b [] [] = refl
last-kept b (c ∷ x) [] = grind (arith, nat_tests)
last-kept b x (y ∷ ys) = refl

byte-kept : (b : ℕ) (bs : List ℕ) → without_empty_last (onto_first b (slice_split is_newline bs)) ≡ onto_first b (without_empty_last (slice_split is_newline bs))
byte-kept b [] = last-kept b [] []
byte-kept b (c ∷ bs) =
    elim (is_newline c) as (λ t. without_empty_last (onto_first b (cond t ([] ∷ slice_split is_newline bs) (onto_first c (slice_split is_newline bs)))) ≡ onto_first b (without_empty_last (cond t ([] ∷ slice_split is_newline bs) (onto_first c (slice_split is_newline bs))))) [
      | true ↦ last-kept b [] (slice_split is_newline bs)
      | false ↦ elim (slice_split is_newline bs) as (λ parts. without_empty_last (onto_first b (onto_first c parts)) ≡ onto_first b (without_empty_last (onto_first c parts))) [
        | [] ↦ last-kept b (c ∷ []) []
        | part ∷ parts ↦ last-kept b (c ∷ part) parts
      ]
    ]

-- a newline ends an empty line
pub lines_of-newline : (b : ℕ) (bs : List ℕ) → is_newline b ≡ true → lines_of (b ∷ bs) ≡ [] ∷ lines_of bs
unfolding lines_of
lines_of-newline b bs e = ap (λ t. without_empty_last (cond t ([] ∷ slice_split is_newline bs) (onto_first b (slice_split is_newline bs)))) e ∙ front-kept [] bs

-- any other byte begins the first line
pub lines_of-other : (b : ℕ) (bs : List ℕ) → is_newline b ≡ false → lines_of (b ∷ bs) ≡ onto_first b (lines_of bs)
unfolding lines_of
lines_of-other b bs e = ap (λ t. without_empty_last (cond t ([] ∷ slice_split is_newline bs) (onto_first b (slice_split is_newline bs)))) e ∙ byte-kept b bs

pub lines_of-nil : lines_of [] ≡ []
unfolding lines_of
lines_of-nil = refl

-- there is a first line
abbrev HasLine : List (List ℕ) → Type 0
HasLine [] = ⊥
HasLine (line ∷ lines) = Unit {0}

onto-HasLine : (b : ℕ) (xs : List (List ℕ)) → HasLine (onto_first b xs)
onto-HasLine b [] = tt
onto-HasLine b (line ∷ xs) = tt

-- what a byte makes of lines
pub data Kind (b : ℕ) : Type 0 where
  newline : is_newline b ≡ true → Kind b
  other : is_newline b ≡ false → Kind b

kind_as : (b : ℕ) (t : Bool) → is_newline b ≡ t → Kind b
kind_as b true e = newline e
kind_as b false e = other e

pub kind_of : (b : ℕ) → Kind b
kind_of b = kind_as b (is_newline b) refl

some-line : (b : ℕ) (bs : List ℕ) → Kind b → HasLine (lines_of (b ∷ bs))
some-line b bs (newline e) = subst HasLine (sym (lines_of-newline b bs e)) tt
some-line b bs (other e) = subst HasLine (sym (lines_of-other b bs e)) (onto-HasLine b (lines_of bs))

onto-append : (b : ℕ) (xs ys : List (List ℕ)) → HasLine xs → onto_first b (xs ++ ys) ≡ onto_first b xs ++ ys
onto-append b [] ys some = absurd some
onto-append b (line ∷ xs) ys some = refl

append-step : (b c : ℕ) (bs more : List ℕ) → Kind b → lines_of ((c ∷ bs) ++ more) ≡ lines_of (c ∷ bs) ++ lines_of more
    → lines_of (b ∷ (c ∷ bs) ++ more) ≡ lines_of (b ∷ c ∷ bs) ++ lines_of more
append-step b c bs more (newline e) h =
    lines_of-newline b ((c ∷ bs) ++ more) e ∙ ap (λ (xs : List (List ℕ)). [] ∷ xs) h ∙ sym (ap (λ (xs : List (List ℕ)). xs ++ lines_of more) (lines_of-newline b (c ∷ bs) e))
append-step b c bs more (other e) h =
    lines_of-other b ((c ∷ bs) ++ more) e ∙ ap (onto_first b) h ∙ onto-append b (lines_of (c ∷ bs)) (lines_of more) (some-line c bs (kind_of c))
    ∙ sym (ap (λ (xs : List (List ℕ)). xs ++ lines_of more) (lines_of-other b (c ∷ bs) e))

-- where a text ends a line, its lines and those behind it are the lines of both
pub lines_of-append : (front more : List ℕ) → ends_line front ≡ true → lines_of (front ++ more) ≡ lines_of front ++ lines_of more
lines_of-append [] more ends = sym (ap (λ (xs : List (List ℕ)). xs ++ lines_of more) lines_of-nil)
lines_of-append (b ∷ []) more ends = lines_of-newline b more ends ∙ sym (ap (λ (xs : List (List ℕ)). xs ++ lines_of more) (lines_of-newline b [] ends ∙ ap (λ (xs : List (List ℕ)). [] ∷ xs) lines_of-nil))
lines_of-append (b ∷ c ∷ bs) more ends = append-step b c bs more (kind_of b) (lines_of-append (c ∷ bs) more ends)

-- two texts that end lines do so one behind the other
pub ends_line-append : (front more : List ℕ) → ends_line front ≡ true → ends_line more ≡ true → ends_line (front ++ more) ≡ true
ends_line-append [] more one second = second
ends_line-append (b ∷ []) [] one second = one
ends_line-append (b ∷ []) (c ∷ more) one second = second
ends_line-append (b ∷ c ∷ front) more one second = ends_line-append (c ∷ front) more one second

pub short-append : (m : ℕ) (xs ys : List (List ℕ)) → AreShort m xs → AreShort m ys → AreShort m (xs ++ ys)
short-append m [] ys a b = b
short-append m (x ∷ xs) ys a b = (a.0, short-append m xs ys a.1 b)

short-weaken : (m n : ℕ) (xs : List (List ℕ)) → m ≤ n → AreShort m xs → AreShort n xs
short-weaken m n [] h a = tt
short-weaken m n (x ∷ xs) h a = (omega (arith, a.0), short-weaken m n xs h a.1)

short-onto : (b m : ℕ) (xs : List (List ℕ)) → AreShort m xs → AreShort (m + 1) (onto_first b xs)
short-onto b m [] a = (omega arith, tt)
short-onto b m (x ∷ xs) a = (omega (arith, a.0), short-weaken m (m + 1) xs (omega arith) a.1)

short-step : (b m : ℕ) (bs : List ℕ) → Kind b → AreShort m (lines_of bs) → AreShort (m + 1) (lines_of (b ∷ bs))
short-step b m bs (newline e) a = subst (AreShort (m + 1)) (sym (lines_of-newline b bs e)) (omega arith, short-weaken m (m + 1) (lines_of bs) (omega arith) a)
short-step b m bs (other e) a = subst (AreShort (m + 1)) (sym (lines_of-other b bs e)) (short-onto b m (lines_of bs) a)

short-all : (bs : List ℕ) → AreShort (length bs) (lines_of bs)
short-all [] = subst (AreShort 0) (sym lines_of-nil) tt
short-all (b ∷ bs) = subst (λ n. AreShort n (lines_of (b ∷ bs))) (omega arith) (short-step b (length bs) bs (kind_of b) (short-all bs))

-- a few bytes have no longer lines
pub short-few : (m : ℕ) (bs : List ℕ) → length bs ≤ m → AreShort m (lines_of bs)
short-few m bs few = short-weaken (length bs) m (lines_of bs) few (short-all bs)

short-but-one : (m : ℕ) (bs : List ℕ) → ends_line bs ≡ true → length bs ≡ m + 1 → AreShort m (lines_of bs)
short-but-one m [] ends e = absurd (omega arith)
short-but-one m (b ∷ []) ends e = subst (AreShort m) (sym (lines_of-newline b [] ends ∙ ap (λ (xs : List (List ℕ)). [] ∷ xs) lines_of-nil)) (omega arith, tt)
short-but-one zero (b ∷ c ∷ bs) ends e = absurd (omega arith)
short-but-one (suc m) (b ∷ c ∷ bs) ends e =
    subst (λ n. AreShort n (lines_of (b ∷ c ∷ bs))) (omega arith) (short-step b m (c ∷ bs) (kind_of b) (short-but-one m (c ∷ bs) ends (omega arith)))

-- a newline that ends them is of no line
pub short-ended : (m : ℕ) (bs : List ℕ) → ends_line bs ≡ true → length bs ≤ m + 1 → AreShort m (lines_of bs)
short-ended m [] ends few = short-few m [] (omega arith)
short-ended m (b ∷ bs) ends few = short-weaken (length bs) m (lines_of (b ∷ bs)) (omega arith) (short-but-one (length bs) (b ∷ bs) ends (omega arith))
