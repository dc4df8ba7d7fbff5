-- Fronts of one input: whole lines that break no limit, and what follows them.
use Rattle.std.proofs.Common.{◌≡◌, ◌⊎◌, ℕ, ◌+◌, ◌-◌, ◌≤◌, ◌<◌, not, true, false, cond, List, [], ◌∷◌, ◌++◌, length, take, refl, sym, ap, subst, ◌∙◌, inl, inr, arith, append-nil, length-append, one-add}
use Rattle.std.specs.List.{onto_first, position_or_len}
use Rattle.batch_reader.specs.Reading.{IsFront}
use Rattle.line_reader.specs.Ahead.{Ahead}
use Rattle.line_reader.specs.Limits.{AreShort, IsWithin, bytes_to_end, ends_line, next_of}
use Rattle.line_reader.proofs.Lines.{Kind, kind_of, lines_of-append, lines_of-newline, lines_of-nil, lines_of-other, newline, other}
use Rattle.tsv_text.specs.Lines.{is_newline, lines_of}

-- The first line of bytes.

next-newline : (b : ℕ) (bs : List ℕ) → is_newline b ≡ true → next_of (b ∷ bs) ≡ []
next-newline b bs e = ap (λ t. take (cond (not t) (1 + position_or_len is_newline bs) 0) (b ∷ bs)) e

next-other : (b : ℕ) (bs : List ℕ) → is_newline b ≡ false → next_of (b ∷ bs) ≡ b ∷ next_of bs
next-other b bs e = ap (λ t. take (cond (not t) (1 + position_or_len is_newline bs) 0) (b ∷ bs)) e ∙ ap (λ k. take k (b ∷ bs)) (one-add (position_or_len is_newline bs))

-- what stands behind the first line
record HasFirst (bytes : List ℕ) : Type 0 where
  more : List (List ℕ)
  lines : lines_of bytes ≡ next_of bytes ∷ more

first-of : (b : ℕ) (bs : List ℕ) → HasFirst (b ∷ bs)
first-of b [] = first (kind_of b)
  where
    first : Kind b → HasFirst (b ∷ [])
    first (newline e) = record { more = lines_of []; lines = lines_of-newline b [] e ∙ ap (λ l. l ∷ lines_of []) (sym (next-newline b [] e)) }
    first (other e) = record { more = []; lines = lines_of-other b [] e ∙ ap (onto_first b) lines_of-nil ∙ ap (λ (l : List ℕ). l ∷ []) (sym (next-other b [] e)) }
first-of b (c ∷ bs) = first (kind_of b) (first-of c bs)
  where
    first : Kind b → HasFirst (c ∷ bs) → HasFirst (b ∷ c ∷ bs)
    first (newline e) h = record { more = lines_of (c ∷ bs); lines = lines_of-newline b (c ∷ bs) e ∙ ap (λ l. l ∷ lines_of (c ∷ bs)) (sym (next-newline b (c ∷ bs) e)) }
    first (other e) h = record { more = h.more; lines = lines_of-other b (c ∷ bs) e ∙ ap (onto_first b) h.lines ∙ ap (λ l. l ∷ h.more) (sym (next-other b (c ∷ bs) e)) }

short-next : (m : ℕ) (bytes : List ℕ) → AreShort m (lines_of bytes) → length (next_of bytes) ≤ m
short-next m [] h = omega arith
short-next m (b ∷ bs) h = let first = first-of b bs in (subst (AreShort m) first.lines h).0

short-back : (m : ℕ) (xs ys : List (List ℕ)) → AreShort m (xs ++ ys) → AreShort m ys
short-back m [] ys h = h
short-back m (x ∷ xs) ys h = short-back m xs ys h.1

-- The first line of bytes that end a line, whatever follows them, is within them.
record HasNext (bytes behind : List ℕ) : Type 0 where
  same : next_of (bytes ++ behind) ≡ next_of bytes
  inside : length (next_of bytes) < length bytes

has-next : (b : ℕ) (bs behind : List ℕ) → ends_line (b ∷ bs) ≡ true → HasNext (b ∷ bs) behind
has-next b [] behind h = record { same = next-newline b behind h ∙ sym (next-newline b [] h); inside = omega (arith, ap length (next-newline b [] h)) }
has-next b (c ∷ bs) behind h = by (kind_of b) (has-next c bs behind h)
  where
    by : Kind b → HasNext (c ∷ bs) behind → HasNext (b ∷ c ∷ bs) behind
    by (newline e) n = record { same = next-newline b (c ∷ (bs ++ behind)) e ∙ sym (next-newline b (c ∷ bs) e); inside = omega (arith, ap length (next-newline b (c ∷ bs) e)) }
    by (other e) n = record { same = next-other b (c ∷ (bs ++ behind)) e ∙ ap (◌∷◌ b) n.same ∙ sym (next-other b (c ∷ bs) e); inside = omega (arith, n.inside, ap length (next-other b (c ∷ bs) e)) }

-- what ends a line, ends it behind any front
ends-behind : (front more : List ℕ) → ends_line (front ++ more) ≡ true → ends_line more ≡ true
ends-behind [] more h = h
ends-behind (x ∷ []) [] h = refl
ends-behind (x ∷ []) (y ∷ more) h = h
ends-behind (x ∷ y ∷ front) more h = ends-behind (y ∷ front) more h

none-more : (xs ys : List ℕ) → xs ++ ys ≡ [] → xs ≡ []
none-more [] ys e = refl
none-more (x ∷ xs) ys e = absurd cc

-- Of two fronts of one text one begins the other.

pub record Begins (front rest longer behind : List ℕ) : Type 0 where
  pub more : List ℕ
  pub longer_is : longer ≡ front ++ more
  pub rest_is : rest ≡ more ++ behind

same-byte : (x y : ℕ) (xs ys : List ℕ) → x ∷ xs ≡ y ∷ ys → x ≡ y
same-byte x y xs ys e = cc

same-bytes : (x y : ℕ) (xs ys : List ℕ) → x ∷ xs ≡ y ∷ ys → xs ≡ ys
same-bytes x y xs ys e = cc

pub one-begins : (f r g s : List ℕ) → f ++ r ≡ g ++ s → Begins f r g s ⊎ Begins g s f r
one-begins [] r g s e = inl (record { more = g; longer_is = refl; rest_is = e })
one-begins (x ∷ f) r [] s e = inr (record { more = x ∷ f; longer_is = refl; rest_is = sym e })
one-begins (x ∷ f) r (y ∷ g) s e = on (same-byte x y (f ++ r) (g ++ s) e) (one-begins f r g s (same-bytes x y (f ++ r) (g ++ s) e))
  where
    on : x ≡ y → Begins f r g s ⊎ Begins g s f r → Begins (x ∷ f) r (y ∷ g) s ⊎ Begins (y ∷ g) s (x ∷ f) r
    on h (inl b) = inl (record { more = b.more; longer_is = λ i. sym h i ∷ b.longer_is i; rest_is = b.rest_is })
    on h (inr b) = inr (record { more = b.more; longer_is = λ i. h i ∷ b.longer_is i; rest_is = b.rest_is })

pub nothing-more : (f r g s : List ℕ) → g ≡ f ++ [] → r ≡ [] ++ s → (g ≡ f) × (r ≡ s)
nothing-more f r g s longer follows = (longer ∙ append-nil f, follows)

module _ (a : Ahead) (input front rest longer behind more : List ℕ) (one : IsFront a input front rest) (other : IsFront a input longer behind) (is : longer ≡ front ++ more) (follows : rest ≡ more ++ behind) where
  pub lines-behind : lines_of longer ≡ lines_of front ++ lines_of more
  lines-behind = ap lines_of is ∙ by one.whole
    where
      by : (ends_line front ≡ true) ⊎ (rest ≡ []) → lines_of (front ++ more) ≡ lines_of front ++ lines_of more
      by (inl ends) = lines_of-append front more ends
      by (inr none) =
          let empty : more ≡ [] = none-more more behind (sym follows ∙ none) in
          ap (λ m. lines_of (front ++ m)) empty ∙ ap lines_of (append-nil front) ∙ sym (append-nil (lines_of front)) ∙ ap (λ ls. lines_of front ++ ls) (sym lines_of-nil ∙ ap lines_of (sym empty))

  -- behind the shorter front stands a line that breaks no limit
  pub next-within : (b : ℕ) (bs : List ℕ) → more ≡ b ∷ bs → IsWithin a.most_line (a.room - length front) rest
  next-within b bs e = by other.whole
    where
      short : length (next_of more) ≤ a.most_line
      short = short-next a.most_line more (short-back a.most_line (lines_of front) (lines_of more) (subst (AreShort a.most_line) lines-behind other.short))

      room : length more ≤ a.room - length front
      room = omega (arith, other.within, ap length is, length-append front more)

      within : next_of rest ≡ next_of more → bytes_to_end rest ≤ length more → IsWithin a.most_line (a.room - length front) rest
      within same inside = (omega (arith, ap length same, short), omega (arith, inside, room))

      by : (ends_line longer ≡ true) ⊎ (behind ≡ []) → IsWithin a.most_line (a.room - length front) rest
      by (inl ends) =
          let next : HasNext (b ∷ bs) behind = has-next b bs behind (subst (λ l. ends_line l ≡ true) e (ends-behind front more (subst (λ l. ends_line l ≡ true) is ends))) in
          let same : next_of rest ≡ next_of more = ap next_of (follows ∙ ap (λ m. m ++ behind) e) ∙ next.same ∙ ap next_of (sym e) in
          let inside : bytes_to_end rest ≤ length more = omega (arith, ap length same, ap (λ m. length (next_of m)) e, ap length e, next.inside) in
          within same inside
      by (inr none) =
          let all : rest ≡ more = follows ∙ ap (λ s. more ++ s) none ∙ append-nil more in
          let inside : bytes_to_end rest ≤ length more = omega (arith, ap length all) in
          within (ap next_of all) inside

-- where the whole input is lines that break no limit, so is the line behind each front
pub whole-within : (a : Ahead) (input front rest : List ℕ) → IsFront a input front rest → IsFront a input input [] → IsWithin a.most_line (a.room - length front) rest
whole-within a input front [] one whole = (omega arith, omega arith)
whole-within a input front (x ∷ xs) one whole = next-within a input front (x ∷ xs) input [] (x ∷ xs) one whole one.split (sym (append-nil (x ∷ xs))) x xs refl
