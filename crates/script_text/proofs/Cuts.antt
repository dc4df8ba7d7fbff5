-- Where a text is cut behind its first line.
use Rattle.std.proofs.Common.{◌≡◌, refl, sym, ap, ◌∙◌, ◌⊎◌, inl, inr, ℕ, suc, ◌≤◌, ◌<◌, List, [], ◌∷◌, ◌++◌, length, take, drop, arith}
use Rattle.std.specs.List.{onto_first}
use Rattle.tsv_text.specs.Lines.{lines_of}
use Rattle.line_reader.proofs.Lines.{Kind, newline, other, kind_of, lines_of-nil, lines_of-newline, lines_of-other}

-- A text behind its first line, and what the first line is in front of anything else.
pub record IsCut (text : List ℕ) : Type 0 where
  pub line : List ℕ
  pub more : List (List ℕ)
  pub whole : lines_of text ≡ line ∷ more
  pub short : length line ≤ length text
  pub rest : lines_of (drop (suc (length line)) text) ≡ more
  pub front : (ys : List ℕ) → (length line < length text) ⊎ (ys ≡ []) → lines_of (take (suc (length line)) text ++ ys) ≡ line ∷ lines_of ys

one_byte : (b : ℕ) (ys : List ℕ) → Kind b → ys ≡ [] → lines_of (b ∷ ys) ≡ lines_of (b ∷ [])
one_byte b ys k e = ap (λ (xs : List ℕ). lines_of (b ∷ xs)) e

cut_newline : (b : ℕ) (bs : List ℕ) (k : Kind b) → lines_of (b ∷ bs) ≡ [] ∷ lines_of bs → ((ys : List ℕ) → lines_of (b ∷ ys) ≡ [] ∷ lines_of ys) → IsCut (b ∷ bs)
cut_newline b bs k e f = record {
  line = [];
  more = lines_of bs;
  whole = e;
  short = omega arith;
  rest = refl;
  front = λ ys h. f ys;
}

last_front : (b : ℕ) (ys : List ℕ) → lines_of (b ∷ []) ≡ (b ∷ []) ∷ [] → (1 < 1) ⊎ (ys ≡ []) → lines_of (b ∷ ys) ≡ (b ∷ []) ∷ lines_of ys
last_front b ys e (inl h) = absurd (omega (arith, h))
last_front b ys e (inr h) = ap (λ (xs : List ℕ). lines_of (b ∷ xs)) h ∙ e ∙ sym (ap (λ (xs : List ℕ). (b ∷ []) ∷ lines_of xs) h ∙ ap (λ (xs : List (List ℕ)). (b ∷ []) ∷ xs) lines_of-nil)

cut_last : (b : ℕ) → lines_of (b ∷ []) ≡ (b ∷ []) ∷ [] → IsCut (b ∷ [])
cut_last b e = record {
  line = b ∷ [];
  more = [];
  whole = e;
  short = omega arith;
  rest = lines_of-nil;
  front = λ ys h. last_front b ys e h;
}

less_by_one : (m n : ℕ) (ys : List ℕ) → (suc m < suc n) ⊎ (ys ≡ []) → (m < n) ⊎ (ys ≡ [])
less_by_one m n ys (inl h) = inl (omega (arith, h))
less_by_one m n ys (inr h) = inr h

cut_other : (b c : ℕ) (bs : List ℕ) → ((ys : List ℕ) → lines_of (b ∷ ys) ≡ onto_first b (lines_of ys)) → IsCut (c ∷ bs) → IsCut (b ∷ c ∷ bs)
cut_other b c bs f h = record {
  line = b ∷ h.line;
  more = h.more;
  whole = f (c ∷ bs) ∙ ap (onto_first b) h.whole;
  short = (let s : length h.line ≤ length (c ∷ bs) = h.short in omega (arith, s));
  rest = h.rest;
  front = λ ys less. f (take (suc (length h.line)) (c ∷ bs) ++ ys) ∙ ap (onto_first b) (h.front ys (less_by_one (length h.line) (length (c ∷ bs)) ys less));
}

by_kind : (b : ℕ) (bs : List ℕ) → Kind b → ((c : ℕ) (cs : List ℕ) → bs ≡ c ∷ cs → IsCut bs) → IsCut (b ∷ bs)
by_kind b bs (newline e) h = cut_newline b bs (newline e) (lines_of-newline b bs e) (λ ys. lines_of-newline b ys e)
by_kind b [] (other e) h = cut_last b (lines_of-other b [] e ∙ ap (onto_first b) lines_of-nil)
by_kind b (c ∷ cs) (other e) h = cut_other b c cs (λ ys. lines_of-other b ys e) (h c cs refl)

cut_below : (b : ℕ) (bs : List ℕ) → IsCut (b ∷ bs)
cut_below b [] = by_kind b [] (kind_of b) (λ c cs e. absurd cc)
cut_below b (c ∷ cs) = by_kind b (c ∷ cs) (kind_of b) (λ d ds e. cut_below c cs)

pub cut : (text : List ℕ) → 0 < length text → IsCut text
cut [] some = absurd (omega (arith, some))
cut (b ∷ bs) some = cut_below b bs
