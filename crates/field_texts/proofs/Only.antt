-- What is in the grammar is accepted, and every stack that is reached can still be emptied.
use Rattle.std.proofs.Common.{◌≡◌, ℕ, zero, suc, true, List, [], ◌∷◌, ◌++◌, codes, Option, Some, None, Result, Ok, refl, sym, ap, subst, ◌∙◌, append_assoc, arith, inl, inr, ◌⊎◌}
use Rattle.first_fault.specs.Machine.{run, later, at_letter}
use Rattle.first_fault.proofs.Machines.{later_ok}
use Rattle.first_fault.specs.Grammar.{Then}
use Rattle.tsv_text.specs.Escapes as escapes
use Rattle.tsv_text.specs.Escapes.{Piece, plain, letter, pieces_then, is_hex_digit}
use Rattle.field_texts.specs.Syntax.{FieldForm, number, string, nullable, array, map_of, IsSpaces, Token, AreDigits, IsDigits, IsNumber, AllFitInQuotes, closed_text, IsQuoted, MoreOf, Closing, Opened, SyntaxOf}
use Rattle.field_texts.specs.declared.mark.Mark.{Mark}
use Rattle.field_texts.specs.declared.mark.Mark.TheVariants.{Space, Digit, Quote, Backslash, CloseBracket, CloseBrace, LetterX, LetterN}
use Rattle.field_texts.specs.Machine.{mark_of, Goal, value, first, more, first_pair, more_pair, between, digits, more_digits, quoted, escaped, hexed, letter_u, letter_l, opened, before, step_on, step, done}
use Rattle.field_texts.proofs.Marks.{IsMark, is_mark, mark_digit, mark_hex}
use Rattle.field_texts.proofs.Found.{Entry, Behind, Sound}

abbrev pub Runs : List Goal → List ℕ → Type 0
Runs s t = run step done s t ≡ Ok tt

steps : (s u : List Goal) (b : ℕ) (t : List ℕ) → step s b ≡ Some u → Runs u t → Runs s (b ∷ t)
steps s u b t e h = rw e (ap later h)

pub spaces_run : (s : List Goal) → step s 32 ≡ Some s → (a : List ℕ) → IsSpaces a → (t : List ℕ) → Runs s t → Runs s (a ++ t)
spaces_run s e [] sp t h = h
spaces_run s e (b ∷ a) sp t h = subst (λ b. Runs s (b ∷ (a ++ t))) (sym sp.0) (steps s s 32 (a ++ t) e (spaces_run s e a sp.1 t h))

-- a text of spaces and then one of this kind
after_spaces : (s : List Goal) (M : List ℕ → Type 0) → step s 32 ≡ Some s → (a : List ℕ) → Then IsSpaces M a → (t : List ℕ) → ((c : List ℕ) → M c → Runs s (c ++ t)) → Runs s (a ++ t)
after_spaces s M e a r t f = subst (λ x. Runs s x) (sym (ap (λ x. x ++ t) r.whole ∙ append_assoc r.front r.rest t)) (spaces_run s e r.front r.first (r.rest ++ t) (f r.rest r.second))

token_run : (s u : List Goal) (b : ℕ) → step s 32 ≡ Some s → step s b ≡ Some u → (a : List ℕ) → Token b a → (t : List ℕ) → Runs u t → Runs s (a ++ t)
token_run s u b e f a r t h = after_spaces s (λ c. c ≡ b ∷ []) e a r t (λ c d. subst (λ c. Runs s (c ++ t)) (sym d) (steps s u b t f h))

-- a text of two kinds
then_run : (s : List Goal) (L M : List ℕ → Type 0) (a : List ℕ) → Then L M a → (t : List ℕ) → ((c d : List ℕ) → L c → M d → Runs s (c ++ (d ++ t))) → Runs s (a ++ t)
then_run s L M a r t f = subst (λ x. Runs s x) (sym (ap (λ x. x ++ t) r.whole ∙ append_assoc r.front r.rest t)) (f r.front r.rest r.first r.second)

-- ---- numbers

digits_run : (s : List Goal) (a t : List ℕ) → AreDigits a → Runs (more_digits ∷ s) t → Runs (more_digits ∷ s) (a ++ t)
digits_run s [] t d h = h
digits_run s (b ∷ a) t d h = rw (mark_digit b d.0) (ap later (digits_run s a t d.1 h))

no_digit : (s : List Goal) → Behind s → step_on s Digit ≡ None
no_digit [] b = refl
no_digit (more ty ∷ s) b = refl
no_digit (more_pair key ty ∷ s) b = refl
no_digit (between ∷ s) b = refl
no_digit (g ∷ s) b = absurd b

none_fails : (read : List Goal → Result (Unit {0}) ℕ) (o : Option (List Goal)) → o ≡ None → at_letter read o ≡ Ok tt → ⊥
none_fails read (Some u) e h = absurd cc
none_fails read None e h = absurd cc

stop_mark : (s : List Goal) (m : Mark) (read : List Goal → Result (Unit {0}) ℕ) → Behind s → at_letter read (step_on s m) ≡ Ok tt → at_letter read (step_on (more_digits ∷ s) m) ≡ Ok tt
stop_mark s Digit read b h = absurd (none_fails read (step_on s Digit) (no_digit s b) h)
stop_mark s m read b h = h

stop_run : (s : List Goal) (t : List ℕ) → Behind s → Runs s t → Runs (more_digits ∷ s) t
stop_run s [] b h = h
stop_run s (c ∷ t) b h = stop_mark s (mark_of c) (λ u. run step done u t) b h

all_digits_run : (s : List Goal) (a t : List ℕ) → IsDigits a → Behind s → Runs s t → Runs (digits ∷ s) (a ++ t)
all_digits_run s [] t d b h = absurd d
all_digits_run s (c ∷ a) t d b h = rw (mark_digit c d.0) (ap later (digits_run s a t d.1 (stop_run s t b h)))

number_run : (s : List Goal) (a t : List ℕ) → IsNumber a → Behind s → Runs s t → Runs (value number ∷ s) (a ++ t)
number_run s [] t n b h = absurd n
number_run s (c ∷ a) t (inl n) b h = rw (mark_digit c n.0) (ap later (digits_run s a t n.1 (stop_run s t b h)))
number_run s (c ∷ a) t (inr (inl e, d)) b h = subst (λ c. Runs (value number ∷ s) (c ∷ (a ++ t))) (sym e) (ap later (all_digits_run s a t d b h))
number_run s (c ∷ a) t (inr (inr e, d)) b h = subst (λ c. Runs (value number ∷ s) (c ∷ (a ++ t))) (sym e) (ap later (all_digits_run s a t d b h))

-- ---- texts in quotes

quoted_mark : (s : List Goal) (m : Mark) → (m ≡ Quote → ⊥) → (m ≡ Backslash → ⊥) → step_on (quoted ∷ s) m ≡ Some (quoted ∷ s)
quoted_mark s Quote q l = absurd (q refl)
quoted_mark s Backslash q l = absurd (l refl)
quoted_mark s m q l = refl

escaped_mark : (s : List Goal) (m : Mark) → (m ≡ LetterX → ⊥) → step_on (escaped ∷ s) m ≡ Some (quoted ∷ s)
escaped_mark s LetterX x = absurd (x refl)
escaped_mark s m x = refl

hex_run : (s : List Goal) (b : ℕ) (t : List ℕ) → is_hex_digit b ≡ true → Runs s t → Runs (hexed ∷ s) (b ∷ t)
hex_run s b t x h = elim (mark_hex b x) [
  | inl e ↦ rw e (ap later h)
  | inr e ↦ rw e (ap later h)
]

pieces_run : (s : List Goal) (ps : List Piece) (t : List ℕ) → AllFitInQuotes ps → Runs s t → Runs (quoted ∷ s) (closed_text ps ++ t)
pieces_run s [] t f h = ap later h
pieces_run s (plain b ∷ ps) t f h =
    steps (quoted ∷ s) (quoted ∷ s) b (closed_text ps ++ t)
    (quoted_mark s (mark_of b) (λ e. f.0.0 (subst (λ m. IsMark m b) e (is_mark b))) (λ e. f.0.1 (subst (λ m. IsMark m b) e (is_mark b)))) (pieces_run s ps t f.1 h)
pieces_run s (letter c ∷ ps) t f h =
    let behind : Runs (escaped ∷ s) (c ∷ (closed_text ps ++ t)) = steps (escaped ∷ s) (quoted ∷ s) c (closed_text ps ++ t) (escaped_mark s (mark_of c) (λ e. f.0 (subst (λ m. IsMark m c) e (is_mark c)))) (pieces_run s ps t f.1 h) in
    ap later behind
pieces_run s (escapes.hexed x y ∷ ps) t f h =
    let two : Runs (hexed ∷ hexed ∷ quoted ∷ s) (x ∷ y ∷ (closed_text ps ++ t)) = hex_run (hexed ∷ quoted ∷ s) x (y ∷ (closed_text ps ++ t)) f.0.0 (hex_run (quoted ∷ s) y (closed_text ps ++ t) f.0.1 (pieces_run s ps t f.1 h)) in
    ap (λ r. later (later r)) two

quoted_run : (s : List Goal) (a t : List ℕ) → IsQuoted a → Runs s t → Runs (value string ∷ s) (a ++ t)
quoted_run s [] t q h = absurd q
quoted_run s (b ∷ a) t q h =
    let inside : Runs (quoted ∷ s) (a ++ t) = subst (λ a. Runs (quoted ∷ s) (a ++ t)) (sym q.1.2) (pieces_run s q.1.0 t q.1.1 h) in
    subst (λ b. Runs (value string ∷ s) (b ∷ (a ++ t))) (sym q.0) (ap later inside)

-- ---- a value where a null, or the end of an array, might stand

abbrev Null : List Goal
Null = letter_u ∷ letter_l ∷ letter_l ∷ []

null_open : (ty : FieldForm) → (opened ty LetterN ≡ None) ⊎ (opened ty LetterN ≡ Some Null)
null_open number = inl refl
null_open string = inl refl
null_open (nullable ty) = inr refl
null_open (array ty) = inl refl
null_open (map_of key ty) = inl refl

before_none : (s : List Goal) (o : Option (List Goal)) → o ≡ None → before s o ≡ None
before_none s (Some n) e = absurd cc
before_none s None e = refl

nullable_mark : (ty : FieldForm) (s : List Goal) (m : Mark) (read : List Goal → Result (Unit {0}) ℕ) → (read (value ty ∷ s) ≡ Ok tt → read (value (nullable ty) ∷ s) ≡ Ok tt)
    → at_letter read (step_on (value ty ∷ s) m) ≡ Ok tt → at_letter read (step_on (value (nullable ty) ∷ s) m) ≡ Ok tt
nullable_mark ty s Space read again h = ap later (again (later_ok (read (value ty ∷ s)) tt h))
nullable_mark ty s LetterN read again h = elim (null_open ty) [
  | inl e ↦ absurd (none_fails read (before s (opened ty LetterN)) (before_none s _ e) h)
  | inr e ↦ subst (λ o. at_letter read (before s o) ≡ Ok tt) e h
]
nullable_mark ty s m read again h = h

nullable_run : (ty : FieldForm) (s : List Goal) (t : List ℕ) → Runs (value ty ∷ s) t → Runs (value (nullable ty) ∷ s) t
nullable_run ty s [] h = absurd cc
nullable_run ty s (b ∷ t) h = nullable_mark ty s (mark_of b) (λ u. run step done u t) (nullable_run ty s t) h

no_close : (ty : FieldForm) → (opened ty CloseBracket ≡ None) × (opened ty CloseBrace ≡ None)
no_close number = (refl, refl)
no_close string = (refl, refl)
no_close (nullable ty) = no_close ty
no_close (array ty) = (refl, refl)
no_close (map_of key ty) = (refl, refl)

first_mark : (ty : FieldForm) (s : List Goal) (m : Mark) (read : List Goal → Result (Unit {0}) ℕ) → (read (value ty ∷ more ty ∷ s) ≡ Ok tt → read (first ty ∷ s) ≡ Ok tt)
    → at_letter read (step_on (value ty ∷ more ty ∷ s) m) ≡ Ok tt → at_letter read (step_on (first ty ∷ s) m) ≡ Ok tt
first_mark ty s Space read again h = ap later (again (later_ok (read (value ty ∷ more ty ∷ s)) tt h))
first_mark ty s CloseBracket read again h = absurd (none_fails read (before (more ty ∷ s) (opened ty CloseBracket)) (before_none _ _ (no_close ty).0) h)
first_mark ty s m read again h = h

first_run : (ty : FieldForm) (s : List Goal) (t : List ℕ) → Runs (value ty ∷ more ty ∷ s) t → Runs (first ty ∷ s) t
first_run ty s [] h = absurd cc
first_run ty s (b ∷ t) h = first_mark ty s (mark_of b) (λ u. run step done u t) (first_run ty s t) h

pair_mark : (key ty : FieldForm) (s : List Goal) (m : Mark) (read : List Goal → Result (Unit {0}) ℕ) → (read (value key ∷ between ∷ value ty ∷ more_pair key ty ∷ s) ≡ Ok tt → read (first_pair key ty ∷ s) ≡ Ok tt)
    → at_letter read (step_on (value key ∷ between ∷ value ty ∷ more_pair key ty ∷ s) m) ≡ Ok tt → at_letter read (step_on (first_pair key ty ∷ s) m) ≡ Ok tt
pair_mark key ty s Space read again h = ap later (again (later_ok (read (value key ∷ between ∷ value ty ∷ more_pair key ty ∷ s)) tt h))
pair_mark key ty s CloseBrace read again h = absurd (none_fails read (before (between ∷ value ty ∷ more_pair key ty ∷ s) (opened key CloseBrace)) (before_none _ _ (no_close key).1) h)
pair_mark key ty s m read again h = h

pair_run : (key ty : FieldForm) (s : List Goal) (t : List ℕ) → Runs (value key ∷ between ∷ value ty ∷ more_pair key ty ∷ s) t → Runs (first_pair key ty ∷ s) t
pair_run key ty s [] h = absurd cc
pair_run key ty s (b ∷ t) h = pair_mark key ty s (mark_of b) (λ u. run step done u t) (pair_run key ty s t) h

-- ---- values

-- a value of the type is accepted
abbrev Accepts : FieldForm → Type 0
Accepts ty = (a : List ℕ) → SyntaxOf ty a → (s : List Goal) → Behind s → (t : List ℕ) → Runs s t → Runs (value ty ∷ s) (a ++ t)

closing_run : (ty : FieldForm) → Accepts ty → (n : ℕ) (s : List Goal) (a t : List ℕ) → MoreOf (SyntaxOf ty) 93 n a → Runs s t → Runs (more ty ∷ s) (a ++ t)
closing_run ty v zero s a t r h = token_run (more ty ∷ s) s 93 refl refl a r t h
closing_run ty v (suc n) s a t r h =
    then_run (more ty ∷ s) (Token 44) (Then (SyntaxOf ty) (MoreOf (SyntaxOf ty) 93 n)) a r t (λ c d k e.
    token_run (more ty ∷ s) (value ty ∷ more ty ∷ s) 44 refl refl c k (d ++ t)
    (then_run (value ty ∷ more ty ∷ s) (SyntaxOf ty) (MoreOf (SyntaxOf ty) 93 n) d e t (λ f g p q. v f p (more ty ∷ s) tt (g ++ t) (closing_run ty v n s g t q h))))

opened_run : (ty : FieldForm) → Accepts ty → (s : List Goal) (a t : List ℕ) → Opened (SyntaxOf ty) 93 a → Runs s t → Runs (first ty ∷ s) (a ++ t)
opened_run ty v s a t (inl r) h = token_run (first ty ∷ s) s 93 refl refl a r t h
opened_run ty v s a t (inr r) h =
    first_run ty s (a ++ t) (then_run (value ty ∷ more ty ∷ s) (SyntaxOf ty) (Closing (SyntaxOf ty) 93) a r t (λ f g p q. v f p (more ty ∷ s) tt (g ++ t) (closing_run ty v q.0 s g t q.1 h)))

entry_run : (key ty : FieldForm) → Accepts key → Accepts ty → (s : List Goal) → (a t : List ℕ) → Entry key ty a → Runs (more_pair key ty ∷ s) t → Runs (value key ∷ between ∷ value ty ∷ more_pair key ty ∷ s) (a ++ t)
entry_run key ty vk v s a t r h =
    then_run (value key ∷ between ∷ value ty ∷ more_pair key ty ∷ s) (SyntaxOf key) (Then (Token 58) (SyntaxOf ty)) a r t (λ c d p e.
    vk c p (between ∷ value ty ∷ more_pair key ty ∷ s) tt (d ++ t)
    (then_run (between ∷ value ty ∷ more_pair key ty ∷ s) (Token 58) (SyntaxOf ty) d e t (λ f g k q.
    token_run (between ∷ value ty ∷ more_pair key ty ∷ s) (value ty ∷ more_pair key ty ∷ s) 58 refl refl f k (g ++ t) (v g q (more_pair key ty ∷ s) tt t h))))

closing_pairs : (key ty : FieldForm) → Accepts key → Accepts ty → (n : ℕ) (s : List Goal) (a t : List ℕ) → MoreOf (Entry key ty) 125 n a → Runs s t → Runs (more_pair key ty ∷ s) (a ++ t)
closing_pairs key ty vk v zero s a t r h = token_run (more_pair key ty ∷ s) s 125 refl refl a r t h
closing_pairs key ty vk v (suc n) s a t r h =
    then_run (more_pair key ty ∷ s) (Token 44) (Then (Entry key ty) (MoreOf (Entry key ty) 125 n)) a r t (λ c d k e.
    token_run (more_pair key ty ∷ s) (value key ∷ between ∷ value ty ∷ more_pair key ty ∷ s) 44 refl refl c k (d ++ t)
    (then_run (value key ∷ between ∷ value ty ∷ more_pair key ty ∷ s) (Entry key ty) (MoreOf (Entry key ty) 125 n) d e t (λ f g p q. entry_run key ty vk v s f (g ++ t) p (closing_pairs key ty vk v n s g t q h))))

opened_pairs : (key ty : FieldForm) → Accepts key → Accepts ty → (s : List Goal) (a t : List ℕ) → Opened (Entry key ty) 125 a → Runs s t → Runs (first_pair key ty ∷ s) (a ++ t)
opened_pairs key ty vk v s a t (inl r) h = token_run (first_pair key ty ∷ s) s 125 refl refl a r t h
opened_pairs key ty vk v s a t (inr r) h =
    pair_run key ty s (a ++ t) (then_run (value key ∷ between ∷ value ty ∷ more_pair key ty ∷ s) (Entry key ty) (Closing (Entry key ty) 125) a r t (λ f g p q. entry_run key ty vk v s f (g ++ t) p (closing_pairs key ty vk v q.0 s g t q.1 h)))

pub accepts : (ty : FieldForm) → Accepts ty
accepts number a r s b t h = after_spaces (value number ∷ s) IsNumber refl a r t (λ c n. number_run s c t n b h)
accepts string a r s b t h = after_spaces (value string ∷ s) IsQuoted refl a r t (λ c q. quoted_run s c t q h)
accepts (nullable ty) a (inl r) s b t h = nullable_run ty s (a ++ t) (accepts ty a r s b t h)
accepts (nullable ty) a (inr r) s b t h =
    after_spaces (value (nullable ty) ∷ s) (λ c. c ≡ codes "NULL") refl a r t (λ c e. subst (λ c. Runs (value (nullable ty) ∷ s) (c ++ t)) (sym e) (ap (λ r. later (later (later (later r)))) h))
accepts (array ty) a r s b t h =
    then_run (value (array ty) ∷ s) (Token 91) (Opened (SyntaxOf ty) 93) a r t (λ c d k o.
    token_run (value (array ty) ∷ s) (first ty ∷ s) 91 refl refl c k (d ++ t) (opened_run ty (accepts ty) s d t o h))
accepts (map_of key ty) a r s b t h =
    then_run (value (map_of key ty) ∷ s) (Token 123) (Opened (Entry key ty) 125) a r t (λ c d k o.
    token_run (value (map_of key ty) ∷ s) (first_pair key ty ∷ s) 123 refl refl c k (d ++ t) (opened_pairs key ty (accepts key) (accepts ty) s d t o h))

-- ---- every stack that is reached can be emptied

abbrev token_of : (b : ℕ) → Token b (b ∷ [])
token_of b = record { front = []; rest = b ∷ []; first = tt; second = refl; whole = refl }

example : (ty : FieldForm) → (a : List ℕ) × SyntaxOf ty a
example number = (48 ∷ [], record { front = []; rest = 48 ∷ []; first = tt; second = inl ((omega arith, omega arith), tt); whole = refl })
example string = (39 ∷ 39 ∷ [], record { front = []; rest = 39 ∷ 39 ∷ []; first = tt; second = (refl, ([], tt, refl)); whole = refl })
example (nullable ty) = let r = example ty in (r.0, inl r.1)
example (array ty) = (91 ∷ 93 ∷ [], record { front = 91 ∷ []; rest = 93 ∷ []; first = token_of 91; second = inl (token_of 93); whole = refl })
example (map_of key ty) = (123 ∷ 125 ∷ [], record { front = 123 ∷ []; rest = 125 ∷ []; first = token_of 123; second = inl (token_of 125); whole = refl })

abbrev Goes : List Goal → Type 0
Goes s = (t : List ℕ) × Runs s t

one_byte : (g : Goal) (s : List Goal) (b : ℕ) → step (g ∷ s) b ≡ Some s → Goes s → Goes (g ∷ s)
one_byte g s b e r = (b ∷ r.0, steps (g ∷ s) s b r.0 e r.1)

pub goes_on : (s : List Goal) → Sound s → Goes s
goes_on [] h = ([], refl)
goes_on (value ty ∷ s) h = let r = goes_on s h.1 in let e = example ty in (e.0 ++ r.0, accepts ty e.0 e.1 s h.0 r.0 r.1)
goes_on (first ty ∷ s) h = one_byte (first ty) s 93 refl (goes_on s h)
goes_on (more ty ∷ s) h = one_byte (more ty) s 93 refl (goes_on s h)
goes_on (first_pair key ty ∷ s) h = one_byte (first_pair key ty) s 125 refl (goes_on s h)
goes_on (more_pair key ty ∷ s) h = one_byte (more_pair key ty) s 125 refl (goes_on s h)
goes_on (between ∷ s) h = one_byte between s 58 refl (goes_on s h)
goes_on (digits ∷ s) h = let r = goes_on s h.1 in (48 ∷ r.0, ap later (stop_run s r.0 h.0 r.1))
goes_on (more_digits ∷ s) h = let r = goes_on s h.1 in (r.0, stop_run s r.0 h.0 r.1)
goes_on (quoted ∷ s) h = one_byte quoted s 39 refl (goes_on s h)
goes_on (escaped ∷ s) h = let r = goes_on s h in (97 ∷ 39 ∷ r.0, ap (λ x. later (later x)) r.1)
goes_on (hexed ∷ s) h = one_byte hexed s 48 refl (goes_on s h)
goes_on (letter_u ∷ s) h = one_byte letter_u s 85 refl (goes_on s h)
goes_on (letter_l ∷ s) h = one_byte letter_l s 76 refl (goes_on s h)
