-- What a stack says of the rest of the text: so what is accepted is in the grammar.
use Rattle.std.proofs.Common.{◌≡◌, ℕ, zero, suc, Bool, true, false, List, [], ◌∷◌, ◌++◌, codes, Option, Some, None, Ok, refl, sym, ap, subst, ◌∙◌, append_assoc, arith, inl, inr}
use Rattle.first_fault.specs.Machine.{run}
use Rattle.first_fault.proofs.Machines.{letter_ok, end_ok}
use Rattle.first_fault.specs.Grammar.{Then}
use Rattle.tsv_text.specs.Escapes as escapes
use Rattle.tsv_text.specs.Escapes.{Piece, plain, letter, pieces_then, is_hex_digit}
use Rattle.field_texts.specs.Syntax.{FieldForm, number, string, nullable, array, map_of, IsSpaces, Token, AreDigits, IsDigits, IsNumber, InQuotes, IsQuoted, MoreOf, Closing, Opened, SyntaxOf}
use Rattle.field_texts.specs.declared.mark.Mark.{Mark}
use Rattle.field_texts.specs.declared.mark.Mark.TheVariants.{Space, Plus, Minus, Digit, Quote, Backslash, Comma, Colon, OpenBracket, CloseBracket, OpenBrace, CloseBrace, LetterX, HexLetter, LetterN, LetterU, LetterL, Other}
use Rattle.field_texts.specs.Machine.{mark_of, Goal, value, first, more, first_pair, more_pair, between, digits, more_digits, quoted, escaped, hexed, letter_u, letter_l, opened, before, step_on, step, done}
use Rattle.field_texts.proofs.Marks.{IsMark, is_mark, hex_is}

-- an entry of a map
abbrev pub Entry : FieldForm → FieldForm → List ℕ → Type 0
Entry key ty = Then (SyntaxOf key) (Then (Token 58) (SyntaxOf ty))

-- what the goal stands for
abbrev pub Of : Goal → List ℕ → Type 0
Of (value ty) t = SyntaxOf ty t
Of (first ty) t = Opened (SyntaxOf ty) 93 t
Of (more ty) t = Closing (SyntaxOf ty) 93 t
Of (first_pair key ty) t = Opened (Entry key ty) 125 t
Of (more_pair key ty) t = Closing (Entry key ty) 125 t
Of between t = Token 58 t
Of digits t = IsDigits t
Of more_digits t = AreDigits t
Of quoted t = InQuotes t
Of escaped t = InQuotes (92 ∷ t)
Of hexed t = (b : ℕ) × (is_hex_digit b ≡ true) × (t ≡ b ∷ [])
Of letter_u t = t ≡ 85 ∷ []
Of letter_l t = t ≡ 76 ∷ []

-- what the goals stand for, and then a text of this kind
abbrev pub Goes : List Goal → (List ℕ → Type 0) → List ℕ → Type 0
Goes [] K t = K t
Goes (g ∷ s) K t = Then (Of g) (Goes s K) t

-- a byte in front
push : {L M K : List ℕ → Type 0} (b : ℕ) (t : List ℕ) → ((a : List ℕ) → L a → M (b ∷ a)) → Then L K t → Then M K (b ∷ t)
push b t f r = record { front = b ∷ r.front; rest = r.rest; first = f r.front r.first; second = r.second; whole = ap (λ x. b ∷ x) r.whole }

-- spaces and a byte
token : (b : ℕ) → Token b (b ∷ [])
token b = record { front = []; rest = b ∷ []; first = tt; second = refl; whole = refl }

-- a token that is one byte
lone : {L K : List ℕ → Type 0} (b : ℕ) (t : List ℕ) → L (b ∷ []) → K t → Then L K (b ∷ t)
lone b t l k = record { front = b ∷ []; rest = t; first = l; second = k; whole = refl }

-- a text of two kinds, and more
regroup : {L M K : List ℕ → Type 0} (t : List ℕ) → Then L (Then M K) t → Then (Then L M) K t
regroup t r = record {
  front = r.front ++ r.second.front;
  rest = r.second.rest;
  first = record { front = r.front; rest = r.second.front; first = r.first; second = r.second.first; whole = refl };
  second = r.second.second;
  whole = r.whole ∙ ap (λ x. r.front ++ x) r.second.whole ∙ sym (append_assoc r.front r.second.front r.second.rest);
}

-- a space before the first token
space_token : (M : List ℕ → Type 0) (t : List ℕ) → Then IsSpaces M t → Then IsSpaces M (32 ∷ t)
space_token M t r = push {L = IsSpaces} {M = IsSpaces} {K = M} 32 t (λ a s. (refl, s)) r

space_then : (L K : List ℕ → Type 0) → ((a : List ℕ) → L a → L (32 ∷ a)) → (t : List ℕ) → Then L K t → Then L K (32 ∷ t)
space_then L K f t r = push {L = L} {M = L} {K = K} 32 t f r

space_value : (ty : FieldForm) (t : List ℕ) → SyntaxOf ty t → SyntaxOf ty (32 ∷ t)
space_value number t r = space_token IsNumber t r
space_value string t r = space_token IsQuoted t r
space_value (nullable ty) t (inl r) = inl (space_value ty t r)
space_value (nullable ty) t (inr r) = inr (space_token (λ t. t ≡ codes "NULL") t r)
space_value (array ty) t r = space_then (Token 91) (Opened (SyntaxOf ty) 93) (space_token (λ t. t ≡ 91 ∷ [])) t r
space_value (map_of key ty) t r = space_then (Token 123) (Opened (Entry key ty) 125) (space_token (λ t. t ≡ 123 ∷ [])) t r

space_entry : (key ty : FieldForm) (t : List ℕ) → Entry key ty t → Entry key ty (32 ∷ t)
space_entry key ty t r = space_then (SyntaxOf key) (Then (Token 58) (SyntaxOf ty)) (space_value key) t r

space_closing : (L : List ℕ → Type 0) (close : ℕ) (t : List ℕ) → Closing L close t → Closing L close (32 ∷ t)
space_closing L close t (zero, r) = (0, space_token (λ t. t ≡ close ∷ []) t r)
space_closing L close t (suc n, r) = (suc n, space_then (Token 44) (Then L (MoreOf L close n)) (space_token (λ t. t ≡ 44 ∷ [])) t r)

space_opened : (L : List ℕ → Type 0) (close : ℕ) → ((a : List ℕ) → L a → L (32 ∷ a)) → (t : List ℕ) → Opened L close t → Opened L close (32 ∷ t)
space_opened L close f t (inl r) = inl (space_token (λ t. t ≡ close ∷ []) t r)
space_opened L close f t (inr r) = inr (space_then L (Closing L close) f t r)

-- a number after its sign or its first digit
number_of : (t : List ℕ) → IsNumber t → SyntaxOf number t
number_of t n = record { front = []; rest = t; first = tt; second = n; whole = refl }

goes_append : (new s : List Goal) (K : List ℕ → Type 0) (t : List ℕ) → Goes (new ++ s) K t → Goes new (Goes s K) t
goes_append [] s K t r = r
goes_append (g ∷ new) s K t r = record { front = r.front; rest = r.rest; first = r.first; second = goes_append new s K r.rest r.second; whole = r.whole }

some_is : (x y : List Goal) → (let o : Option (List Goal) = Some x in o) ≡ Some y → x ≡ y
some_is x y e = cc

-- the first byte of a value, and what has to follow it
opened_found : (ty : FieldForm) (m : Mark) (b : ℕ) (new : List Goal) (K : List ℕ → Type 0) (t : List ℕ) → IsMark m b → opened ty m ≡ Some new → Goes new K t → Then (SyntaxOf ty) K (b ∷ t)
opened_found number Plus b new K t is e r =
    push {L = IsDigits} {M = SyntaxOf number} {K = K} b t (λ a d. number_of (b ∷ a) (inr (inl is, d))) (subst (λ n. Goes n K t) (sym (some_is _ new e)) r)
opened_found number Minus b new K t is e r =
    push {L = IsDigits} {M = SyntaxOf number} {K = K} b t (λ a d. number_of (b ∷ a) (inr (inr is, d))) (subst (λ n. Goes n K t) (sym (some_is _ new e)) r)
opened_found number Digit b new K t is e r =
    push {L = AreDigits} {M = SyntaxOf number} {K = K} b t (λ a d. number_of (b ∷ a) (inl (is, d))) (subst (λ n. Goes n K t) (sym (some_is _ new e)) r)
opened_found string Quote b new K t is e r =
    push {L = InQuotes} {M = SyntaxOf string} {K = K} b t (λ a q. record { front = []; rest = b ∷ a; first = tt; second = (is, q); whole = refl }) (subst (λ n. Goes n K t) (sym (some_is _ new e)) r)
opened_found (nullable ty) LetterN b new K t is e r =
    let q : Goes (letter_u ∷ letter_l ∷ letter_l ∷ []) K t = subst (λ n. Goes n K t) (sym (some_is _ new e)) r in
    let two : q.second.rest ≡ 76 ∷ q.second.second.rest = q.second.second.whole ∙ ap (λ x. x ++ q.second.second.rest) q.second.second.first in
    let one : q.rest ≡ 76 ∷ q.second.rest = q.second.whole ∙ ap (λ x. x ++ q.second.rest) q.second.first in
    let all : t ≡ 85 ∷ 76 ∷ 76 ∷ q.second.second.rest = q.whole ∙ ap (λ x. x ++ q.rest) q.first ∙ ap (λ x. 85 ∷ x) (one ∙ ap (λ x. 76 ∷ x) two) in
    record {
      front = codes "NULL";
      rest = q.second.second.rest;
      first = inr (record { front = []; rest = codes "NULL"; first = tt; second = refl; whole = refl });
      second = q.second.second.second;
      whole = ap (λ x. x ∷ t) is ∙ ap (λ x. 78 ∷ x) all;
    }
opened_found (nullable ty) m b new K t is e r =
    let p = opened_found ty m b new K t is e r in
    record { front = p.front; rest = p.rest; first = inl p.first; second = p.second; whole = p.whole }
opened_found (array ty) OpenBracket b new K t is e r =
    regroup {L = Token 91} {M = Opened (SyntaxOf ty) 93} {K = K} (b ∷ t) (lone {L = Token 91} {K = Then (Opened (SyntaxOf ty) 93) K} b t (rw is (token 91)) (subst (λ n. Goes n K t) (sym (some_is _ new e)) r))
opened_found (map_of key ty) OpenBrace b new K t is e r =
    regroup {L = Token 123} {M = Opened (Entry key ty) 125} {K = K} (b ∷ t) (lone {L = Token 123} {K = Then (Opened (Entry key ty) 125) K} b t (rw is (token 123)) (subst (λ n. Goes n K t) (sym (some_is _ new e)) r))
opened_found ty m b new K t is e r = absurd cc

-- ---- one step

-- what may stand behind a number: nothing that goes on with digits
abbrev pub Behind : List Goal → Type 0
Behind [] = Unit {0}
Behind (more ty ∷ s) = Unit {0}
Behind (more_pair key ty ∷ s) = Unit {0}
Behind (between ∷ s) = Unit {0}
Behind s = ⊥

abbrev pub Sound : List Goal → Type 0
Sound [] = Unit {0}
Sound (value ty ∷ s) = Behind s × Sound s
Sound (digits ∷ s) = Behind s × Sound s
Sound (more_digits ∷ s) = Behind s × Sound s
Sound (g ∷ s) = Sound s

before_ok : (s : List Goal) (o : Option (List Goal)) (t : List Goal) → before s o ≡ Some t → (new : List Goal) × (o ≡ Some new) × (new ++ s ≡ t)
before_ok s (Some new) t e = (new, refl, some_is _ t e)
before_ok s None t e = absurd cc

opened_sound : (ty : FieldForm) (m : Mark) (new s : List Goal) → opened ty m ≡ Some new → Behind s → Sound s → Sound (new ++ s)
opened_sound number Plus new s e b h = subst (λ n. Sound (n ++ s)) (some_is _ new e) (b, h)
opened_sound number Minus new s e b h = subst (λ n. Sound (n ++ s)) (some_is _ new e) (b, h)
opened_sound number Digit new s e b h = subst (λ n. Sound (n ++ s)) (some_is _ new e) (b, h)
opened_sound string Quote new s e b h = subst (λ n. Sound (n ++ s)) (some_is _ new e) h
opened_sound (nullable ty) LetterN new s e b h = subst (λ n. Sound (n ++ s)) (some_is _ new e) h
opened_sound (nullable ty) m new s e b h = opened_sound ty m new s e b h
opened_sound (array ty) OpenBracket new s e b h = subst (λ n. Sound (n ++ s)) (some_is _ new e) h
opened_sound (map_of key ty) OpenBrace new s e b h = subst (λ n. Sound (n ++ s)) (some_is _ new e) h
opened_sound ty m new s e b h = absurd cc

abbrev StepsTo : List Goal → ℕ → List ℕ → List Goal → Type 0
StepsTo s b rest t = Sound t × (Goes t IsSpaces rest → Goes s IsSpaces (b ∷ rest))

goes_is : (Q : List Goal → Type 0) (s t : List Goal) → Q s → (let o : Option (List Goal) = Some s in o) ≡ Some t → Q t
goes_is Q s t q e = subst Q (some_is s t e) q

-- the first byte of a value
moves_value : (ty : FieldForm) (m : Mark) (s : List Goal) (b : ℕ) (rest : List ℕ) (t : List Goal) → IsMark m b → Behind s → Sound s → before s (opened ty m) ≡ Some t
    → Sound t × (Goes t IsSpaces rest → Then (SyntaxOf ty) (Goes s IsSpaces) (b ∷ rest))
moves_value ty m s b rest t is h k e =
    let p = before_ok s (opened ty m) t e in
    subst (λ t. Sound t × (Goes t IsSpaces rest → Then (SyntaxOf ty) (Goes s IsSpaces) (b ∷ rest))) p.2
    (opened_sound ty m p.0 s p.1 h k, λ r. opened_found ty m b p.0 (Goes s IsSpaces) rest is p.1 (goes_append p.0 s IsSpaces rest r))

-- one byte that ends a goal
ends_goal : (g : Goal) (s : List Goal) (b c : ℕ) (rest : List ℕ) → b ≡ c → Of g (c ∷ []) → Goes s IsSpaces rest → Goes (g ∷ s) IsSpaces (b ∷ rest)
ends_goal g s b c rest is o r = record { front = c ∷ []; rest = rest; first = o; second = r; whole = rw is refl }

-- a goal that stays
stays : (g : Goal) (s : List Goal) (b c : ℕ) (rest : List ℕ) → b ≡ c → ((a : List ℕ) → Of g a → Of g (c ∷ a)) → Goes (g ∷ s) IsSpaces rest → Goes (g ∷ s) IsSpaces (b ∷ rest)
stays g s b c rest is f r = record { front = c ∷ r.front; rest = r.rest; first = f r.front r.first; second = r.second; whole = rw is (ap (λ x. c ∷ x) r.whole) }

-- a byte in quotes that stands for itself
abbrev is_plain : Mark → Bool
is_plain Quote = false
is_plain Backslash = false
is_plain m = true

abbrev is_short : Mark → Bool
is_short LetterX = false
is_short m = true

plain_byte : (m : Mark) (b : ℕ) → IsMark m b → is_plain m ≡ true → (b ≡ 39 → ⊥) × (b ≡ 92 → ⊥)
plain_byte Quote b is e = absurd cc
plain_byte Backslash b is e = absurd cc
plain_byte Other b is e = (is.0, is.1)
plain_byte HexLetter b (inl is) e = (λ f. absurd (omega (arith, is, f)), λ f. absurd (omega (arith, is, f)))
plain_byte HexLetter b (inr is) e = (λ f. absurd (omega (arith, is, f)), λ f. absurd (omega (arith, is, f)))
plain_byte m b is e = (λ f. absurd (omega (arith, is, f)), λ f. absurd (omega (arith, is, f)))

short_byte : (m : Mark) (b : ℕ) → IsMark m b → is_short m ≡ true → b ≡ 120 → ⊥
short_byte LetterX b is e f = absurd cc
short_byte Other b is e f = is.2 f
short_byte HexLetter b (inl is) e f = absurd (omega (arith, is, f))
short_byte HexLetter b (inr is) e f = absurd (omega (arith, is, f))
short_byte m b is e f = absurd (omega (arith, is, f))

-- an element behind a comma
comma_more : (L : List ℕ → Type 0) (close : ℕ) (K : List ℕ → Type 0) (b : ℕ) (t : List ℕ) → b ≡ 44 → Then L (Then (Closing L close) K) t → Then (Closing L close) K (b ∷ t)
comma_more L close K b t is r = record {
  front = 44 ∷ (r.front ++ r.second.front);
  rest = r.second.rest;
  first = (
    suc r.second.first.0,
    lone {L = Token 44} {K = Then L (MoreOf L close r.second.first.0)} 44 (r.front ++ r.second.front) (token 44)
        (record { front = r.front; rest = r.second.front; first = r.first; second = r.second.first.1; whole = refl }),
  );
  second = r.second.second;
  whole = ap (λ x. x ∷ t) is ∙ ap (λ x. 44 ∷ x) (r.whole ∙ ap (λ x. r.front ++ x) r.second.whole ∙ sym (append_assoc r.front r.second.front r.second.rest));
}

-- the first element
opened_one : (L : List ℕ → Type 0) (close : ℕ) (K : List ℕ → Type 0) (t : List ℕ) → Then L (Then (Closing L close) K) t → Then (Opened L close) K t
opened_one L close K t r =
    let q = regroup {L = L} {M = Closing L close} {K = K} t r in
    record { front = q.front; rest = q.rest; first = inr q.first; second = q.second; whole = q.whole }

entry_group : (key ty : FieldForm) (K : List ℕ → Type 0) (t : List ℕ) → Then (SyntaxOf key) (Then (Token 58) (Then (SyntaxOf ty) K)) t → Then (Entry key ty) K t
entry_group key ty K t r =
    regroup {L = SyntaxOf key} {M = Then (Token 58) (SyntaxOf ty)} {K = K} t
    (record { front = r.front; rest = r.rest; first = r.first; second = regroup {L = Token 58} {M = SyntaxOf ty} {K = K} r.rest r.second; whole = r.whole })

-- two hexadecimal digits
hex_pair : (s : List Goal) (b : ℕ) (t : List ℕ) → b ≡ 120 → Goes (hexed ∷ hexed ∷ quoted ∷ s) IsSpaces t → Goes (escaped ∷ s) IsSpaces (b ∷ t)
hex_pair s b t is r =
    let h = r.first.0 in
    let l = r.second.first.0 in
    let q = r.second.second in
    let one : r.rest ≡ l ∷ r.second.rest = r.second.whole ∙ ap (λ x. x ++ r.second.rest) r.second.first.2 in
    let all : t ≡ h ∷ l ∷ r.second.rest = r.whole ∙ ap (λ x. x ++ r.rest) r.first.2 ∙ ap (λ x. h ∷ x) one in
    record {
      front = 120 ∷ h ∷ l ∷ q.front;
      rest = q.rest;
      first = (escapes.hexed h l ∷ q.first.0, ((r.first.1, r.second.first.1), q.first.1), ap (λ x. 92 ∷ 120 ∷ h ∷ l ∷ x) q.first.2);
      second = q.second;
      whole = ap (λ x. x ∷ t) is ∙ ap (λ x. 120 ∷ x) (all ∙ ap (λ x. h ∷ l ∷ x) q.whole);
    }

pub moves : (s : List Goal) (m : Mark) (b : ℕ) (rest : List ℕ) (t : List Goal) → IsMark m b → Sound s → step_on s m ≡ Some t → StepsTo s b rest t
moves [] Space b rest t is h e = goes_is (StepsTo [] b rest) [] t (tt, λ r. (is, r)) e
moves (value ty ∷ s) Space b rest t is h e = goes_is (StepsTo (value ty ∷ s) b rest) _ t (h, λ r. stays (value ty) s b 32 rest is (space_value ty) r) e
moves (value ty ∷ s) m b rest t is h e = moves_value ty m s b rest t is h.0 h.1 e
moves (first ty ∷ s) Space b rest t is h e = goes_is (StepsTo (first ty ∷ s) b rest) _ t (h, λ r. stays (first ty) s b 32 rest is (space_opened (SyntaxOf ty) 93 (space_value ty)) r) e
moves (first ty ∷ s) CloseBracket b rest t is h e = goes_is (StepsTo (first ty ∷ s) b rest) _ t (h, λ r. ends_goal (first ty) s b 93 rest is (inl (token 93)) r) e
moves (first ty ∷ s) m b rest t is h e =
    let p = moves_value ty m (more ty ∷ s) b rest t is tt h e in
    (p.0, λ r. opened_one (SyntaxOf ty) 93 (Goes s IsSpaces) (b ∷ rest) (p.1 r))
moves (more ty ∷ s) Space b rest t is h e = goes_is (StepsTo (more ty ∷ s) b rest) _ t (h, λ r. stays (more ty) s b 32 rest is (space_closing (SyntaxOf ty) 93) r) e
moves (more ty ∷ s) CloseBracket b rest t is h e = goes_is (StepsTo (more ty ∷ s) b rest) _ t (h, λ r. ends_goal (more ty) s b 93 rest is (0, token 93) r) e
moves (more ty ∷ s) Comma b rest t is h e = goes_is (StepsTo (more ty ∷ s) b rest) _ t ((tt, h), λ r. comma_more (SyntaxOf ty) 93 (Goes s IsSpaces) b rest is r) e
moves (first_pair key ty ∷ s) Space b rest t is h e = goes_is (StepsTo (first_pair key ty ∷ s) b rest) _ t (h, λ r. stays (first_pair key ty) s b 32 rest is (space_opened (Entry key ty) 125 (space_entry key ty)) r) e
moves (first_pair key ty ∷ s) CloseBrace b rest t is h e = goes_is (StepsTo (first_pair key ty ∷ s) b rest) _ t (h, λ r. ends_goal (first_pair key ty) s b 125 rest is (inl (token 125)) r) e
moves (first_pair key ty ∷ s) m b rest t is h e =
    let p = moves_value key m (between ∷ value ty ∷ more_pair key ty ∷ s) b rest t is tt (tt, h) e in
    (p.0, λ r. opened_one (Entry key ty) 125 (Goes s IsSpaces) (b ∷ rest) (entry_group key ty (Then (Closing (Entry key ty) 125) (Goes s IsSpaces)) (b ∷ rest) (p.1 r)))
moves (more_pair key ty ∷ s) Space b rest t is h e = goes_is (StepsTo (more_pair key ty ∷ s) b rest) _ t (h, λ r. stays (more_pair key ty) s b 32 rest is (space_closing (Entry key ty) 125) r) e
moves (more_pair key ty ∷ s) CloseBrace b rest t is h e = goes_is (StepsTo (more_pair key ty ∷ s) b rest) _ t (h, λ r. ends_goal (more_pair key ty) s b 125 rest is (0, token 125) r) e
moves (more_pair key ty ∷ s) Comma b rest t is h e = goes_is (StepsTo (more_pair key ty ∷ s) b rest) _ t ((tt, (tt, h)), λ r. comma_more (Entry key ty) 125 (Goes s IsSpaces) b rest is (entry_group key ty (Then (Closing (Entry key ty) 125) (Goes s IsSpaces)) rest r)) e
moves (between ∷ s) Space b rest t is h e = goes_is (StepsTo (between ∷ s) b rest) _ t (h, λ r. stays between s b 32 rest is (space_token (λ t. t ≡ 58 ∷ [])) r) e
moves (between ∷ s) Colon b rest t is h e = goes_is (StepsTo (between ∷ s) b rest) _ t (h, λ r. ends_goal between s b 58 rest is (token 58) r) e
moves (digits ∷ s) Digit b rest t is h e = goes_is (StepsTo (digits ∷ s) b rest) _ t (h, λ r. push {L = AreDigits} {M = IsDigits} {K = Goes s IsSpaces} b rest (λ a d. (is, d)) r) e
moves (more_digits ∷ s) Digit b rest t is h e = goes_is (StepsTo (more_digits ∷ s) b rest) _ t (h, λ r. push {L = AreDigits} {M = AreDigits} {K = Goes s IsSpaces} b rest (λ a d. (is, d)) r) e
moves (more_digits ∷ s) m b rest t is h e = let p = moves s m b rest t is h.1 e in (p.0, λ r. record { front = []; rest = b ∷ rest; first = tt; second = p.1 r; whole = refl })
moves (quoted ∷ s) Quote b rest t is h e = goes_is (StepsTo (quoted ∷ s) b rest) _ t (h, λ r. ends_goal quoted s b 39 rest is ([], tt, refl) r) e
moves (quoted ∷ s) Backslash b rest t is h e = goes_is (StepsTo (quoted ∷ s) b rest) _ t (h, λ r. push {L = λ a. InQuotes (92 ∷ a)} {M = InQuotes} {K = Goes s IsSpaces} b rest (λ a q. rw is q) r) e
moves (quoted ∷ s) m b rest t is h e =
    goes_is (StepsTo (quoted ∷ s) b rest) _ t (h, λ r. push {L = InQuotes} {M = InQuotes} {K = Goes s IsSpaces} b rest (λ a q. (plain b ∷ q.0, (plain_byte m b is refl, q.1), ap (λ x. b ∷ x) q.2)) r) e
moves (escaped ∷ s) LetterX b rest t is h e = goes_is (StepsTo (escaped ∷ s) b rest) _ t (h, λ r. hex_pair s b rest is r) e
moves (escaped ∷ s) m b rest t is h e =
    goes_is (StepsTo (escaped ∷ s) b rest) _ t (h, λ r. push {L = InQuotes} {M = λ a. InQuotes (92 ∷ a)} {K = Goes s IsSpaces} b rest (λ a q. (letter b ∷ q.0, (short_byte m b is refl, q.1), ap (λ x. 92 ∷ b ∷ x) q.2)) r) e
moves (hexed ∷ s) Digit b rest t is h e = goes_is (StepsTo (hexed ∷ s) b rest) _ t (h, λ r. ends_goal hexed s b b rest refl (b, hex_is b (inl is), refl) r) e
moves (hexed ∷ s) HexLetter b rest t is h e = goes_is (StepsTo (hexed ∷ s) b rest) _ t (h, λ r. ends_goal hexed s b b rest refl (b, hex_is b (inr is), refl) r) e
moves (letter_u ∷ s) LetterU b rest t is h e = goes_is (StepsTo (letter_u ∷ s) b rest) _ t (h, λ r. ends_goal letter_u s b 85 rest is refl r) e
moves (letter_l ∷ s) LetterL b rest t is h e = goes_is (StepsTo (letter_l ∷ s) b rest) _ t (h, λ r. ends_goal letter_l s b 76 rest is refl r) e
moves s m b rest t is h e = absurd cc

ended : (s : List Goal) (v : Unit {0}) → done s ≡ Some v → Goes s IsSpaces []
ended [] v e = tt
ended (more_digits ∷ s) v e = record { front = []; rest = []; first = tt; second = ended s v e; whole = refl }
ended (g ∷ s) v e = absurd cc

pub found : (s : List Goal) (t : List ℕ) (v : Unit {0}) → Sound s → run step done s t ≡ Ok v → Goes s IsSpaces t
found s [] v h e = ended s v (end_ok (done s) v e)
found s (b ∷ t) v h e =
    let p = letter_ok (λ s. run step done s t) (step s b) v e in
    let m = moves s (mark_of b) b t p.0 (is_mark b) h p.1 in
    m.1 (found p.0 t v m.0 p.2)

pub kept : (s t : List Goal) (b : ℕ) → Sound s → step s b ≡ Some t → Sound t
kept s t b h e = (moves s (mark_of b) b [] t (is_mark b) h e).0
