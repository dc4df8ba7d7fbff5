-- The text of a number cut off the front.
use Rattle.std.proofs.Common.{◌≡◌, ℕ, suc, ℤ, Bool, true, false, not, List, [], ◌∷◌, ◌++◌, length, take, drop, get_or, append-nil, Some, None, Ok, Err, refl, sym, ap, subst, ◌∙◌, arith, inl, inr, ◌&&◌}
use Rattle.std.specs.List.{list_all, position}
use Rattle.std.proofs.lemmas.Bool.{and_parts}
use Rattle.std.proofs.lemmas.Bool.Decides.{nat_tests}
use Rattle.agg_terms.specs.Values as family
use Rattle.value_types.specs.Folds.{value_of}
use Rattle.value_types.specs.declared.value.Value.{Value}
use Rattle.tsv_values.proofs.First.{Fails, all_fail, first_found}
use Rattle.field_texts.specs.Syntax.{AreDigits, IsDigit, IsDigits, IsNumber}
use Rattle.scalar_texts.specs.Numbers.{number_value}
use Rattle.scalar_texts.specs.Answer.{IsNumericAnswer}
use Rattle.scalar_texts.specs.declared.fault.FieldFault.{FieldFault}
use Rattle.scalar_texts.specs.declared.fault.FieldFault.TheVariants.{NotNumber, OutOfMemory, OutOfRange}
use Rattle.tsv_values.specs.Elements.{NumberSays, Said, ranged}
use Rattle.tsv_values.specs.proving.Reading.{Ends, IsAhead, IsFound, IsMissing, IsNumberCut, is_numeric, is_other, missing_of}

-- ---- where the cut is

fail_numeric : (text : List ℕ) → Fails is_other text → list_all is_numeric text ≡ true
fail_numeric [] f = refl
fail_numeric (b ∷ text) f = rw (plain (is_numeric b) f.0) (fail_numeric text f.1)
  where
    plain : (t : Bool) → not t ≡ false → t ≡ true
    plain true e = refl
    plain false e = absurd cc

head_ends : (b : ℕ) (text : List ℕ) → is_other b ≡ true → Ends (b ∷ text)
head_ends b text e = other (is_numeric b) e
  where
    other : (t : Bool) → not t ≡ true → t ≡ false
    other true e = absurd cc
    other false e = refl

pub cut_there : (text front behind : List ℕ) (at : ℕ) → position is_other text ≡ Some at → front ≡ take at text → behind ≡ drop at text → IsNumberCut text front behind
cut_there text front behind at found f b =
    let first = first_found is_other text at found in
    record {
      whole = first.whole ∙ ap (λ x. take at text ++ x) (sym first.behind) ∙ rw (sym f, sym b) refl;
      numeric = rw f (fail_numeric (take at text) first.fails);
      ends = subst Ends (sym (b ∙ first.behind)) (head_ends (get_or text at 0) (drop (suc at) text) first.passes);
    }

pub cut_nowhere : (text front behind : List ℕ) → position is_other text ≡ None → front ≡ take (length text) text → behind ≡ drop (length text) text → IsNumberCut text front behind
cut_nowhere text front behind none f b =
    let all : front ≡ text = f ∙ take_all text in
    let nothing : behind ≡ [] = b ∙ drop_all text in
    record {
      whole = rw (all, nothing) (sym (append-nil text));
      numeric = rw all (fail_numeric text (all_fail is_other text none));
      ends = subst Ends (sym nothing) tt;
    }
  where
    take_all : (text : List ℕ) → take (length text) text ≡ text
    take_all [] = refl
    take_all (b ∷ text) = ap (λ t. b ∷ t) (take_all text)

    drop_all : (text : List ℕ) → drop (length text) text ≡ []
    drop_all [] = refl
    drop_all (b ∷ text) = drop_all text

-- ---- the text of a number has only such bytes

digit_numeric : (b : ℕ) → IsDigit b → is_numeric b ≡ true
digit_numeric b h = grind (arith, nat_tests, h)

digits_numeric : (text : List ℕ) → AreDigits text → list_all is_numeric text ≡ true
digits_numeric [] h = refl
digits_numeric (b ∷ text) h = rw (digit_numeric b h.0) (digits_numeric text h.1)

some_numeric : (text : List ℕ) → IsDigits text → list_all is_numeric text ≡ true
some_numeric [] h = absurd h
some_numeric (b ∷ text) h = digits_numeric (b ∷ text) h

pub number_numeric : (text : List ℕ) → IsNumber text → list_all is_numeric text ≡ true
number_numeric [] h = absurd h
number_numeric (b ∷ text) (inl h) = digits_numeric (b ∷ text) h
number_numeric (b ∷ text) (inr (inl e, d)) = rw e (some_numeric text d)
number_numeric (b ∷ text) (inr (inr e, d)) = rw e (some_numeric text d)

clash : (b : ℕ) (t : Bool) → is_numeric b ≡ false → (is_numeric b && t) ≡ true → ⊥
clash b t e h = let p = and_parts (is_numeric b) t h in cc

-- one cut alone
pub same_cut : (a b r s : List ℕ) → list_all is_numeric a ≡ true → list_all is_numeric b ≡ true → Ends r → Ends s → a ++ r ≡ b ++ s → (a ≡ b) × (r ≡ s)
same_cut [] [] r s na nb er es e = (refl, e)
same_cut [] (y ∷ b) r s na nb er es e = absurd (clash y (list_all is_numeric b) (subst Ends e er) nb)
same_cut (x ∷ a) [] r s na nb er es e = absurd (clash x (list_all is_numeric a) (subst Ends (sym e) es) na)
same_cut (x ∷ a) (y ∷ b) r s na nb er es e =
    let head : x ≡ y = cc in
    let tail : a ++ r ≡ b ++ s = cc in
    let m = same_cut a b r s (and_parts (is_numeric x) (list_all is_numeric a) na).1 (and_parts (is_numeric y) (list_all is_numeric b) nb).1 er es tail in
    (rw (head, m.0) refl, m.1)

-- ---- what stands at the front

module _ (fits : ℤ → Bool) (text number rest : List ℕ) (cut : IsNumberCut text number rest) where
  each_number : (other : Said) (behind : List ℕ) → IsAhead (NumberSays fits) text other behind → IsNumber number × (other ≡ ranged fits (number_value number)) × (behind ≡ rest)
  each_number other behind a =
      let same = same_cut a.front number behind rest (number_numeric a.front a.stands.0) cut.numeric a.ends cut.ends (sym a.whole ∙ cut.whole) in
      (subst IsNumber same.0 a.stands.0, a.stands.1 ∙ ap (λ t. ranged fits (number_value t)) same.0, same.1)

  pub number_found : (v : Value) → IsNumber number × (fits (number_value number) ≡ true) × (value_of v ≡ family.Num (number_value number)) → IsFound (NumberSays fits) text (Ok (value_of v)) rest
  number_found v h =
      let said : Ok (value_of v) ≡ ranged fits (number_value number) = ap Ok h.2 ∙ rw h.1 refl in
      record {
        front = number;
        stands = (h.0, said);
        whole = cut.whole;
        only = λ other behind a. let e = each_number other behind a in (e.1 ∙ sym said, e.2);
      }

  pub number_missing : (fault : FieldFault) → IsNumericAnswer fits number (Err fault) → IsMissing (NumberSays fits) text (missing_of fault)
  number_missing NotNumber h = λ other behind a. h (each_number other behind a).0
  number_missing OutOfRange h = λ other behind a. (each_number other behind a).1 ∙ rw h.1 refl
  number_missing OutOfMemory h = tt
  number_missing fault h = absurd h
