-- The syntax of a field is judged byte by byte, with a stack of what is still to come.
use Rattle.std.specs.Prelude.{ℕ, List, [], ◌∷◌, ◌++◌, Option, Some, None, Result, nat_le, ◌==◌, ◌&&◌, ◌||◌, if◌then◌else◌}
use Rattle.first_fault.specs.Machine.{run}
use Rattle.field_texts.specs.declared.mark.Mark.{Mark}
use Rattle.field_texts.specs.declared.mark.Mark.TheVariants.{Space, Plus, Minus, Digit, Quote, Backslash, Comma, Colon, OpenBracket, CloseBracket, OpenBrace, CloseBrace, LetterX, HexLetter, LetterN, LetterU, LetterL, Other}
use Rattle.field_texts.specs.Syntax.{FieldForm, number, string, nullable, array, map_of}

-- What a byte means.
abbrev pub mark_of : ℕ → Mark
mark_of b = if b == 32 then Space else (if b == 43 then Plus else (if b == 45 then Minus else (if b == 39 then Quote else (if b == 92 then Backslash else (if b == 44 then Comma else
    (if b == 58 then Colon else (if b == 91 then OpenBracket else (if b == 93 then CloseBracket else (if b == 123 then OpenBrace else (if b == 125 then CloseBrace else (if b == 120 then LetterX else
    (if b == 78 then LetterN else (if b == 85 then LetterU else (if b == 76 then LetterL else
    (if nat_le 48 b && nat_le b 57 then Digit else (if (nat_le 97 b && nat_le b 102) || (nat_le 65 b && nat_le b 70) then HexLetter else Other))))))))))))))))

-- what is still to come
pub data Goal : Type 0 where
  value : FieldForm → Goal
  first : FieldForm → Goal
  more : FieldForm → Goal
  first_pair : FieldForm → FieldForm → Goal
  more_pair : FieldForm → FieldForm → Goal
  between : Goal
  digits : Goal
  more_digits : Goal
  quoted : Goal
  escaped : Goal
  hexed : Goal
  letter_u : Goal
  letter_l : Goal

-- the first byte of a value
abbrev pub opened : FieldForm → Mark → Option (List Goal)
opened number Plus = Some (digits ∷ [])
opened number Minus = Some (digits ∷ [])
opened number Digit = Some (more_digits ∷ [])
opened string Quote = Some (quoted ∷ [])
opened (nullable ty) LetterN = Some (letter_u ∷ letter_l ∷ letter_l ∷ [])
opened (nullable ty) m = opened ty m
opened (array ty) OpenBracket = Some (first ty ∷ [])
opened (map_of key ty) OpenBrace = Some (first_pair key ty ∷ [])
opened ty m = None

abbrev pub before : List Goal → Option (List Goal) → Option (List Goal)
before rest (Some new) = Some (new ++ rest)
before rest None = None

abbrev pub step_on : List Goal → Mark → Option (List Goal)
step_on [] Space = Some []
step_on (value ty ∷ s) Space = Some (value ty ∷ s)
step_on (value ty ∷ s) m = before s (opened ty m)
step_on (first ty ∷ s) Space = Some (first ty ∷ s)
step_on (first ty ∷ s) CloseBracket = Some s
step_on (first ty ∷ s) m = before (more ty ∷ s) (opened ty m)
step_on (more ty ∷ s) Space = Some (more ty ∷ s)
step_on (more ty ∷ s) CloseBracket = Some s
step_on (more ty ∷ s) Comma = Some (value ty ∷ more ty ∷ s)
step_on (first_pair key ty ∷ s) Space = Some (first_pair key ty ∷ s)
step_on (first_pair key ty ∷ s) CloseBrace = Some s
step_on (first_pair key ty ∷ s) m = before (between ∷ value ty ∷ more_pair key ty ∷ s) (opened key m)
step_on (more_pair key ty ∷ s) Space = Some (more_pair key ty ∷ s)
step_on (more_pair key ty ∷ s) CloseBrace = Some s
step_on (more_pair key ty ∷ s) Comma = Some (value key ∷ between ∷ value ty ∷ more_pair key ty ∷ s)
step_on (between ∷ s) Space = Some (between ∷ s)
step_on (between ∷ s) Colon = Some s
step_on (digits ∷ s) Digit = Some (more_digits ∷ s)
step_on (more_digits ∷ s) Digit = Some (more_digits ∷ s)
step_on (more_digits ∷ s) m = step_on s m
step_on (quoted ∷ s) Quote = Some s
step_on (quoted ∷ s) Backslash = Some (escaped ∷ s)
step_on (quoted ∷ s) m = Some (quoted ∷ s)
step_on (escaped ∷ s) LetterX = Some (hexed ∷ hexed ∷ quoted ∷ s)
step_on (escaped ∷ s) m = Some (quoted ∷ s)
step_on (hexed ∷ s) Digit = Some s
step_on (hexed ∷ s) HexLetter = Some s
step_on (letter_u ∷ s) LetterU = Some s
step_on (letter_l ∷ s) LetterL = Some s
step_on s m = None

abbrev pub step : List Goal → ℕ → Option (List Goal)
step s b = step_on s (mark_of b)

abbrev pub done : List Goal → Option (Unit {0})
done [] = Some tt
done (more_digits ∷ s) = done s
done (g ∷ s) = None

-- whether the text is one of the type's, or its first fault
abbrev pub judge : FieldForm → List ℕ → Result (Unit {0}) ℕ
judge ty bytes = run step done (value ty ∷ []) bytes
