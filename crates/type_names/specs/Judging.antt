-- The text of a type judged token by token, with the goals that are still to be met.
use Rattle.std.specs.Prelude.{ℕ, ◌-◌, List, [], ◌∷◌, codes, Option, Some, None, Bool, true, false, if◌then◌else◌}
use Rattle.std.specs.Str.{bytes_eq}
use Rattle.line_tokens.specs.Tokens.{Placed}
use Rattle.type_names.specs.declared.goal.Kind.{Kind}
use Rattle.type_names.specs.declared.goal.Kind.TheVariants.{PlainName, ArrayName, MapName, NullableName, StateName, OtherName}
use Rattle.type_names.specs.declared.goal.Goal.{Goal}
use Rattle.type_names.specs.declared.goal.Goal.TheVariants.{AnyType, PlainType, Opening, Closing, Dividing, Name, BehindName, OneLiteral, MoreLiterals, MoreTypes}
use Rattle.line_tokens.specs.Tokens.{Token, word, open_bracket, close_bracket, comma}
use Rattle.type_names.specs.TypeTexts.{is_plain_name, is_literal}

-- What a name means where a type is to come.
abbrev pub kind_of : List ℕ → Kind
kind_of w = if is_plain_name w then PlainName else (if bytes_eq w (codes "Array") then ArrayName else (if bytes_eq w (codes "Map") then MapName else
    (if bytes_eq w (codes "Nullable") then NullableName else (if bytes_eq w (codes "AggregateFunction") then StateName else OtherName))))

-- What is to come behind the name of a type.
abbrev pub type_goals : Kind → List Goal → Option (List Goal)
type_goals PlainName s = Some s
type_goals ArrayName s = Some (Opening ∷ AnyType ∷ Closing ∷ s)
type_goals MapName s = Some (Opening ∷ PlainType ∷ Dividing ∷ AnyType ∷ Closing ∷ s)
type_goals NullableName s = Some (Opening ∷ PlainType ∷ Closing ∷ s)
type_goals StateName s = Some (Opening ∷ Name ∷ BehindName ∷ s)
type_goals OtherName s = None

abbrev pub some_if : Bool → List Goal → Option (List Goal)
some_if true s = Some s
some_if false s = None

-- A token at the goals that are left, the next one first.
abbrev pub step : List Goal → Token → Option (List Goal)
step (AnyType ∷ s) (word w) = type_goals (kind_of w) s
step (PlainType ∷ s) (word w) = some_if (is_plain_name w) s
step (Opening ∷ s) open_bracket = Some s
step (Closing ∷ s) close_bracket = Some s
step (Dividing ∷ s) comma = Some s
step (Name ∷ s) (word w) = Some s
step (BehindName ∷ s) open_bracket = Some (OneLiteral ∷ MoreLiterals ∷ MoreTypes ∷ s)
step (BehindName ∷ s) close_bracket = Some s
step (BehindName ∷ s) comma = Some (AnyType ∷ MoreTypes ∷ s)
step (OneLiteral ∷ s) t = some_if (is_literal t) s
step (MoreLiterals ∷ s) comma = Some (OneLiteral ∷ MoreLiterals ∷ s)
step (MoreLiterals ∷ s) close_bracket = Some s
step (MoreTypes ∷ s) comma = Some (AnyType ∷ MoreTypes ∷ s)
step (MoreTypes ∷ s) close_bracket = Some s
step s t = None

-- All is read where no goal is left.
abbrev pub done : List Goal → Option (Unit {0})
done [] = Some tt
done (g ∷ s) = None

-- Where a step stops: at this token, or further on.
abbrev pub at_step : (List Goal → Option ℕ) → ℕ → Option (List Goal) → Option ℕ
at_step further at None = Some at
at_step further at (Some goals) = further goals

-- The place of the first token that can't be read, or the length of the whole text where goals are left at its end.
abbrev pub first_fault : ℕ → List Goal → List Placed → Option ℕ
first_fault whole [] [] = None
first_fault whole (g ∷ goals) [] = Some whole
first_fault whole goals (t ∷ tokens) = at_step (λ more. first_fault whole more tokens) (whole - t.1) (step goals t.0)
