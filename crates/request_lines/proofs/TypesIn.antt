-- Types within lines: what is known of their goals alone holds of them before other goals.
use Rattle.std.proofs.Common.{◌≡◌, List, [], ◌∷◌, ◌++◌, map, Option, Some, None, Bool, true, false, Ok, refl, sym, ap, subst, ◌∙◌, append_assoc}
use Rattle.std.proofs.lemmas.List.{map-append}
use Rattle.first_fault.specs.Machine.{run, later, at_letter}
use Rattle.first_fault.proofs.Machines.{letter_ok}
use Rattle.line_tokens.specs.Tokens.{Token, word, open_bracket, close_bracket, comma}
use Rattle.type_names.specs.TypeTexts.{is_plain_name, is_literal}
use Rattle.type_names.specs.declared.goal.Kind.{Kind}
use Rattle.type_names.specs.declared.goal.Kind.TheVariants.{PlainName, ArrayName, MapName, NullableName, StateName, OtherName}
use Rattle.type_names.specs.declared.goal.Goal.{Goal as TypeGoal}
use Rattle.type_names.specs.declared.goal.Goal.TheVariants.{AnyType, PlainType, Opening, Closing, Dividing, Name, BehindName, OneLiteral, MoreLiterals, MoreTypes}
use Rattle.type_names.specs.Judging as types
use Rattle.type_names.proofs.Only as types_only
use Rattle.line_forms.specs.Letters.{Sign, sign}
use Rattle.request_lines.specs.proving.Judging.{Goal, in_type, in_types, done, move}

-- the goals in place of the first one, before those below it
abbrev pub onto : List TypeGoal → Option (List TypeGoal) → Option (List TypeGoal)
onto s None = None
onto s (Some more) = Some (more ++ s)

kind_onto : (k : Kind) (s : List TypeGoal) → types.type_goals k s ≡ onto s (types.type_goals k [])
kind_onto PlainName s = refl
kind_onto ArrayName s = refl
kind_onto MapName s = refl
kind_onto NullableName s = refl
kind_onto StateName s = refl
kind_onto OtherName s = refl

some_onto : (t : Bool) (s : List TypeGoal) → types.some_if t s ≡ onto s (types.some_if t [])
some_onto true s = refl
some_onto false s = refl

pub step_onto : (g : TypeGoal) (s : List TypeGoal) (x : Token) → types.step (g ∷ s) x ≡ onto s (types.step (g ∷ []) x)
step_onto AnyType s (word w) = kind_onto (types.kind_of w) s
step_onto PlainType s (word w) = some_onto (is_plain_name w) s
step_onto OneLiteral s x = some_onto (is_literal x) s
step_onto Opening s open_bracket = refl
step_onto Closing s close_bracket = refl
step_onto Dividing s comma = refl
step_onto Name s (word w) = refl
step_onto BehindName s comma = refl
step_onto MoreLiterals s comma = refl
step_onto MoreTypes s comma = refl
step_onto g s x = refl

abbrev pub Runs : List Goal → List Sign → Type 0
Runs s t = run move done s t ≡ Ok tt

-- at one token of a type: what is left of it are these goals
at_token : (g : TypeGoal) (gs u : List TypeGoal) (x : Token) (s : List Goal) (rest : List Sign) (o : Option (List TypeGoal)) → types.step (g ∷ []) x ≡ o → onto gs o ≡ Some u
    → Runs (map in_type u ++ s) rest → Runs (in_type g ∷ (map in_type gs ++ s)) (sign x ∷ rest)
at_token g gs u x s rest None is e r = absurd cc
at_token g gs u x s rest (Some more) is e r =
    let same : more ++ gs ≡ u = cc in
    let goals : map in_type u ++ s ≡ map in_type more ++ (map in_type gs ++ s) =
    ap (λ v. map in_type v ++ s) (sym same) ∙ ap (λ v. v ++ s) (map-append in_type more gs) ∙ append_assoc (map in_type more) (map in_type gs) s in
    ap (λ o. at_letter (λ v. run move done v rest) (in_types o (map in_type gs ++ s))) is ∙ ap later (subst (λ v. Runs v rest) goals r)

pub types_run : (gs : List TypeGoal) (ts : List Token) (s : List Goal) (t : List Sign) → types_only.Runs gs ts → Runs s t → Runs (map in_type gs ++ s) (map sign ts ++ t)
types_run [] [] s t e r = r
types_run (g ∷ gs) [] s t e r = absurd cc
types_run [] (x ∷ ts) s t e r = absurd cc
types_run (g ∷ gs) (x ∷ ts) s t e r =
    let p = letter_ok (λ v. run types.step types.done v ts) (types.step (g ∷ gs) x) tt e in
    at_token g gs p.0 x s (map sign ts ++ t) (types.step (g ∷ []) x) refl (sym (step_onto g gs x) ∙ p.1) (types_run p.0 ts s t p.2 r)
