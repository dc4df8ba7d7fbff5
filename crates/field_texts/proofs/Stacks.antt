-- The goals of the code as a stack.
use Rattle.std.proofs.Common.{◌≡◌, ℕ, ◌+◌, Bool, true, false, ◌&&◌, if◌then◌else◌, List, [], ◌∷◌, ◌++◌, map, Option, Some, None, Result, Ok, Err, IfOk, refl, sym, ap, ◌∙◌, arith}
use Rattle.std.proofs.lemmas.List.{reverse-append}
use Rattle.field_texts.specs.declared.goal.Goal.{Goal}
use Rattle.field_texts.specs.declared.mark.Mark.{Mark}
use Rattle.field_texts.specs.declared.mark.Mark.TheVariants.{LetterN}
use Rattle.agg_terms.specs.Chains.{Ty, Whole, Signed, Str, Arr, MapTy, Nullable, StateOf}
use Rattle.agg_terms.specs.Types.{bare, may_be_null}
use Rattle.first_fault.specs.Machine.{at_end, shifted}
use Rattle.field_texts.specs.Syntax.{FieldForm, form_of}
use Rattle.field_texts.specs.Machine as machine
use Rattle.field_texts.specs.Machine.{before, done, letter_l, letter_u, mark_of, opened, step, step_on}
use Rattle.field_texts.specs.proving.Goals.{goal_seen, goes_to, is_letter_n, stack_of}

pub stack_push : (goals : List Goal) (g : Goal) → stack_of (goals ++ g ∷ []) ≡ goal_seen g ∷ stack_of goals
stack_push goals g = ap (map goal_seen) (reverse-append goals (g ∷ []))

-- ---- NULL, and the type without Nullable

null_is : (t : Ty) (m : Mark) → (is_letter_n m && may_be_null t) ≡ true → opened (form_of t) m ≡ Some (letter_u ∷ letter_l ∷ letter_l ∷ [])
null_is (Nullable t) LetterN e = refl
null_is (Nullable t) m e = absurd cc
null_is (Whole n) LetterN e = absurd cc
null_is (Whole n) m e = absurd cc
null_is (Signed w) LetterN e = absurd cc
null_is (Signed w) m e = absurd cc
null_is Str LetterN e = absurd cc
null_is Str m e = absurd cc
null_is (StateOf c ts) LetterN e = absurd cc
null_is (StateOf c ts) m e = absurd cc
null_is (Arr t) LetterN e = absurd cc
null_is (Arr t) m e = absurd cc
null_is (MapTy k t) LetterN e = absurd cc
null_is (MapTy k t) m e = absurd cc

bare_is : (t : Ty) (m : Mark) → (is_letter_n m && may_be_null t) ≡ false → opened (form_of t) m ≡ opened (form_of (bare t)) m
bare_is (Nullable t) LetterN e = absurd cc
bare_is (Nullable t) m e = bare_is t m refl
bare_is (Whole n) m e = refl
bare_is (Signed w) m e = refl
bare_is Str m e = refl
bare_is (StateOf c ts) m e = refl
bare_is (Arr t) m e = refl
bare_is (MapTy k t) m e = refl

pub null_opened : (s new : List Goal) (goes : Bool) (t : Ty) (m : Mark) → is_letter_n m ≡ true → may_be_null t ≡ true → goes ≡ true → stack_of new ≡ letter_u ∷ letter_l ∷ letter_l ∷ stack_of s
    → before (stack_of s) (opened (form_of t) m) ≡ goes_to goes new
null_opened s new goes t m n l g pushed =
    ap (before (stack_of s)) (null_is t m (rw (n, l) refl)) ∙ ap Some (sym pushed) ∙ ap (λ g. goes_to g new) (sym g)

pub bare_opened : {E : Type 0} (s new : List Goal) (r : Result Bool E) (t : Ty) (shape : FieldForm) (m : Mark) → (is_letter_n m && may_be_null t) ≡ false → shape ≡ form_of (bare t)
    → IfOk r (λ goes. before (stack_of s) (opened shape m) ≡ goes_to goes new) → IfOk r (λ goes. before (stack_of s) (opened (form_of t) m) ≡ goes_to goes new)
bare_opened s new (Ok goes) t shape m filled e h =
    ap (before (stack_of s)) (bare_is t m filled ∙ ap (λ u. opened u m) (sym e)) ∙ h
bare_opened s new (Err fault) t shape m filled e h = tt

pub left_false : (a b : Bool) → a ≡ false → (a && b) ≡ false
left_false a b e = ap (λ a. a && b) e

pub right_false : (a b : Bool) → b ≡ false → (a && b) ≡ false
right_false true b e = e
right_false false b e = refl

pub ruleset opened_laws = (stack_push, null_opened)

-- ---- a byte

pub went_on : (s : List machine.Goal) (b : ℕ) (m : Mark) (goes : Bool) (new : List Goal) → m ≡ mark_of b → step_on s m ≡ goes_to goes new → goes ≡ true → step s b ≡ Some (stack_of new)
went_on s b m goes new e f g = ap (step_on s) (sym e) ∙ f ∙ ap (λ g. goes_to g new) g

pub went_off : (s : List machine.Goal) (b : ℕ) (m : Mark) (goes : Bool) (new : List Goal) → m ≡ mark_of b → step_on s m ≡ goes_to goes new → goes ≡ false → step s b ≡ None
went_off s b m goes new e f g = ap (step_on s) (sym e) ∙ f ∙ ap (λ g. goes_to g new) g

-- ---- the end

abbrev ended : Bool → Option (Unit {0})
ended b = if b then Some tt else None

pub ends_well : (n : ℕ) (s : List machine.Goal) (b : Bool) (total : Result (Unit {0}) ℕ) → total ≡ shifted n (at_end (done s)) → done s ≡ ended b → b ≡ true → total ≡ Ok tt
ends_well n s b total e f g = e ∙ ap (λ o. shifted n (at_end o)) (f ∙ ap ended g)

pub ends_early : (n : ℕ) (s : List machine.Goal) (b : Bool) (total : Result (Unit {0}) ℕ) → total ≡ shifted n (at_end (done s)) → done s ≡ ended b → b ≡ false → total ≡ Err n
ends_early n s b total e f g =
    let at : n + 0 ≡ n = omega arith in
    e ∙ ap (λ o. shifted n (at_end o)) (f ∙ ap ended g) ∙ ap Err at
