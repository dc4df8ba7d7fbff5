-- Texts written one behind the other, the last of them by a call whose answer is handed on.
use Rattle.std.proofs.Common.{◌≡◌, ℕ, Bool, true, List, [], ◌∷◌, ◌++◌, codes, Result, Ok, Err, sym, ap, subst, ◌∙◌, append_assoc}
use Rattle.std.specs.Prelude.{OnOk}
use Rattle.type_texts.specs.ParamTexts.{quoted_text, mode_texts}

pub two : {A E : Type 0} (before a b one after : List A) (r : Result (Unit {0}) E) → one ≡ before ++ a → OnOk r (after ≡ one ++ b) → OnOk r (after ≡ before ++ (a ++ b))
two before a b one after (Ok u) first second = second ∙ ap (λ t. t ++ b) first ∙ append_assoc before a b
two before a b one after (Err e) first second = tt

pub three : {A E : Type 0} (before a b c one next after : List A) (r : Result (Unit {0}) E) → one ≡ before ++ a → next ≡ one ++ b → OnOk r (after ≡ next ++ c) → OnOk r (after ≡ before ++ (a ++ (b ++ c)))
three before a b c one next after r first second third = two before a (b ++ c) one after r first (two one b c next after r second third)

-- the strict mode's text is the one that was added
pub mode_added : {E : Type 0} (old new : List (List ℕ)) (item : List ℕ) (strict : Bool) (r : Result (Unit {0}) E) → strict ≡ true → item ≡ quoted_text (codes "strict_increase") → OnOk r (new ≡ old ++ item ∷ []) → OnOk r (new ≡ old ++ mode_texts strict)
mode_added old new item strict r e f h = subst (λ s. OnOk r (new ≡ old ++ mode_texts s)) (sym e) (subst (λ x. OnOk r (new ≡ old ++ x ∷ [])) f h)
