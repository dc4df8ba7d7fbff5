-- A newline that is found.
use Rattle.std.proofs.Common.{◌≡◌, ℕ, zero, suc, ◌≤◌, ◌<◌, Bool, true, false, cond, List, [], ◌∷◌, Option, None, Some, length, take, get_or, min, nat_lt, refl, sym, ap, ◌∙◌, arith, subst}
use Rattle.std.specs.List.{position}
use Rattle.std.proofs.lemmas.Option.{cond_some}
use Rattle.std.proofs.lemmas.Bool.{cases_lt, ltb-true, ltb-false}
use mathlib.Core.Logic.{inl, inr}
use Rattle.std.proofs.lemmas.List.{take-take, take_all, length-take-le, get_or-take}
use Rattle.std.proofs.lemmas.List.Sums.{passes_at_first}
use Rattle.tsv_text.specs.Lines.{is_newline}
use Rattle.line_reader.specs.proving.Awaiting.{FindsLine}
use Rattle.line_reader.specs.Limits.{IsUnbroken}
use Rattle.line_reader.proofs.Lines.{Kind, newline, other, kind_of}
use Rattle.line_reader.proofs.Grown.{place, place-newline, place-other}

-- before the first newline there is none
front-step : (b : ℕ) (bs : List ℕ) (k : ℕ) → Kind b → suc k ≤ place (b ∷ bs) → (k ≤ place bs → IsUnbroken (take k bs)) → (is_newline b ≡ false) × IsUnbroken (take k bs)
front-step b bs k (newline e) h rest = absurd (omega (arith, h, place-newline b bs e))
front-step b bs k (other e) h rest = (e, rest (omega (arith, h, place-other b bs e)))

pub unbroken-front : (bytes : List ℕ) (k : ℕ) → k ≤ place bytes → IsUnbroken (take k bytes)
unbroken-front bytes zero h = tt
unbroken-front [] (suc k) h = tt
unbroken-front (b ∷ bs) (suc k) h = front-step b bs k (kind_of b) h (unbroken-front bs k)

none-found : (b : Bool) (x : ℕ) → cond b (Some x) None ≡ None → b ≡ false
none-found true x e = cc
none-found false x e = refl

-- what a search in the first bytes says of all
pub finds-line : (bytes : List ℕ) (room end : ℕ) (found : Option ℕ) → end ≡ min (length bytes) room → found ≡ position is_newline (take end bytes) → FindsLine room bytes found
finds-line bytes room end (Some at) end_is found =
    let text = take end bytes in
    let some = cond_some (nat_lt (place text) (length text)) (place text) at (sym found) in
    let within = ltb-true (place text) (length text) some.0 in
    let long : length text ≡ end = length-take-le end bytes (omega arith) in
    let here : at < end = omega (arith, within, long, some.1) in (
      omega (arith, here, end_is),
      omega (arith, here, end_is),
      subst IsUnbroken (take-take at end bytes (omega arith)) (unbroken-front text at (omega (arith, some.1))),
      ap is_newline (sym (get_or-take end bytes at 0 here) ∙ ap (λ (k : ℕ). get_or text k 0) (sym some.1)) ∙ passes_at_first is_newline text 0 within,
    )
finds-line bytes room end None end_is found =
    let text = take end bytes in
    let nowhere = ltb-false (place text) (length text) (none-found (nat_lt (place text) (length text)) (place text) (sym found)) in
    let whole : IsUnbroken text = subst IsUnbroken (take_all (length text) text (omega arith)) (unbroken-front text (length text) (omega (arith, nowhere))) in
    let same : take end bytes ≡ take room bytes = elim (cases_lt room (length bytes)) [
      | inl less ↦ ap (λ (k : ℕ). take k bytes) (omega arith)
      | inr more ↦ take_all end bytes (omega (arith, more)) ∙ sym (take_all room bytes more)
    ] in
    subst IsUnbroken same whole
