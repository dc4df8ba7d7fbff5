-- One step over a front of a text.
use Rattle.std.proofs.Common.{◌≡◌, ◌+◌, ℕ, List, get_or, set, ap, subst, ◌∙◌, inl, inr}
use Rattle.std.specs.Prelude.{Result, Ok, Err}
use Rattle.std.proofs.lemmas.List.{set-get_or}
use Rattle.value_lists.specs.declared.out_of_memory.OutOfMemory.{OutOfMemory}
use Rattle.typed_columns.specs.TypedValues.{TypedValues}
use Rattle.value_types.specs.declared.ty.Ty.{Ty}
use Rattle.scalar_texts.specs.States.{ReadsStates}
use Rattle.quick_rows.specs.Taking.{TakesFirst}
use Rattle.quick_rows.specs.Keeping.{IsStep}
use Rattle.quick_rows.specs.proving.Walking.{StepsFirst, TakesBy, WalksBy, WalksStep}
use Rattle.quick_rows.specs.declared.field.Front.{Front}
use Rattle.quick_rows.specs.declared.field.Front.TheVariants as front
use Rattle.quick_rows.specs.declared.walk.Step.{Step}
use Rattle.quick_rows.specs.declared.walk.Step.TheVariants as step

as_before : (columns after : List TypedValues) (at : ℕ) (e c : TypedValues) → e ≡ get_or columns at e → after ≡ set columns at c → c ≡ e → after ≡ columns
as_before columns after at e c here after_is same = after_is ∙ ap (λ (x : TypedValues). set columns at x) (same ∙ here) ∙ set-get_or columns at e

-- a front that is taken into a column
pub stepped_keep : (reads : ReadsStates) (s : Step) (t : Ty) (columns after : List TypedValues) (at next : ℕ) (text : List ℕ) (e c : TypedValues) (r : Result Front OutOfMemory) → s ≡ step.Keep → e ≡ get_or columns at e →
    after ≡ set columns at c → next ≡ at + 1 → TakesFirst (TakesBy reads) e text c r → StepsFirst reads s t columns at text after next r
stepped_keep reads s t columns after at next text e c (Ok (front.Taken left)) is here after_is next_is h = inl (is, e, here, c, after_is, next_is, h)
stepped_keep reads s t columns after at next text e c (Ok front.Irregular) is here after_is next_is h = as_before columns after at e c here after_is h
stepped_keep reads s t columns after at next text e c (Err fault) is here after_is next_is h = as_before columns after at e c here after_is h

-- one that is judged
pub stepped_over : (reads : ReadsStates) (s : Step) (t : Ty) (columns after : List TypedValues) (at next : ℕ) (text : List ℕ) (f : Front) → after ≡ columns → next ≡ at → WalksStep s text f
    → StepsFirst reads s t columns at text after next (Ok f)
stepped_over reads s t columns after at next text (front.Taken left) after_is next_is walks =
    inr (after_is, next_is, λ keep is. let w = walks t keep is in (w.0, (w.1.0, w.1.1, w.1.2, w.1.3, w.1.4 reads)))
stepped_over reads s t columns after at next text front.Irregular after_is next_is walks = after_is

-- a state that is read and not kept
pub stepped_state : (reads : ReadsStates) (s : Step) (t : Ty) (columns after : List TypedValues) (at next : ℕ) (text : List ℕ) (r : Result Front OutOfMemory) → s ≡ step.State → after ≡ columns → next ≡ at → WalksBy reads t text r
    → StepsFirst reads s t columns at text after next r
stepped_state reads s t columns after at next text (Ok (front.Taken left)) is after_is next_is walks = inr (after_is, next_is, λ keep means. ((subst (IsStep t keep) is means).0, walks))
stepped_state reads s t columns after at next text (Ok front.Irregular) is after_is next_is walks = after_is
stepped_state reads s t columns after at next text (Err fault) is after_is next_is walks = after_is
