-- What the judge's loop told.
use Rattle.std.proofs.Common.{◌≡◌, ℕ, List, Some, None, Ok, Err, subst}
use Rattle.first_fault.specs.FirstFault.{IsReading}
use Rattle.field_texts.specs.Syntax.{FieldForm, IsField}
use Rattle.field_texts.specs.Faults.{IsFieldFault}
use Rattle.field_texts.specs.Machine.{judge}
use Rattle.field_texts.proofs.Law.{judge_exact}

pub told_ok : (shape : FieldForm) (text : List ℕ) → judge shape text ≡ Ok tt → IsFieldFault shape text None
told_ok shape text e = subst (IsReading (IsField shape) text) e (judge_exact shape text)

pub told_err : (shape : FieldForm) (text : List ℕ) (at : ℕ) → judge shape text ≡ Err at → IsFieldFault shape text (Some at)
told_err shape text at e = subst (IsReading (IsField shape) text) e (judge_exact shape text)
