-- What holds of all parts holds of the part at a place.
use Rattle.std.proofs.Common.{ℕ, zero, suc, ◌<◌, List, [], ◌∷◌, length, get_or, map, arith}
use Rattle.line_forms.specs.Views.{column_of, call_of}
use Rattle.line_forms.specs.declared.select.WrittenCall.{WrittenCall}
use Rattle.line_forms.specs.declared.table.WrittenColumn.{WrittenColumn}
use Rattle.request_rules.specs.Selects.{IsFewCall, AreFewCalls}
use Rattle.request_rules.specs.Tables.{IsCountableShape, AreCountableShapes}

pub countable_at : (xs : List WrittenColumn) (i : ℕ) (d : WrittenColumn) → i < length xs → AreCountableShapes (map column_of xs) → IsCountableShape (column_of (get_or xs i d)).shape
countable_at [] i d here h = absurd (omega arith)
countable_at (x ∷ xs) zero d here h = h.0
countable_at (x ∷ xs) (suc i) d here h = countable_at xs i d (omega arith) h.1

pub few_at : (xs : List WrittenCall) (i : ℕ) (d : WrittenCall) → i < length xs → AreFewCalls (map call_of xs) → IsFewCall (call_of (get_or xs i d))
few_at [] i d here h = absurd (omega arith)
few_at (x ∷ xs) zero d here h = h.0
few_at (x ∷ xs) (suc i) d here h = few_at xs i d (omega arith) h.1
