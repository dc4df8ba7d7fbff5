-- A field has one answer.
use Rattle.std.specs.Prelude.{ℕ, List, Result}
use Rattle.agg_terms.specs.Chains.{Ty}
use Rattle.scalar_texts.specs.States.{ReadsStates}
use Rattle.scalar_texts.specs.declared.fault.FieldFault.{FieldFault}
use Rattle.value_types.specs.declared.value.Value.{Value}
use Rattle.tsv_values.specs.Answer.{IsFieldAnswer, IsSameField}

-- A text and a type allow one answer, whatever reads the states: one value, or one fault with its place. Want of memory says
-- nothing.
abbrev pub OneFieldAnswer : Type 0
OneFieldAnswer = (reads : ReadsStates) (ty : Ty) (field : List ℕ) (one other : Result Value FieldFault) →
    IsFieldAnswer reads ty field one → IsFieldAnswer reads ty field other → IsSameField one other
