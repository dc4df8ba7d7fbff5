-- The text of an answer: a line for each group, its key fields and then its results, or its states (manual: "TabSeparated";
-- an answer has no line of names, which is this project's own choice).
use Rattle.std.specs.Prelude.{ℕ, List, [], ◌∷◌, ◌++◌, IsTrue, map}
use Rattle.std.specs.List.{flat_map}
use Rattle.agg_terms.specs.Chains as terms
use Rattle.agg_terms.specs.Fitting.{fits_value}
use Rattle.agg_terms.specs.Values.{Cell, Tree, Value}
use Rattle.scalar_texts.specs.States.{AllStates}
use Rattle.tsv_values.specs.Writing.{WritesStates, field_text}
use Rattle.value_types.specs.Folds.{ty_of, value_of}
use Rattle.value_types.specs.declared.ty.Ty as rust
use Rattle.value_types.specs.declared.value.Value as rust_values

-- the fields of a line, each value in its type
abbrev pub fields_text : WritesStates → List terms.Ty → List Value → List (List ℕ)
fields_text writes [] values = []
fields_text writes (t ∷ types) [] = []
fields_text writes (t ∷ types) (v ∷ values) = field_text writes t v ∷ fields_text writes types values

-- each behind a tab
abbrev pub behind_tabs : List (List ℕ) → List ℕ
behind_tabs fields = flat_map (λ field. 9 ∷ field) fields

-- with tabs between
abbrev pub with_tabs : List (List ℕ) → List ℕ
with_tabs [] = []
with_tabs (field ∷ fields) = field ++ behind_tabs fields

-- a line, with the newline that ends it
abbrev pub line_text : WritesStates → List terms.Ty → List Value → List ℕ
line_text writes types values = with_tabs (fields_text writes types values) ++ 10 ∷ []

-- the lines of an answer
abbrev pub answer_text : WritesStates → List terms.Ty → List (List Value) → List ℕ
answer_text writes types lines = flat_map (line_text writes types) lines

-- the values of a line: those of a group's key, and then its results or its states
abbrev pub with_results : List Value × List Value → List Value
with_results line = line.0 ++ line.1

abbrev pub with_states : List Value × List Tree → List Value
with_states line = line.0 ++ map Cell line.1

-- A value of each type, whose states are all of types that are written.
abbrev pub AreWritten : (terms.Ty → Type 0) → List rust.Ty → List rust_values.Value → Type 0
AreWritten takes [] [] = Unit {0}
AreWritten takes (t ∷ types) (v ∷ values) = AllStates takes (ty_of t) × IsTrue (fits_value (ty_of t) (value_of v)) × AreWritten takes types values
AreWritten takes _ _ = ⊥
