-- Entries, as the writer goes through them: those of a map by its type, and keys with their states.
use Rattle.std.specs.Prelude.{ℕ, List, [], ◌++◌}
use Rattle.agg_terms.specs.Chains.{MapTy, Ty}
use Rattle.agg_terms.specs.Values as family
use Rattle.value_types.specs.declared.value.Value.{Value}
use Rattle.value_types.specs.Folds.{value_of}
use Rattle.state_texts.specs.Texts.{value_text}

-- key, then value
abbrev pub pair_text : Ty → family.Value × family.Value → List ℕ
pair_text (MapTy k t) e = value_text k e.0 ++ value_text t e.1
pair_text t e = []

-- an entry of the code
abbrev pub pair_view : Value × Value → family.Value × family.Value
pair_view e = (value_of e.0, value_of e.1)

-- a key, and the state at it
abbrev pub entry_text : Ty → (family.Tree → List ℕ) → family.Value × family.Tree → List ℕ
entry_text key text = λ e. value_text key e.0 ++ text e.1
