-- What a reader of states gives, and in which types.
use Rattle.std.specs.Prelude.{◌≡◌, ℕ, List, Result, Ok, Err}
use Rattle.agg_terms.specs.Chains.{Ty, Arr, MapTy, Nullable, StateOf}
use Rattle.agg_terms.specs.Values as family
use Rattle.value_types.specs.Folds.{tree_of}
use Rattle.value_types.specs.declared.value.Tree.{Tree}
use Rattle.scalar_texts.specs.declared.fault.StateFault.{StateFault}
use Rattle.scalar_texts.specs.declared.fault.StateReadFault.{StateReadFault}
use Rattle.scalar_texts.specs.declared.fault.StateReadFault.TheVariants.{Bad, OutOfMemory}

-- The tree that bytes stand for in a state type, or their first fault.
abbrev pub ReadsStates : Type 0
ReadsStates = Ty → List ℕ → Result family.Tree StateFault

-- The answer is what is told, but for want of memory.
abbrev pub IsStateRead : Result family.Tree StateFault → Result Tree StateReadFault → Type 0
IsStateRead told (Ok tree) = told ≡ Ok (tree_of tree)
IsStateRead told (Err (Bad fault)) = told ≡ Err fault
IsStateRead told (Err OutOfMemory) = Unit {0}

-- Every state type inside the type is one of these.
abbrev pub AllStates : (Ty → Type 0) → Ty → Type 0
AllStates takes (Arr t) = AllStates takes t
AllStates takes (MapTy k t) = AllStates takes k × AllStates takes t
AllStates takes (Nullable t) = AllStates takes t
AllStates takes (StateOf c ts) = takes (StateOf c ts)
AllStates takes _ = Unit {0}
