-- What a reader returned, seen by view, is what reading gives, unless memory ran out.
use Rattle.std.specs.Prelude.{◌≡◌, ℕ, List, ◌∷◌, IfOk, Result, Ok, Err}
use Rattle.agg_terms.specs.Chains.{Chain, Ty}
use Rattle.agg_terms.specs.Trees.{IsTree}
use Rattle.agg_terms.specs.Values.{Tree as Family}
use Rattle.value_types.specs.declared.value.Tree.{Tree}
use Rattle.value_types.specs.Folds.{tree_of}
use Rattle.value_lists.specs.declared.out_of_memory.OutOfMemory.{OutOfMemory}
use Rattle.state_texts.specs.declared.version.Version.{Version}
use Rattle.state_texts.specs.Texts.{text}
use Rattle.state_texts.specs.Versions.{version_byte, written}
use Rattle.state_codec.specs.Reading.{reading}
use Rattle.scalar_texts.specs.declared.fault.StateFault.{StateFault}
use Rattle.state_codec.specs.declared.decode_fault.DecodeFault.{DecodeFault}
use Rattle.state_codec.specs.declared.decode_fault.DecodeFault.TheVariants as faults

abbrev pub Fails : {Y : Type 0} → DecodeFault → Result Y StateFault → Type 0
Fails faults.OutOfMemory read = Unit {0}
Fails (faults.Bad f) read = read ≡ Err f

abbrev pub Gives : {X Y : Type 0} → (X → Y) → Result X DecodeFault → Result Y StateFault → Type 0
Gives view (Ok x) read = read ≡ Ok (view x)
Gives view (Err e) read = Fails e read

-- a tree that was found is a state tree, and the bytes are its text
abbrev pub IsFound : Chain → List Ty → List ℕ → Result Tree DecodeFault → Type 0
IsFound c ts bytes result = IfOk result (λ tree. (v : Version) × (bytes ≡ text v c ts (tree_of tree)) × IsTree c ts (tree_of tree))

-- where the bytes are the text of a state tree, that is found
abbrev pub IsOnly : Chain → List Ty → List ℕ → Result Tree DecodeFault → Type 0
IsOnly c ts bytes result = (v : Version) (tree : Family) → IsTree c ts tree → bytes ≡ text v c ts tree → Gives tree_of result (Ok tree)

-- bytes of the version that is written are the text of what was found
abbrev pub IsWrittenBack : Chain → List Ty → List ℕ → Result Tree DecodeFault → Type 0
IsWrittenBack c ts bytes result =
    IfOk result (λ tree. (more : List ℕ) → bytes ≡ version_byte written ∷ more → text written c ts (tree_of tree) ≡ bytes)

-- the bytes that were written for a state tree are read as that tree
abbrev pub IsReadBack : Chain → List Ty → Family → Result (List ℕ) OutOfMemory → Type 0
IsReadBack c ts tree result = IfOk result (λ bytes. IsTree c ts tree → reading c ts bytes ≡ Ok tree)
