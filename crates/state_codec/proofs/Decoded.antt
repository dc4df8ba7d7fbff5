-- What decoding found is spelled so, and what is spelled so is found.
use Rattle.std.proofs.Common.{◌≡◌, ℕ, suc, ◌^◌, ◌<◌, List, [], ◌∷◌, length, get_or, Result, Ok, Err, sym, ap, subst, ◌∙◌, arith}
use Rattle.std.specs.Prelude.{IfOk}
use Rattle.value_lists.specs.declared.out_of_memory.OutOfMemory.{OutOfMemory}
use Rattle.agg_terms.specs.Chains.{Chain, Ty}
use Rattle.agg_terms.specs.Trees.{IsTree}
use Rattle.agg_terms.specs.Values.{Tree as Family}
use Rattle.value_types.specs.declared.value.Tree.{Tree}
use Rattle.value_types.specs.Folds.{tree_of}
use Rattle.state_texts.specs.declared.version.Version.{Version}
use Rattle.state_texts.specs.Spelled.{IsSpelledChain}
use Rattle.state_texts.specs.Texts.{text}
use Rattle.state_texts.specs.Versions.{version_byte, written}
use Rattle.state_texts.proofs.Figures.{AreBytes}
use Rattle.state_texts.proofs.Short.{tree_short}
use Rattle.state_texts.proofs.Trees.{of_tree}
use Rattle.state_codec.specs.declared.decode_fault.DecodeFault.{DecodeFault}
use Rattle.state_codec.specs.Gives.{Gives, IsFound, IsOnly, IsReadBack, IsWrittenBack}
use Rattle.state_codec.specs.Reading.{reading}
use Rattle.state_codec.proofs.Whole.{whole_again, whole_back, whole_takes}

pub are_bytes : (bytes : List ℕ) → ((i : ℕ) → get_or bytes i 0 < 256) → AreBytes bytes
are_bytes [] h = tt
are_bytes (b ∷ bytes) h = (h 0, are_bytes bytes (λ i. h (suc i)))

pub is_found : (c : Chain) (ts : List Ty) → IsSpelledChain c ts → (bytes : List ℕ) (result : Result Tree DecodeFault) → ((i : ℕ) → get_or bytes i 0 < 256) → Gives tree_of result (reading c ts bytes) → IsFound c ts bytes result
is_found c ts s bytes (Ok tree) fits e =
    let k = whole_takes c ts s bytes (tree_of tree) (are_bytes bytes fits) e in (k.0, k.1, of_tree k.0 c ts (tree_of tree) k.2)
is_found c ts s bytes (Err f) fits e = tt

-- bytes of a memory that are the text of a state tree are read as that tree
pub is_read : (v : Version) (c : Chain) (ts : List Ty) → IsSpelledChain c ts → (bytes : List ℕ) (t : Family) → length bytes < 2 ^ 64 → IsTree c ts t → bytes ≡ text v c ts t → reading c ts bytes ≡ Ok t
is_read v c ts s bytes t l k e =
    let m : length (text v c ts t) < 2 ^ 64 = subst (λ b. length b < 2 ^ 64) e l in
    ap (reading c ts) e ∙ whole_again v c ts s t (tree_short v c ts t s k (omega (arith, m)))

pub is_only : (c : Chain) (ts : List Ty) → IsSpelledChain c ts → (bytes : List ℕ) (result : Result Tree DecodeFault) → length bytes < 2 ^ 64 → Gives tree_of result (reading c ts bytes) → IsOnly c ts bytes result
is_only c ts s bytes result l e = λ v tree k same. subst (λ r. Gives tree_of result r) (is_read v c ts s bytes tree l k same) e

rest_fits : (b : ℕ) (bytes more : List ℕ) → AreBytes bytes → bytes ≡ b ∷ more → AreBytes more
rest_fits b bytes more k e = (subst AreBytes e k).1

pub is_written_back : (c : Chain) (ts : List Ty) → IsSpelledChain c ts → (bytes : List ℕ) (result : Result Tree DecodeFault) → ((i : ℕ) → get_or bytes i 0 < 256) → Gives tree_of result (reading c ts bytes) → IsWrittenBack c ts bytes result
is_written_back c ts s bytes (Ok tree) fits e = λ more same.
    whole_back c ts s more (tree_of tree) (rest_fits (version_byte written) bytes more (are_bytes bytes fits) same) (sym (ap (reading c ts) same) ∙ e) ∙ sym same
is_written_back c ts s bytes (Err f) fits e = tt

-- what was written in a memory is read back
pub is_read_back : (c : Chain) (ts : List Ty) → IsSpelledChain c ts → (t : Family) (result : Result (List ℕ) OutOfMemory) → IfOk result (λ bytes. bytes ≡ text written c ts t) → IfOk result (λ bytes. length bytes < 2 ^ 64) → IsReadBack c ts t result
is_read_back c ts s t (Ok bytes) e l = λ k. is_read written c ts s bytes t l k e
is_read_back c ts s t (Err f) e l = tt
