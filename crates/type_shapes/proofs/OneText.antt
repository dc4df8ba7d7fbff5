-- A text that can be unescaped has no fault.
use Rattle.std.proofs.Common.{◌≡◌, ℕ, List, Result, Ok, Err, subst}
use Rattle.tsv_text.specs.declared.fault.TextFault.{TextFault}
use Rattle.tsv_text.specs.declared.fault.TextFault.TheVariants.{LoneBackslash, BadHex}
use Rattle.tsv_text.specs.Escapes.{IsUnescaped, IsSameUnescaped}

abbrev pub HasOneAnswer : Type 0
HasOneAnswer = (field : List ℕ) (one other : Result (List ℕ) TextFault) → IsUnescaped field one → IsUnescaped field other → IsSameUnescaped one other

abbrev pub Unescapes : List ℕ → Type 0
Unescapes field = (bytes : List ℕ) × IsUnescaped field (Ok bytes)

pub no_lone_backslash : HasOneAnswer → (field : List ℕ) (at : ℕ) (r : Result (List ℕ) TextFault) → r ≡ Err (LoneBackslash at) → IsUnescaped field r → Unescapes field → ⊥
no_lone_backslash law field at r e h u =
    let same : (let f : Result (List ℕ) TextFault = Err (LoneBackslash at) in f) ≡ Ok u.0 = law field (Err (LoneBackslash at)) (Ok u.0) (subst (IsUnescaped field) e h) u.1 in absurd cc

pub no_bad_hex : HasOneAnswer → (field : List ℕ) (at : ℕ) (r : Result (List ℕ) TextFault) → r ≡ Err (BadHex at) → IsUnescaped field r → Unescapes field → ⊥
no_bad_hex law field at r e h u =
    let same : (let f : Result (List ℕ) TextFault = Err (BadHex at) in f) ≡ Ok u.0 = law field (Err (BadHex at)) (Ok u.0) (subst (IsUnescaped field) e h) u.1 in absurd cc

pub one_text : HasOneAnswer → (field bytes others : List ℕ) → IsUnescaped field (Ok bytes) → IsUnescaped field (Ok others) → bytes ≡ others
one_text law field bytes others h k = let same : (let f : Result (List ℕ) TextFault = Ok bytes in f) ≡ Ok others = law field (Ok bytes) (Ok others) h k in cc
