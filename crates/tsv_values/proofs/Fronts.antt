-- What is found at the front of a text, seen as something else.
use Rattle.std.proofs.Common.{◌≡◌, ℕ, List, Result, Err}
use Rattle.scalar_texts.specs.declared.fault.FieldFault.{FieldFault}
use Rattle.scalar_texts.specs.declared.fault.FieldFault.TheVariants.{NotNumber, OutOfRange, Text, BadArray, BadMap, NotNullable, NotHex, BadState, OutOfMemory}
use Rattle.tsv_values.specs.declared.found.Missing.{Missing}
use Rattle.tsv_values.specs.declared.found.Missing.TheVariants.{Nothing, Refused}
use Rattle.tsv_values.specs.proving.Reading.{IsAhead, IsMissing}

-- where each that may be seen here is refused as one there is
pub missing_by : {X Y : Type 0} (says : Result X FieldFault → List ℕ → Type 0) (text : List ℕ) (tells : Result Y FieldFault → List ℕ → Type 0) (line : List ℕ)
    → ((other : Result Y FieldFault) (behind : List ℕ) → IsAhead tells line other behind → (x : Result X FieldFault) × (rest : List ℕ) × IsAhead says text x rest × ((fault : FieldFault) → x ≡ Err fault → other ≡ Err fault))
    → (missing : Missing) → IsMissing says text missing → IsMissing tells line missing
missing_by says text tells line f Nothing h = λ other behind ahead. let p = f other behind ahead in h p.0 p.1 p.2
missing_by says text tells line f (Refused OutOfMemory) h = tt
missing_by says text tells line f (Refused NotNumber) h = λ other behind ahead. let p = f other behind ahead in p.3 NotNumber (h p.0 p.1 p.2)
missing_by says text tells line f (Refused OutOfRange) h = λ other behind ahead. let p = f other behind ahead in p.3 OutOfRange (h p.0 p.1 p.2)
missing_by says text tells line f (Refused (Text t)) h = λ other behind ahead. let p = f other behind ahead in p.3 (Text t) (h p.0 p.1 p.2)
missing_by says text tells line f (Refused (BadArray at)) h = λ other behind ahead. let p = f other behind ahead in p.3 (BadArray at) (h p.0 p.1 p.2)
missing_by says text tells line f (Refused (BadMap at)) h = λ other behind ahead. let p = f other behind ahead in p.3 (BadMap at) (h p.0 p.1 p.2)
missing_by says text tells line f (Refused NotNullable) h = λ other behind ahead. let p = f other behind ahead in p.3 NotNullable (h p.0 p.1 p.2)
missing_by says text tells line f (Refused (NotHex at)) h = λ other behind ahead. let p = f other behind ahead in p.3 (NotHex at) (h p.0 p.1 p.2)
missing_by says text tells line f (Refused (BadState fault)) h = λ other behind ahead. let p = f other behind ahead in p.3 (BadState fault) (h p.0 p.1 p.2)

-- each that may be seen here has this fault
pub refused_by : {X : Type 0} (says : Result X FieldFault → List ℕ → Type 0) (text : List ℕ) (fault : FieldFault)
    → ((other : Result X FieldFault) (behind : List ℕ) → IsAhead says text other behind → other ≡ Err fault) → IsMissing says text (Refused fault)
refused_by says text NotNumber f = f
refused_by says text OutOfRange f = f
refused_by says text (Text t) f = f
refused_by says text (BadArray at) f = f
refused_by says text (BadMap at) f = f
refused_by says text NotNullable f = f
refused_by says text (NotHex at) f = f
refused_by says text (BadState b) f = f
refused_by says text OutOfMemory f = tt

-- the same texts under another name
pub ahead_as : {A B : Type 0} (says : A → List ℕ → Type 0) (tells : B → List ℕ → Type 0) (text : List ℕ) (a : A) (b : B) (behind : List ℕ)
    → ((t : List ℕ) → says a t → tells b t) → IsAhead says text a behind → IsAhead tells text b behind
ahead_as says tells text a b behind f h = record { front = h.front; stands = f h.front h.stands; whole = h.whole; ends = h.ends }
