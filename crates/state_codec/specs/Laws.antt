-- The laws of state texts and of their reading.
use Rattle.std.specs.Prelude.{◌≡◌, ℕ, ◌<◌, ◌≤◌, List, ◌∷◌, ◌++◌, length, take, Ok, Err}
use Rattle.scalar_texts.specs.declared.fault.StateFault.{StateFault}
use Rattle.scalar_texts.specs.declared.fault.StateFault.TheVariants.{Short, BadTag, NotCanonical, Long}
use Rattle.agg_terms.specs.Chains.{Chain, Ty}
use Rattle.agg_terms.specs.Lists.{Each}
use Rattle.agg_terms.specs.Values.{Tree}
use Rattle.state_texts.specs.declared.version.Version.{Version}
use Rattle.state_texts.specs.Spelled.{HasText, IsSpelledChain}
use Rattle.state_texts.specs.Texts.{text}
use Rattle.state_texts.specs.Versions.{version_byte, written}
use Rattle.state_codec.specs.Reading.{reading}

abbrev pub AreBytes : List ℕ → Type 0
AreBytes bytes = Each (λ b. b < 256) bytes

-- what is read is spelled so, in one of the versions
abbrev pub ReadsOnlyTexts : Type 0
ReadsOnlyTexts =
    (c : Chain) (ts : List Ty) (bytes : List ℕ) (t : Tree) → IsSpelledChain c ts → AreBytes bytes → reading c ts bytes ≡ Ok t →
    (v : Version) × (bytes ≡ text v c ts t) × HasText v c ts t

-- what is spelled is read
abbrev pub ReadsEachText : Type 0
ReadsEachText = (v : Version) (c : Chain) (ts : List Ty) (t : Tree) → IsSpelledChain c ts → HasText v c ts t → reading c ts (text v c ts t) ≡ Ok t

-- different trees have different texts, and none begins another
abbrev pub NoneBeginsAnother : Type 0
NoneBeginsAnother =
    (v w : Version) (c : Chain) (ts : List Ty) (t u : Tree) (x y : List ℕ) → IsSpelledChain c ts → HasText v c ts t → HasText w c ts u →
    text v c ts t ++ x ≡ text w c ts u ++ y → (v ≡ w) × (t ≡ u) × (x ≡ y)

-- what was read from the version that is written is written back the same
abbrev pub WritesBackTheSame : Type 0
WritesBackTheSame =
    (c : Chain) (ts : List Ty) (bytes : List ℕ) (t : Tree) → IsSpelledChain c ts → AreBytes bytes →
    reading c ts (version_byte written ∷ bytes) ≡ Ok t → text written c ts t ≡ version_byte written ∷ bytes

-- the bytes end too early wherever a text is cut
abbrev pub FrontsAreShort : Type 0
FrontsAreShort =
    (v : Version) (c : Chain) (ts : List Ty) (t : Tree) (front more : List ℕ) (b : ℕ) → IsSpelledChain c ts → HasText v c ts t →
    text v c ts t ≡ front ++ b ∷ more → reading c ts front ≡ Err Short

-- Long gives the length of the text in front of the bytes that follow, and comes exactly behind a text
abbrev pub LongIsBehindText : Type 0
LongIsBehindText =
    (c : Chain) (ts : List Ty) (bytes : List ℕ) (at : ℕ) → IsSpelledChain c ts → AreBytes bytes → reading c ts bytes ≡ Err (Long at) →
    (v : Version) × (t : Tree) × (b : ℕ) × (more : List ℕ) × HasText v c ts t × (bytes ≡ text v c ts t ++ b ∷ more) × (at ≡ length (text v c ts t))

abbrev pub BehindTextIsLong : Type 0
BehindTextIsLong =
    (v : Version) (c : Chain) (ts : List Ty) (t : Tree) (b : ℕ) (more : List ℕ) → IsSpelledChain c ts → HasText v c ts t →
    reading c ts (text v c ts t ++ b ∷ more) ≡ Err (Long (length (text v c ts t)))

-- a fault of the bytes that are there, which no further byte changes
abbrev pub IsFinal : StateFault → Type 0
IsFinal Short = ⊥
IsFinal (Long at) = ⊥
IsFinal f = Unit {0}

abbrev pub FaultsStay : Type 0
FaultsStay =
    (c : Chain) (ts : List Ty) (bytes more : List ℕ) (f : StateFault) → IsFinal f → reading c ts bytes ≡ Err f → reading c ts (bytes ++ more) ≡ Err f

-- a fault lies in the bytes, behind the version
abbrev pub Points : ℕ → StateFault → Type 0
Points whole (BadTag at) = (1 ≤ at) × (at < whole)
Points whole (NotCanonical at) = (1 ≤ at) × (at ≤ whole)
Points whole (Long at) = (1 ≤ at) × (at ≤ whole)
Points whole f = Unit {0}

abbrev pub FaultsPoint : Type 0
FaultsPoint = (c : Chain) (ts : List Ty) (bytes : List ℕ) (f : StateFault) → reading c ts bytes ≡ Err f → Points (length bytes) f

-- up to a byte that should be 00 or 01, the bytes end too early: no fault lies further left
abbrev pub BadTagsAreFirst : Type 0
BadTagsAreFirst =
    (c : Chain) (ts : List Ty) (bytes : List ℕ) (at : ℕ) → IsSpelledChain c ts → AreBytes bytes →
    reading c ts bytes ≡ Err (BadTag at) → reading c ts (take at bytes) ≡ Err Short
