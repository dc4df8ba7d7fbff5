-- What the text of an array or a map says: its grammar, which is that of the syntax, and beside each text its value or why
-- it is refused (manual: "TabSeparated", "Array", "Map"). Spaces may stand before each token.
use Rattle.std.specs.Prelude.{◌≡◌, ℕ, ℤ, Bool, List, [], ◌∷◌, codes, if◌then◌else◌, ◌⊎◌, Result, Ok, Err}
use Rattle.agg_terms.specs.Chains.{Ty, Whole, Signed, Str, Arr, MapTy, Nullable, StateOf}
use Rattle.agg_terms.specs.Fitting.{fits_bits, fits_width}
use Rattle.agg_terms.specs.Values as family
use Rattle.first_fault.specs.Grammar.{Then}
use Rattle.tsv_text.specs.Escapes.{Piece, pieces_bytes}
use Rattle.field_texts.specs.Syntax.{AllFitInQuotes, IsNumber, IsSpaces, Token, closed_text}
use Rattle.scalar_texts.specs.Answer.{state_answer}
use Rattle.scalar_texts.specs.Numbers.{number_value}
use Rattle.scalar_texts.specs.States.{ReadsStates}
use Rattle.scalar_texts.specs.declared.fault.FieldFault.{FieldFault}
use Rattle.scalar_texts.specs.declared.fault.FieldFault.TheVariants.{OutOfRange}

-- What a text says: a value, or why it is refused.
abbrev pub Said : Type 0
Said = Result family.Value FieldFault

-- The number, if it is in the range.
abbrev pub ranged : (ℤ → Bool) → ℤ → Said
ranged fits z = if fits z then Ok (family.Num z) else Err OutOfRange

-- One more in front of the others.
abbrev pub onto : {A : Type 0} → A → Result (List A) FieldFault → Result (List A) FieldFault
onto x (Ok xs) = Ok (x ∷ xs)
onto x (Err fault) = Err fault

-- All of them, or the first fault from the left.
abbrev pub all_of : {A : Type 0} → List (Result A FieldFault) → Result (List A) FieldFault
all_of [] = Ok []
all_of (Ok x ∷ rest) = onto x (all_of rest)
all_of (Err fault ∷ rest) = Err fault

-- A key and its value, or the first fault: the key's stands before the value's.
abbrev pub entry_of : Said → Said → Result (family.Value × family.Value) FieldFault
entry_of (Ok key) (Ok v) = Ok (key, v)
entry_of (Ok key) (Err fault) = Err fault
entry_of (Err fault) v = Err fault

-- The value that a list of elements or of entries makes. Entries keep their order, and a key may stand more than once.
abbrev pub array_of : Result (List family.Value) FieldFault → Said
array_of (Ok vs) = Ok (family.list_value vs)
array_of (Err fault) = Err fault

abbrev pub map_of : Result (List (family.Value × family.Value)) FieldFault → Said
map_of (Ok es) = Ok (family.map_value es)
map_of (Err fault) = Err fault

-- These bytes in quotes, with their escapes.
abbrev pub Quotes : List ℕ → List ℕ → Type 0
Quotes bytes text = (ps : List Piece) × AllFitInQuotes ps × (text ≡ 39 ∷ closed_text ps) × (bytes ≡ pieces_bytes ps)

-- A number of the range.
abbrev pub NumberSays : (ℤ → Bool) → Said → List ℕ → Type 0
NumberSays fits said text = IsNumber text × (said ≡ ranged fits (number_value text))

-- What the bytes in quotes mean.
abbrev pub QuotedSays : (List ℕ → Said) → Said → List ℕ → Type 0
QuotedSays meaning said text = (bytes : List ℕ) × Quotes bytes text × (said ≡ meaning bytes)

-- Spaces, and then what says this.
abbrev pub Spaced : {A : Type 0} → (A → List ℕ → Type 0) → A → List ℕ → Type 0
Spaced says said = Then IsSpaces (says said)

-- Each of these behind a comma, and then the closing byte.
abbrev pub MoreSay : {A : Type 0} → (A → List ℕ → Type 0) → ℕ → List A → List ℕ → Type 0
MoreSay says closing [] = Token closing
MoreSay says closing (x ∷ xs) = Then (Token 44) (Then (Spaced says x) (MoreSay says closing xs))

-- Behind the opening byte: these, with commas between, and then the closing byte.
abbrev pub OpenedSay : {A : Type 0} → (A → List ℕ → Type 0) → ℕ → List A → List ℕ → Type 0
OpenedSay says closing [] = Token closing
OpenedSay says closing (x ∷ xs) = Then (Spaced says x) (MoreSay says closing xs)

-- Behind the opening byte: all that stands there, or the first fault from the left.
abbrev pub ListSays : {A : Type 0} → (Result A FieldFault → List ℕ → Type 0) → ℕ → Result (List A) FieldFault → List ℕ → Type 0
ListSays {A} says closing said text = (parts : List (Result A FieldFault)) × OpenedSay says closing parts text × (said ≡ all_of parts)

-- A key, a colon and a value.
abbrev pub EntrySays : (Said → List ℕ → Type 0) → (Said → List ℕ → Type 0) → Result (family.Value × family.Value) FieldFault → List ℕ → Type 0
EntrySays key item said text = (k v : Said) × Then (key k) (Then (Token 58) (Spaced item v)) text × (said ≡ entry_of k v)

-- Behind the bracket of an array; behind the brace of a map.
abbrev pub ArraySays : (Said → List ℕ → Type 0) → Said → List ℕ → Type 0
ArraySays item said text = (items : Result (List family.Value) FieldFault) × ListSays item 93 items text × (said ≡ array_of items)

abbrev pub MapSays : (Said → List ℕ → Type 0) → (Said → List ℕ → Type 0) → Said → List ℕ → Type 0
MapSays key item said text = (entries : Result (List (family.Value × family.Value)) FieldFault) × ListSays (EntrySays key item) 125 entries text × (said ≡ map_of entries)

-- The byte, and then such a text.
abbrev pub Behind : ℕ → (List ℕ → Type 0) → List ℕ → Type 0
Behind b of [] = ⊥
Behind b of (c ∷ text) = (c ≡ b) × of text

-- What an element's text says, from its first byte that is no space: a number in the type's range; the bytes in quotes; the
-- state that the bytes in quotes write; NULL where it may be; an array; a map.
abbrev pub ElementSays : ReadsStates → Ty → Said → List ℕ → Type 0
ElementSays reads (Whole n) said text = NumberSays (fits_bits n) said text
ElementSays reads (Signed w) said text = NumberSays (fits_width w) said text
ElementSays reads Str said text = QuotedSays (λ bytes. Ok (family.Bytes bytes)) said text
ElementSays reads (StateOf c ts) said text = QuotedSays (state_answer reads (StateOf c ts)) said text
ElementSays reads (Nullable t) said text = ElementSays reads t said text ⊎ ((text ≡ codes "NULL") × (said ≡ Ok family.Nil))
ElementSays reads (Arr t) said text = Behind 91 (ArraySays (ElementSays reads t) said) text
ElementSays reads (MapTy k t) said text = Behind 123 (MapSays (ElementSays reads k) (ElementSays reads t) said) text

-- What a whole field of an array or a map says: spaces may stand before and behind it.
abbrev pub FieldSays : ReadsStates → Ty → Said → List ℕ → Type 0
FieldSays reads ty said field = Then (Spaced (ElementSays reads ty) said) IsSpaces field
