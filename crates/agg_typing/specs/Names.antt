-- The names of chains: a function's text, followed by the texts of its suffixes from the inside out
-- (manual: "Aggregate function combinators").
use Rattle.std.specs.Prelude.{ℕ, zero, suc, cond, nat_eq, List, [], ◌∷◌, ◌++◌, length, drop, Option, Some, None, Result, Ok, Err, codes}
use Rattle.std.specs.List.{starts_with}
use Rattle.agg_terms.specs.declared.words.LeafName.{LeafName}
use Rattle.agg_terms.specs.declared.words.LeafName.TheVariants.{Count, Sum, Min, Max, ArgMin, ArgMax, BitAnd, BitOr, BitXor, GroupArray, UniqExact, QuantileExact, WindowFunnel, SequenceMatch, Retention}
use Rattle.agg_terms.specs.declared.words.Suffix.{Suffix}
use Rattle.agg_terms.specs.declared.words.Suffix.TheVariants.{If, Array, MapOf, ForEach, OrNull, OrDefault, Distinct, Resample, State, Merge}

-- a function's text in a name
abbrev pub function_text : LeafName → List ℕ
function_text Count = codes "count"
function_text Sum = codes "sum"
function_text Min = codes "min"
function_text Max = codes "max"
function_text ArgMin = codes "argMin"
function_text ArgMax = codes "argMax"
function_text BitAnd = codes "groupBitAnd"
function_text BitOr = codes "groupBitOr"
function_text BitXor = codes "groupBitXor"
function_text GroupArray = codes "groupArray"
function_text UniqExact = codes "uniqExact"
function_text QuantileExact = codes "quantileExact"
function_text WindowFunnel = codes "windowFunnel"
function_text SequenceMatch = codes "sequenceMatch"
function_text Retention = codes "retention"

-- a suffix's text in a name
abbrev pub suffix_text : Suffix → List ℕ
suffix_text If = codes "If"
suffix_text Array = codes "Array"
suffix_text MapOf = codes "Map"
suffix_text ForEach = codes "ForEach"
suffix_text OrNull = codes "OrNull"
suffix_text OrDefault = codes "OrDefault"
suffix_text Distinct = codes "Distinct"
suffix_text Resample = codes "Resample"
suffix_text State = codes "State"
suffix_text Merge = codes "Merge"

-- the texts of suffixes, one after another
abbrev pub suffixes_text : List Suffix → List ℕ
suffixes_text [] = []
suffixes_text (s ∷ suffixes) = suffix_text s ++ suffixes_text suffixes

-- the name of a function under suffixes, these from the inside out
abbrev pub spelled : LeafName → List Suffix → List ℕ
spelled f suffixes = function_text f ++ suffixes_text suffixes

-- every function
abbrev pub all_functions : List LeafName
all_functions =
    Count
    ∷ Sum
    ∷ Min
    ∷ Max
    ∷ ArgMin
    ∷ ArgMax
    ∷ BitAnd
    ∷ BitOr
    ∷ BitXor
    ∷ GroupArray
    ∷ UniqExact
    ∷ QuantileExact
    ∷ WindowFunnel
    ∷ SequenceMatch
    ∷ Retention
    ∷ []

-- every suffix
abbrev pub all_suffixes : List Suffix
all_suffixes = If ∷ Array ∷ MapOf ∷ ForEach ∷ OrNull ∷ OrDefault ∷ Distinct ∷ Resample ∷ State ∷ Merge ∷ []

-- the first of some words whose text begins a text, and what follows it there
abbrev pub word_of : {X : Type 0} → (X → List ℕ) → List X → List ℕ → Option (X × List ℕ)
word_of text_of [] text = None
word_of text_of (x ∷ xs) text =
    cond (starts_with nat_eq text (text_of x)) (Some (x, drop (length (text_of x)) text)) (word_of text_of xs text)

-- a suffix that was read, and more of them behind it
abbrev pub and_more : List ℕ → (List ℕ → List Suffix × List ℕ) → Option (Suffix × List ℕ) → List Suffix × List ℕ
and_more text more None = ([], text)
and_more text more (Some e) = (e.0 ∷ (more e.1).0, (more e.1).1)

-- the suffixes that can be read from the left, at most n, and what is left where no more can be
abbrev pub read_suffixes : ℕ → List ℕ → List Suffix × List ℕ
read_suffixes zero text = ([], text)
read_suffixes (suc n) text = and_more text (read_suffixes n) (word_of suffix_text all_suffixes text)

-- a function and its suffixes, from the inside out
pub record Shape : Type 0 where
  pub leaf : LeafName
  pub suffixes : List Suffix

-- a shape where nothing is left, otherwise the place from which no suffix can be read
abbrev pub ended : LeafName → List Suffix × List ℕ → Result Shape ℕ
ended f (suffixes, []) = Ok (record { leaf = f; suffixes = suffixes })
ended f (suffixes, b ∷ bs) = Err (length (spelled f suffixes))

-- what follows the function that was read; where none can be, the place is 0
abbrev pub read_after : ℕ → Option (LeafName × List ℕ) → Result Shape ℕ
read_after n None = Err 0
read_after n (Some e) = ended e.0 (read_suffixes n e.1)

-- a name, read from the left: one function, then suffixes as far as they go, otherwise the place from which nothing
-- can be read. Each suffix has a byte or more, so the name's length bounds their number.
abbrev pub read_name : List ℕ → Result Shape ℕ
read_name name = read_after (length name) (word_of function_text all_functions name)
