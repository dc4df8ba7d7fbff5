-- The laws of names and typing.
use Rattle.std.specs.Prelude.{◌≡◌, ◌↔◌, ℕ, true, List, Some, Ok}
use Rattle.agg_terms.specs.declared.words.LeafName.{LeafName}
use Rattle.agg_terms.specs.declared.words.Suffix.{Suffix}
use Rattle.agg_terms.specs.Chains.{Chain, Pattern, Ty, Tys, Of, StateOf, SequenceMatch, tys_list}
use Rattle.agg_terms.specs.Types.{conditions, inward}
use Rattle.agg_meaning.specs.Results.{result, state_type}
use Rattle.agg_meaning.specs.Laws.{IsLegal}
use Rattle.agg_typing.specs.Literals.{Literal}
use Rattle.agg_typing.specs.Names.{Shape, spelled, read_name}
use Rattle.agg_typing.specs.Same.{same_chain}
use Rattle.agg_typing.specs.Parameters.{PatternReader, most_conditions}
use Rattle.agg_typing.specs.Typing.{allowed, resolved_state}
use Rattle.agg_typing.specs.Legal.{is_pattern, is_legal, is_legal_type, are_legal_types, function_of, inner_chain}

-- a spelled name is read back
abbrev pub SpelledIsRead : Type 0
SpelledIsRead =
    (f : LeafName) (suffixes : List Suffix) → read_name (spelled f suffixes) ≡ Ok (record { leaf = f; suffixes = suffixes })

-- a name that is read was spelled
abbrev pub ReadIsSpelled : Type 0
ReadIsSpelled = (name : List ℕ) (shape : Shape) → read_name name ≡ Ok shape → name ≡ spelled shape.leaf shape.suffixes

-- no name spells two chains
abbrev pub SpelledOnce : Type 0
SpelledOnce =
    (f g : LeafName) (suffixes others : List Suffix) → spelled f suffixes ≡ spelled g others → (f ≡ g) × (suffixes ≡ others)

-- two chains are told the same exactly where they are
abbrev pub ChainTestIsExact : Type 0
ChainTestIsExact = (c d : Chain) → (same_chain c d ≡ true) ↔ (c ≡ d)

-- a reader of patterns gives patterns
abbrev pub GivesPatterns : PatternReader → Type 0
GivesPatterns reads = (bytes : List ℕ) (n : ℕ) (p : Pattern) → reads bytes n ≡ Ok p → is_pattern n p ≡ true

-- a chain with types is legal, and so are the types
abbrev pub IsLegalCall : Chain → List Ty → Type 0
IsLegalCall c ts = (is_legal c ts ≡ true) × (are_legal_types ts ≡ true)

-- a call that no rule refuses has a legal chain
abbrev pub AllowedIsLegal : Type 0
AllowedIsLegal =
    (reads : PatternReader) → GivesPatterns reads → (name : List ℕ) (params : List Literal) (args : List Ty) (c : Chain) →
    allowed reads name params args ≡ Ok c → is_legal c args ≡ true

-- a state type that no rule refuses, over legal types, is a legal type
abbrev pub AllowedStateIsLegal : Type 0
AllowedStateIsLegal =
    (reads : PatternReader) → GivesPatterns reads → (name : List ℕ) (params : List Literal) (args : List Ty) (t : Ty) →
    are_legal_types args ≡ true → resolved_state reads name params args ≡ Ok t → is_legal_type t ≡ true

-- a legal chain over legal types is as the laws of states need it
abbrev pub LegalIsLawful : Type 0
LegalIsLawful = (c : Chain) (ts : List Ty) → IsLegalCall c ts → IsLegal c ts

-- what stands inside a legal chain is legal over the types that reach it
abbrev pub InnerIsLegal : Type 0
InnerIsLegal = (c inner : Chain) (ts : List Ty) → inner_chain c ≡ Some inner → IsLegalCall c ts → IsLegalCall inner (inward c ts)

-- the result of a legal chain over legal types has a legal type
abbrev pub ResultIsLegal : Type 0
ResultIsLegal = (c : Chain) (ts : List Ty) → IsLegalCall c ts → is_legal_type (result c ts) ≡ true

-- the states of a legal chain over legal types have a legal type
abbrev pub StateTypeIsLegal : Type 0
StateTypeIsLegal = (c : Chain) (ts : List Ty) → IsLegalCall c ts → is_legal_type (state_type c ts) ≡ true

-- a legal state type has a legal chain over legal types, and is that chain's state type
abbrev pub StateTypeIsOfLegal : Type 0
StateTypeIsOfLegal =
    (c : Chain) (ts : Tys) → is_legal_type (StateOf c ts) ≡ true →
    IsLegalCall c (tys_list ts) × (state_type c (tys_list ts) ≡ StateOf c ts)

-- the pattern of a legal chain is a pattern over 32 conditions
abbrev pub PatternsArePatterns : Type 0
PatternsArePatterns =
    (c : Chain) (ts : List Ty) (p : Pattern) → is_legal c ts ≡ true → function_of c ≡ SequenceMatch p →
    is_pattern most_conditions p ≡ true

-- the pattern of a legal sequenceMatch is one over as many conditions as it has
abbrev pub PatternMeetsConditions : Type 0
PatternMeetsConditions =
    (p : Pattern) (ts : List Ty) → is_legal (Of (SequenceMatch p)) ts ≡ true → is_pattern (conditions ts) p ≡ true
