-- The states of a type in fields: those of a legal state type, by the text of its chain.
use Rattle.std.specs.Prelude.{◌≡◌, ℕ, true, List, Result, Err, []}
use Rattle.agg_terms.specs.Chains.{StateOf, Ty, tys_list}
use Rattle.agg_terms.specs.Values.{Tree}
use Rattle.agg_typing.specs.Legal.{is_legal_type}
use Rattle.scalar_texts.specs.States.{AllStates}
use Rattle.scalar_texts.specs.declared.fault.StateFault.{StateFault}
use Rattle.scalar_texts.specs.declared.fault.StateFault.TheVariants.{Short}
use Rattle.state_texts.specs.Texts.{text}
use Rattle.state_texts.specs.Versions.{written}
use Rattle.state_codec.specs.Reading.{reading}

-- the state types that are read and written
abbrev pub IsLegalState : Ty → Type 0
IsLegalState t = is_legal_type t ≡ true

-- what bytes stand for in a state type
abbrev pub state_reading : Ty → List ℕ → Result Tree StateFault
state_reading (StateOf c ts) bytes = reading c (tys_list ts) bytes
state_reading t bytes = Err Short

-- the bytes of a tree of a state type
abbrev pub state_text : Ty → Tree → List ℕ
state_text (StateOf c ts) t = text written c (tys_list ts) t
state_text ty t = []

-- each state type inside a legal type is read and written
abbrev pub LegalTypesHaveStates : Type 0
LegalTypesHaveStates = (t : Ty) → is_legal_type t ≡ true → AllStates IsLegalState t
