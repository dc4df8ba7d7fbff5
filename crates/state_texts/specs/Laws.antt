-- The laws of trees and their texts.
use Rattle.std.specs.Prelude.{◌^◌, ◌<◌, List, length, map}
use Rattle.agg_terms.specs.Chains.{Chain, Ty}
use Rattle.agg_terms.specs.Trees.{IsTree}
use Rattle.agg_terms.specs.Values.{Tree}
use Rattle.agg_typing.specs.Promises.{IsLegalCall}
use Rattle.value_types.specs.declared.chain.Chain.{Chain as ChainCode}
use Rattle.value_types.specs.declared.ty.Ty.{Ty as TyCode}
use Rattle.value_types.specs.Folds.{chain_of, ty_of}
use Rattle.state_texts.specs.declared.version.Version.{Version}
use Rattle.state_texts.specs.Spelled.{HasText, IsSpelledChain}
use Rattle.state_texts.specs.Texts.{text}

-- the trees that have a text are state trees
abbrev pub TextsAreOfTrees : Type 0
TextsAreOfTrees = (v : Version) (c : Chain) (ts : List Ty) (t : Tree) → HasText v c ts t → IsTree c ts t

-- and each state tree has one, where its text has fewer than 2^64 bytes: no item takes no byte
abbrev pub TreesHaveTexts : Type 0
TreesHaveTexts =
    (v : Version) (c : Chain) (ts : List Ty) (t : Tree) → IsSpelledChain c ts → IsTree c ts t → length (text v c ts t) < 2 ^ 64 → HasText v c ts t

-- a legal chain over types of the program has what texts need
abbrev pub LegalIsSpelled : Type 0
LegalIsSpelled = (chain : ChainCode) (types : List TyCode) → IsLegalCall (chain_of chain) (map ty_of types) → IsSpelledChain (chain_of chain) (map ty_of types)
