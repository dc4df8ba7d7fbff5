-- The names of chains (manual: "Aggregate function combinators").
use Rattle.std.specs.Prelude.{ℕ, List, [], ◌∷◌, ◌++◌}
use Rattle.agg_terms.specs.declared.words.LeafName.{LeafName}
use Rattle.agg_terms.specs.declared.words.Suffix.{Suffix}
use Rattle.agg_terms.specs.Chains.{Chain, Leaf, And, Or, Xor}
use Rattle.agg_terms.specs.Chains as terms
use Rattle.agg_typing.specs.Names.{spelled}
use Rattle.agg_typing.specs.Legal.{function_of}

-- The word for a function, without its parameters.
abbrev pub leaf_name : Leaf → LeafName
leaf_name terms.Count = LeafName.Count
leaf_name terms.Sum = LeafName.Sum
leaf_name terms.Min = LeafName.Min
leaf_name terms.Max = LeafName.Max
leaf_name terms.ArgMin = LeafName.ArgMin
leaf_name terms.ArgMax = LeafName.ArgMax
leaf_name (terms.GroupArray most) = LeafName.GroupArray
leaf_name terms.UniqExact = LeafName.UniqExact
leaf_name (terms.QuantileExact level) = LeafName.QuantileExact
leaf_name (terms.WindowFunnel window strict) = LeafName.WindowFunnel
leaf_name (terms.SequenceMatch pattern) = LeafName.SequenceMatch
leaf_name terms.Retention = LeafName.Retention
leaf_name (terms.GroupBit And) = LeafName.BitAnd
leaf_name (terms.GroupBit Or) = LeafName.BitOr
leaf_name (terms.GroupBit Xor) = LeafName.BitXor

-- The suffixes of a chain, from the inside out.
abbrev pub written_suffixes : Chain → List Suffix
written_suffixes (terms.Of f) = []
written_suffixes (terms.If c) = written_suffixes c ++ Suffix.If ∷ []
written_suffixes (terms.Array c) = written_suffixes c ++ Suffix.Array ∷ []
written_suffixes (terms.MapOf c) = written_suffixes c ++ Suffix.MapOf ∷ []
written_suffixes (terms.ForEach c) = written_suffixes c ++ Suffix.ForEach ∷ []
written_suffixes (terms.OrNull c) = written_suffixes c ++ Suffix.OrNull ∷ []
written_suffixes (terms.OrDefault c) = written_suffixes c ++ Suffix.OrDefault ∷ []
written_suffixes (terms.Distinct c) = written_suffixes c ++ Suffix.Distinct ∷ []
written_suffixes (terms.Resample start end step c) = written_suffixes c ++ Suffix.Resample ∷ []
written_suffixes (terms.State c) = written_suffixes c ++ Suffix.State ∷ []
written_suffixes (terms.Merge c) = written_suffixes c ++ Suffix.Merge ∷ []

-- The name of a chain: its function's text and those of its suffixes.
abbrev pub chain_name : Chain → List ℕ
chain_name c = spelled (leaf_name (function_of c)) (written_suffixes c)
