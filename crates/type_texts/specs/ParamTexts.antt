-- The parameters of a chain as they are printed (manual: "Parametric aggregate functions").
use Rattle.std.specs.Prelude.{ℕ, zero, suc, ◌*◌, ◌+◌, ◌/◌, ◌%◌, ◌==◌, if◌then◌else◌, Bool, true, false, List, [], ◌∷◌, ◌++◌, Some, codes, decimal}
use Rattle.std.specs.Fmt.{signed_decimal}
use Rattle.agg_terms.specs.Chains.{Chain, Leaf}
use Rattle.agg_terms.specs.Chains as terms
use Rattle.tsv_text.specs.Escapes.{escaped}
use Rattle.type_texts.specs.PatternTexts.{pattern_text}

-- The places behind the point of a part of one whole, which is 10^9: at most n digits, and no zero at their end.
abbrev pub places_of : ℕ → ℕ → List ℕ
places_of zero part = []
places_of (suc n) part = if part == 0 then [] else (48 + part * 10 / 1000000000) ∷ places_of n (part * 10 % 1000000000)

abbrev pub fraction_text : ℕ → List ℕ
fraction_text part = if part == 0 then [] else codes "." ++ places_of 9 part

-- A level in billionths as the shortest decimal: `0`, `0.5`, `1`.
abbrev pub level_text : ℕ → List ℕ
level_text n = decimal (n / 1000000000) ++ fraction_text (n % 1000000000)

-- a text in quotes
abbrev pub quoted_text : List ℕ → List ℕ
quoted_text bytes = codes "'" ++ (escaped bytes ++ codes "'")

-- the mode, where it is strict
abbrev pub mode_texts : Bool → List (List ℕ)
mode_texts true = quoted_text (codes "strict_increase") ∷ []
mode_texts false = []

-- The parameters of a function: groupArray has none without a limit, quantileExact always has its level.
abbrev pub leaf_params : Leaf → List (List ℕ)
leaf_params (terms.GroupArray (Some most)) = decimal most ∷ []
leaf_params (terms.QuantileExact level) = level_text level ∷ []
leaf_params (terms.WindowFunnel window strict) = decimal window ∷ mode_texts strict
leaf_params (terms.SequenceMatch pattern) = quoted_text (pattern_text pattern) ∷ []
leaf_params f = []

-- The parameters of a chain: those of its function, and behind them three for each Resample, the outermost last.
abbrev pub params_of : Chain → List (List ℕ)
params_of (terms.Of f) = leaf_params f
params_of (terms.If c) = params_of c
params_of (terms.Array c) = params_of c
params_of (terms.MapOf c) = params_of c
params_of (terms.ForEach c) = params_of c
params_of (terms.OrNull c) = params_of c
params_of (terms.OrDefault c) = params_of c
params_of (terms.Distinct c) = params_of c
params_of (terms.State c) = params_of c
params_of (terms.Merge c) = params_of c
params_of (terms.Resample start end step c) = params_of c ++ (signed_decimal start ∷ signed_decimal end ∷ decimal step ∷ [])
