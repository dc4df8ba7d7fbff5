-- The words that patterns are written in, as they are read and as they are printed (manual: "sequenceMatch", pattern syntax).
use Rattle.std.specs.Prelude.{ℕ, List, ◌++◌, codes, decimal}
use Rattle.agg_terms.specs.Chains.{Op, Below, BelowOrAt, At, AtOrAbove, Above, PatItem, Cond, Any}

-- a comparison
abbrev pub op_text : Op → List ℕ
op_text Below = codes "<"
op_text BelowOrAt = codes "<="
op_text At = codes "=="
op_text AtOrAbove = codes ">="
op_text Above = codes ">"

-- an item: `(?2)`, or `.` for any event
abbrev pub item_text : PatItem → List ℕ
item_text (Cond n) = codes "(?" ++ (decimal n ++ codes ")")
item_text Any = codes "."

-- a bound on the time, as `(?t<=10)`
abbrev pub bound_text : Op → ℕ → List ℕ
bound_text op n = codes "(?t" ++ (op_text op ++ (decimal n ++ codes ")"))
