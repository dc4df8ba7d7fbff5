-- The functions and argument types that the states over events serve.
use Rattle.std.specs.Prelude.{◌≡◌, ◌+◌, ◌≤◌, nat_eq, nat_le, Bool, false, ◌&&◌, List, length}
use Rattle.agg_terms.specs.Chains.{Leaf, Pattern, SequenceMatch, Ty, WindowFunnel}

-- windowFunnel over a time and 1 to 32 conditions
abbrev pub is_funnel_served : Leaf → List Ty → Bool
is_funnel_served (WindowFunnel window strict) ts = nat_le 2 (length ts) && nat_le (length ts) 33
is_funnel_served _ ts = false

-- The same as what the code may rest on: the function alone,
abbrev pub IsFunnel : Leaf → Type 0
IsFunnel (WindowFunnel window strict) = Unit {0}
IsFunnel _ = ⊥

-- and with its arguments
abbrev pub IsFunnelServed : Leaf → List Ty → Type 0
IsFunnelServed f ts = IsFunnel f × (2 ≤ length ts) × (length ts ≤ 33)

-- a pattern of 1 to 64 items, with a link between each two
abbrev pub is_searched : Pattern → Bool
is_searched p = nat_le 1 (length p.items) && (nat_le (length p.items) 64 && nat_eq (length p.links + 1) (length p.items))

-- sequenceMatch with such a pattern over a time and 1 to 32 conditions
abbrev pub is_match_served : Leaf → List Ty → Bool
is_match_served (SequenceMatch pattern) ts = (nat_le 2 (length ts) && nat_le (length ts) 33) && is_searched pattern
is_match_served _ ts = false

-- The same as what the code may rest on
abbrev pub IsMatch : Leaf → Type 0
IsMatch (SequenceMatch pattern) =
    (1 ≤ length pattern.items) × (length pattern.items ≤ 64) × (length pattern.links + 1 ≡ length pattern.items)
IsMatch _ = ⊥

abbrev pub IsMatchServed : Leaf → List Ty → Type 0
IsMatchServed f ts = IsMatch f × (2 ≤ length ts) × (length ts ≤ 33)
