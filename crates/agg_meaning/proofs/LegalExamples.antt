-- Legal chains, feeds and state trees: what the laws ask for is there, for each function and suffix; and what is live.
use Rattle.std.proofs.Common.{◌≡◌, ℕ, pos, true, false, [], ◌∷◌, Some, None, inl, inr, refl, arith}
use Rattle.std.proofs.lemmas.Int.{ints}
use mir.Syntax.{w8}
use Rattle.agg_terms.specs.Values.{Empty, Nil, Num, Value, Word, list_value, slots_tree}
use Rattle.agg_terms.specs.Chains.{ArgMin, Arr, Array, Count, Distinct, ForEach, GroupArray, GroupBit, If, MapOf, MapTy, Merge, Min, Nullable, Of, Or, OrDefault, OrNull, Pattern, QuantileExact, Resample, Retention, SequenceMatch, Signed, State, StateOf, Str, Sum, UniqExact, Whole, WindowFunnel, tys}
use Rattle.agg_terms.specs.Trees.{IsTree}
use Rattle.agg_meaning.specs.Feeds.{IsFeed, live}
use Rattle.agg_meaning.specs.Laws.{IsLegal}

abbrev n : ℕ → Value
n k = Num (pos k)

-- functions over their types
count_legal : IsLegal (Of Count) (StateOf (Of Count) (tys []) ∷ [])
count_legal = (tt, tt)

sum_legal : IsLegal (Of Sum) (Nullable (Signed w8) ∷ [])
sum_legal = (tt, (Nullable (Signed w8), refl, tt))

min_legal : IsLegal (Of Min) (Nullable Str ∷ [])
min_legal = (tt, (Nullable Str, refl, tt))

arg_min_legal : IsLegal (Of ArgMin) (Str ∷ Whole 8 ∷ [])
arg_min_legal = (tt, (Str, Whole 8, refl, tt, tt))

group_array_legal : IsLegal (Of (GroupArray (Some 1))) (Arr (Nullable Str) ∷ [])
group_array_legal = (tt, (Arr (Nullable Str), refl, tt))

uniq_legal : IsLegal (Of UniqExact) (Whole 8 ∷ MapTy Str Str ∷ [])
uniq_legal = (tt, (tt, ((tt, tt), tt)))

quantile_legal : IsLegal (Of (QuantileExact 1)) (Whole 8 ∷ [])
quantile_legal = (tt, (Whole 8, refl, tt))

funnel_legal : IsLegal (Of (WindowFunnel 10 true)) (Nullable (Whole 64) ∷ Whole 8 ∷ Nullable (Whole 8) ∷ [])
funnel_legal = (tt, (tt, (refl, (refl, tt))))

match_legal : (p : Pattern) → IsLegal (Of (SequenceMatch p)) (Whole 32 ∷ Whole 8 ∷ [])
match_legal p = (tt, (tt, (refl, tt)))

retention_legal : IsLegal (Of Retention) (Whole 8 ∷ Whole 8 ∷ [])
retention_legal = (tt, (refl, (refl, tt)))

bit_legal : IsLegal (Of (GroupBit Or)) (Signed w8 ∷ [])
bit_legal = (tt, (Signed w8, refl, tt))

-- every suffix at once, outermost first
chain_legal : IsLegal (OrDefault (State (ForEach (MapOf (Distinct (OrNull (Of Sum))))))) (Arr (MapTy Str (Whole 8)) ∷ [])
chain_legal = (tt, ((tt, tt), (Whole 8, refl, tt)))

resample_legal : IsLegal (Resample (pos 0) (pos 10) 3 (If (Array (Of Sum)))) (Arr (Whole 8) ∷ Whole 8 ∷ Signed w8 ∷ [])
resample_legal = ((omega (arith, ints), omega arith, tt, omega (arith, ints), omega (arith, ints)), (Whole 8, refl, tt))

merge_legal : IsLegal (Merge (If (Of Count))) (StateOf (If (Of Count)) (tys (Whole 8 ∷ [])) ∷ [])
merge_legal = (tt, tt)

-- a sum's argument and a time may be wider than their type
wide_argument : IsFeed (Of Sum) (Whole 8 ∷ []) (n 40000 ∷ [])
wide_argument = ((40000, refl, omega arith), tt)

hole : IsFeed (ForEach (Of Count)) (Arr (Whole 8) ∷ []) (None ∷ Some (n 7 ∷ []) ∷ [])
hole = (tt, (((7, refl, omega arith), tt), tt))

-- a state tree
slots : IsTree (ForEach (Of Count)) (Arr (Whole 8) ∷ []) (slots_tree (Empty ∷ Word (pos 2) ∷ []))
slots = (Empty ∷ Word (pos 2) ∷ [], refl, (inl refl, (inr (2, refl, omega arith), tt)))

-- live feeds
live_row : live (Of Sum) (n 1 ∷ Nil ∷ []) ≡ false
live_row = refl

live_array : live (Of Count) (list_value (Nil ∷ []) ∷ []) ≡ true
live_array = refl

live_condition : live (If (Of Count)) ([], None) ≡ false
live_condition = refl

live_unmet : live (If (Of Count)) ([], Some 0) ≡ true
live_unmet = refl

live_key : live (Resample (pos 0) (pos 2) 1 (Of Count)) ([], None) ≡ false
live_key = refl

live_distinct : live (Distinct (Of Count)) (Nil ∷ []) ≡ false
live_distinct = refl
