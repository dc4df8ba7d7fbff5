-- What a suffix hands inward of each feed, as a list: nothing, one feed, or many.
use Rattle.std.specs.Prelude.{ℕ, zero, suc, ◌*◌, max, ℤ, pos, ◌+ℤ◌, int_le, int_lt, nat_eq, Bool, cond, ◌&&◌, List, [], ◌∷◌, length, Option, Some, None, option_to_list}

-- -If: the feed where its condition isn't 0. Manual: "Aggregate function combinators", -If.
abbrev pub when_met : {X : Type 0} → X × Option ℕ → List X
when_met (x, None) = []
when_met (x, Some n) = cond (nat_eq n 0) [] (x ∷ [])

-- -ForEach: what stands at a place; nothing at a hole or past the end. Manual: the same, -ForEach.
abbrev pub at_place : {X : Type 0} → ℕ → List (Option X) → List X
at_place i [] = []
at_place zero (h ∷ hs) = option_to_list h
at_place (suc i) (h ∷ hs) = at_place i hs

-- the greatest length, which is how many places there are
abbrev pub width : {X : Type 0} → List (List X) → ℕ
width [] = 0
width (f ∷ fs) = max (length f) (width fs)

-- a feed that has f at place i alone, behind holes
abbrev pub after_holes : {X : Type 0} → ℕ → X → List (Option X)
after_holes zero f = Some f ∷ []
after_holes (suc i) f = None ∷ after_holes i f

-- a feed of n holes, which makes room for n places
abbrev pub holes : {X : Type 0} → ℕ → List (Option X)
holes zero = []
holes (suc n) = None ∷ holes n

-- Interval j holds the keys from start + j * step on, below start + (j + 1) * step and below end.
abbrev pub is_inside : ℤ → ℤ → ℕ → ℕ → ℤ → Bool
is_inside start end step j k =
    int_le (start +ℤ pos (j * step)) k && (int_lt k (start +ℤ pos (suc j * step)) && int_lt k end)

-- -Resample: the feed where its key is in interval j. Manual: the same, -Resample.
abbrev pub in_interval : {X : Type 0} → ℤ → ℤ → ℕ → ℕ → X × Option ℤ → List X
in_interval start end step j (x, None) = []
in_interval start end step j (x, Some k) = cond (is_inside start end step j k) (x ∷ []) []
