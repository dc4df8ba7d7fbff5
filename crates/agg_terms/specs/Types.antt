-- The types at each link of a chain (manual: "Aggregate function combinators").
use Rattle.std.specs.Prelude.{ℕ, ◌+◌, ◌-◌, ◌/◌, ℤ, ◌-ℤ◌, nat_abs, Bool, true, false, cond, List, [], ◌∷◌, length, map, get_or}
use Rattle.agg_terms.specs.Chains.{Arr, Array, Chain, ForEach, If, MapOf, MapTy, Merge, Nullable, Resample, Signed, StateOf, Str, Ty, Whole, tys_list}
use Rattle.agg_terms.specs.Lists.{front, rest_of}

-- how many intervals Resample has: end - start divided by step, rounded up (manual: "-Resample")
abbrev pub intervals : ℤ → ℤ → ℕ → ℕ
intervals start end step = (nat_abs (end -ℤ start) + (step - 1)) / step

-- the type without Nullable
abbrev pub bare : Ty → Ty
bare (Nullable t) = bare t
bare t = t

-- whether NULL is a value of the type
abbrev pub may_be_null : Ty → Bool
may_be_null (Nullable t) = true
may_be_null _ = false

-- a type of numbers, itself without Nullable
abbrev pub is_number_type : Ty → Bool
is_number_type (Whole n) = true
is_number_type (Signed w) = true
is_number_type _ = false

-- one argument, a number or a Nullable one
abbrev pub is_one_number : List Ty → Bool
is_one_number (t ∷ []) = is_number_type (bare t)
is_one_number _ = false

-- whether its numbers are signed, taken without Nullable
abbrev pub is_signed : Ty → Bool
is_signed (Signed n) = true
is_signed (Nullable t) = is_signed t
is_signed _ = false

-- the type of the first argument; String stands in where there is none
abbrev pub first_type : List Ty → Ty
first_type ts = get_or ts 0 Str

-- whether some argument may be NULL
abbrev pub any_null : List Ty → Bool
any_null [] = false
any_null (t ∷ ts) = cond (may_be_null t) true (any_null ts)

-- how many conditions there are: the arguments after the time
abbrev pub conditions : {X : Type 0} → List X → ℕ
conditions ts = length (rest_of ts)

-- the type of an array's elements; another type as it is
abbrev pub element : Ty → Ty
element (Arr t) = t
element t = t

-- the type of a map's values, and that of its keys
abbrev pub map_part : Ty → Ty
map_part (MapTy k t) = t
map_part t = t

abbrev pub key_type : Ty → Ty
key_type (MapTy k t) = k
key_type t = t

-- the types of the arguments that a state was made over
abbrev pub state_args : Ty → List Ty
state_args (StateOf c ts) = tys_list ts
state_args t = []

-- The types at the next link inward. If and Resample split the last argument off, Array and ForEach open the elements, Map the values;
-- Merge has those of the state that it takes.
abbrev pub inward : Chain → List Ty → List Ty
inward (If c) ts = front ts
inward (Resample start end step c) ts = front ts
inward (Array c) ts = map element ts
inward (ForEach c) ts = map element ts
inward (MapOf c) ts = map map_part ts
inward (Merge c) ts = state_args (first_type ts)
inward _ ts = ts
