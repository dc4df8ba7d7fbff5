-- Keys with their places, and these put in order.
use Rattle.std.specs.Prelude.{◌≡◌, ◌<◌, ◌+◌, ◌-◌, ◌^◌, ℕ, Bool, true, false, cond, nat_lt, List, [], ◌∷◌, get_or, length, map}
use Rattle.std.specs.List.Sorted.{IsPermutation, IsSorted}
use Rattle.std.specs.Ordering.{nat_cmp}
use Rattle.std.specs.declared.cmp.Ordering.{Ordering}
use mir.Val.{hbits}
use Rattle.agg_terms.specs.Chains as terms
use Rattle.agg_terms.specs.Order.{compare_rows}
use Rattle.agg_terms.specs.Values.{Value}
use Rattle.value_types.specs.Folds.{value_of}
use Rattle.value_types.specs.declared.ty.Ty.{Ty}
use Rattle.value_types.specs.declared.value.Value as rust
use Rattle.group_keys.specs.Tuples.{IsTupleAt}
use Rattle.group_keys.specs.declared.key_set.KeySet.{KeySet}
use Rattle.group_keys.specs.declared.placed.Placed.{Placed}

abbrev pub place_of : {K : Type 0} → Placed K → ℕ
place_of e = e.place

-- as the keys stand to one another
abbrev pub by_key : {K : Type 0} → (K → K → Ordering) → Placed K → Placed K → Ordering
by_key cmp a b = cmp a.key b.key

-- these are the places of keys, put in order by a comparison
pub record ArePut {E : Type 0} (cmp : E → E → Ordering) (place : E → ℕ) (AreKeys : List E → Type 0) (places : List ℕ) : Type 0 where
  pub made : List E
  pub put : List E
  pub keys : AreKeys made
  pub same : IsPermutation made put
  pub ascending : IsSorted cmp put
  pub places_are : places ≡ map place put

-- ---- keys that are numbers
abbrev pub number_cmp : Placed ℕ → Placed ℕ → Ordering
number_cmp = by_key nat_cmp

-- the number at a place
pub record IsNumberAt {N : Type 0} (numbers : List N) (place : ℕ) (e : Placed N) : Type 0 where
  pub place_is : e.place ≡ place
  pub key_is : e.key ≡ get_or numbers place e.key

-- the numbers at the first n places, in their order
pub record AreNumbers {N : Type 0} (numbers : List N) (n : ℕ) (es : List (Placed N)) : Type 0 where
  pub many : length es ≡ n
  pub each : (i : ℕ) (d : Placed N) → i < n → IsNumberAt numbers i (get_or es i d)

-- how many numbers of a signed type are negative; their words are from here on
abbrev pub half_of : terms.Ty → ℕ
half_of (terms.Signed w) = 2 ^ hbits w
half_of _ = 0

abbrev pub first_half : List terms.Ty → ℕ
first_half [] = 0
first_half (t ∷ ts) = half_of t

-- a word that stands among others as its number does
abbrev pub turned : ℕ → ℕ → ℕ
turned half word = cond (nat_lt word half) (word + half) (word - half)

abbrev pub is_unsigned : terms.Ty → Bool
is_unsigned (terms.Whole n) = true
is_unsigned _ = false

-- ---- keys as their tuples
abbrev pub PlacedTuple : Type 0
PlacedTuple = Placed (List rust.Value)

abbrev pub tuple_of : PlacedTuple → List Value
tuple_of e = map value_of e.key

abbrev pub tuple_cmp : PlacedTuple → PlacedTuple → Ordering
tuple_cmp a b = compare_rows (tuple_of a) (tuple_of b)

pub record IsPlacedTuple (types : List Ty) (s : KeySet) (place : ℕ) (e : PlacedTuple) : Type 0 where
  pub place_is : e.place ≡ place
  pub tuple_is : IsTupleAt types s place (tuple_of e)

pub record ArePlacedTuples (types : List Ty) (s : KeySet) (n : ℕ) (es : List PlacedTuple) : Type 0 where
  pub many : length es ≡ n
  pub each : (i : ℕ) (d : PlacedTuple) → i < n → IsPlacedTuple types s i (get_or es i d)
