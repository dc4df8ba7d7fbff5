-- What the values of slots and entries are, and whether some of them was fed.
use Rattle.std.specs.Prelude.{◌≡◌, ◌<◌, ℕ, Bool, false, List, map, length, get_or}
use Rattle.agg_terms.specs.Chains.{Chain, Ty}
use Rattle.agg_terms.specs.Lists.{some}
use Rattle.agg_terms.specs.Values.{Empty, Nil, Tree, Value}
use Rattle.agg_meaning.specs.States.{IsFedChain, MeansChain}

-- a value for each slot, what the slot means
pub record MeanSlots (c : Chain) (ts : List Ty) (tt : List Tree) (xs : List Value) : Type 0 where
  pub long : length xs ≡ length tt
  pub at : (i : ℕ) → i < length tt → MeansChain c ts (get_or tt i Empty) (get_or xs i Nil)

-- whether some slot was fed, told slot by slot
pub record AreFed (c : Chain) (ts : List Ty) (tt : List Tree) (b : Bool) : Type 0 where
  pub told : List Bool
  pub long : length told ≡ length tt
  pub at : (i : ℕ) → i < length tt → IsFedChain c ts (get_or tt i Empty) (get_or told i false)
  pub whole : b ≡ some (λ x. x) told

-- the same at keys
pub record MeanKeys (c : Chain) (ts : List Ty) (es : List (Value × Tree)) (xs : List (Value × Value)) : Type 0 where
  pub keys : map (λ x. x.0) xs ≡ map (λ e. e.0) es
  pub values : MeanSlots c ts (map (λ e. e.1) es) (map (λ x. x.1) xs)

pub record AreKeysFed (c : Chain) (ts : List Ty) (es : List (Value × Tree)) (b : Bool) : Type 0 where
  pub values : AreFed c ts (map (λ e. e.1) es) b
