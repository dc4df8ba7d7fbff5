-- What a set of keys holds: the keys of some tuples, in the order of their first appearance.
use Rattle.std.specs.Prelude.{◌≡◌, ℕ, cond, true, List, [], ◌∷◌, length, map}
use Rattle.agg_terms.specs.Chains.{Ty}
use Rattle.agg_terms.specs.Lists.{Each, is_empty}
use Rattle.agg_terms.specs.Values.{Value}
use Rattle.value_types.specs.Folds.{ty_of}
use Rattle.value_types.specs.declared.ty.Ty as rust
use Rattle.key_methods.specs.declared.kind.KeyKind.{KeyKind}
use Rattle.key_methods.specs.declared.kind.KeyKind.TheVariants.{NoKey, Packed128}
use Rattle.key_methods.specs.Figures.{worth}
use Rattle.key_methods.specs.KeyBytes.{bytes_by, values_bytes}
use Rattle.key_methods.specs.Kinds.{kind_of}
use Rattle.key_methods.specs.Tuples.{IsTuple}
use Rattle.table_words.specs.KeyLists.{keys_with, places_of}
use Rattle.table_words.specs.Tables.{same_tuple}
use Rattle.group_keys.specs.Kinds.{is_bytes, is_one_number}
use Rattle.group_keys.specs.declared.key_set.KeySet.{KeySet}
use Rattle.group_keys.specs.declared.key_set.KeySet.TheVariants.{One, Words, Wide, Texts}

-- a set whose kind is the one for these types, and which has the keys of these tuples
abbrev pub HasKeys : KeyKind → List Ty → KeySet → List (List Value) → Type 0
HasKeys kind ts One ks = (kind ≡ NoKey) × (ks ≡ [] ∷ [])
HasKeys kind ts (Words set) ks = (is_one_number kind ≡ true) × (set.keys ≡ map (λ vs. worth (values_bytes ts vs)) ks)
HasKeys kind ts (Wide set) ks = (kind ≡ Packed128) × (set.keys ≡ map (λ vs. worth (values_bytes ts vs)) ks)
HasKeys kind ts (Texts set) ks = (is_bytes kind ≡ true) × (map (λ k. k.items) set.keys ≡ map (bytes_by kind ts) ks)

-- A set holds these tuples of values of key columns of these types.
pub record Holds (types : List rust.Ty) (s : KeySet) (ks : List (List Value)) : Type 0 where
  pub tuples : Each (IsTuple types) ks
  pub keys : HasKeys (kind_of (map ty_of types)) (map ty_of types) s ks

-- a set of tuples of values of key columns of these types
abbrev pub IsSetOf : List rust.Ty → KeySet → Type 0
IsSetOf types s = (ks : List (List Value)) × Holds types s ks

-- what a set holds at first: nothing, and where there is no key column the empty tuple
abbrev pub first_keys : List rust.Ty → List (List Value)
first_keys types = cond (is_empty types) ([] ∷ []) []

-- how many keys there are
abbrev pub count_in : KeySet → ℕ
count_in One = 1
count_in (Words set) = length set.keys
count_in (Wide set) = length set.keys
count_in (Texts set) = length set.keys

-- A set with these tuples behind, the new ones in the order of their first appearance, and the place of each.
pub record Places (types : List rust.Ty) (old new : KeySet) (rows : List (List Value)) (places : List ℕ) : Type 0 where
  pub holds : (ks : List (List Value)) → Holds types old ks → Holds types new (keys_with same_tuple ks rows)
  pub at : (ks : List (List Value)) → Holds types old ks → places ≡ places_of same_tuple ks rows

-- The keys of a later set behind those of another, and the place of each.
pub record PlacesKeysOf (types : List rust.Ty) (old new later : KeySet) (places : List ℕ) : Type 0 where
  pub each : (ls : List (List Value)) → Holds types later ls → Places types old new ls places
