-- Keys as they are packed, alone and in a set.
use Rattle.std.specs.Prelude.{ℕ, List, [], ◌∷◌, Vec}
use Rattle.std.specs.Global.{Global}
use Rattle.agg_terms.specs.Values.{Value}
use Rattle.value_types.specs.declared.ty.Ty.{Ty}
use Rattle.key_methods.specs.declared.key.Key.{Key}
use Rattle.key_methods.specs.declared.key.Key.TheVariants.{Small, Wide, Long}
use Rattle.key_methods.specs.Kinds.{AreKeyTypes}
use Rattle.key_methods.specs.Tuples.{IsKeyOf}
use Rattle.group_keys.specs.Sets.{Places}
use Rattle.group_keys.specs.declared.key_set.KeySet.{KeySet}
use Rattle.group_keys.specs.declared.key_set.KeySet.TheVariants as set

-- the keys of a set of one kind; none where its keys are of another
abbrev pub words_of : KeySet → List ℕ
words_of (set.Words words) = words.keys
words_of _ = []

abbrev pub wide_words_of : KeySet → List ℕ
wide_words_of (set.Wide words) = words.keys
wide_words_of _ = []

abbrev pub texts_of : KeySet → List (Vec ℕ Global)
texts_of (set.Texts texts) = texts.keys
texts_of _ = []

-- what is packed in a key of one kind; 0 or nothing where it is another key
abbrev pub small_word_of : Key → ℕ
small_word_of (Small word width) = word
small_word_of _ = 0

abbrev pub wide_word_of : Key → ℕ
wide_word_of (Wide word width) = word
wide_word_of _ = 0

abbrev pub long_bytes_of : Key → List ℕ
long_bytes_of (Long bytes) = bytes
long_bytes_of _ = []

-- a set with the tuple of a key behind where it is new, and its place
pub record PlacesKey (old new : KeySet) (key : Key) (place : ℕ) : Type 0 where
  pub each : (types : List Ty) (vs : List Value) → AreKeyTypes types → IsKeyOf types vs key → Places types old new (vs ∷ []) (place ∷ [])
