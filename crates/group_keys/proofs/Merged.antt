-- What a set holds once the keys of another, or the key of one tuple, were placed in it.
use Rattle.std.proofs.Common.{◌≡◌, ℕ, true, true≢false, nat_eq, List, [], ◌∷◌, length, map, replicate, ap, sym, ◌∙◌, Vec, Global}
use Rattle.std.specs.List.{position_or_len}
use Rattle.std.specs.declared.hash.RandomState.{RandomState}
use Rattle.indexmap.specs.IndexSet.{IndexSet, insert_key}
use Rattle.agg_terms.specs.Chains as terms
use Rattle.agg_terms.specs.Values.{Value}
use Rattle.agg_meaning.specs.Feeds.{AreValues}
use Rattle.value_types.specs.Folds.{ty_of}
use Rattle.value_types.specs.declared.ty.Ty.{Ty}
use Rattle.key_methods.specs.declared.kind.KeyKind.{KeyKind}
use Rattle.key_methods.specs.declared.kind.KeyKind.TheVariants.{NoKey, Key8, Key16, Key32, Key64, KeyString, Packed128, Serialized}
use Rattle.key_methods.specs.declared.key.Key.{Key}
use Rattle.key_methods.specs.Figures.{worth}
use Rattle.key_methods.specs.KeyBytes.{bytes_by, values_bytes}
use Rattle.key_methods.specs.Kinds.{AreKeyTypes, kind_of}
use Rattle.key_methods.specs.Tuples.{IsTuple}
use Rattle.table_words.specs.KeyLists.{keys_with, places_of}
use Rattle.group_keys.specs.Kinds.{is_bytes, is_one_number}
use Rattle.group_keys.specs.Sets.{HasKeys, Holds, Places, PlacesKeysOf}
use Rattle.group_keys.specs.proving.Packed.{PlacesKey, long_bytes_of, small_word_of, texts_of, wide_word_of, wide_words_of, words_of}
use Rattle.group_keys.specs.proving.Texts.{same_bytes}
use Rattle.group_keys.specs.declared.key_set.KeySet.{KeySet}
use Rattle.group_keys.specs.declared.key_set.KeySet.TheVariants.{One, Words, Wide, Texts}
use Rattle.group_keys.proofs.Codes.{is_word}
use Rattle.group_keys.proofs.Placing.{One-placed, Texts-placed, Wide-placed, Words-placed, each-both}
use Rattle.group_keys.proofs.Unpacked.{long-by, small-by, wide-by}

-- ---- sets of the same types are of one kind
one-no-bytes : (k : KeyKind) → is_one_number k ≡ true → is_bytes k ≡ true → ⊥
one-no-bytes NoKey n b = absurd cc
one-no-bytes Key8 n b = absurd cc
one-no-bytes Key16 n b = absurd cc
one-no-bytes Key32 n b = absurd cc
one-no-bytes Key64 n b = absurd cc
one-no-bytes KeyString n b = absurd cc
one-no-bytes Packed128 n b = absurd cc
one-no-bytes Serialized n b = absurd cc

module _ (kind : KeyKind) (ts : List terms.Ty) where
  one-held : (s : KeySet) (ks : List (List Value)) → kind ≡ NoKey → HasKeys kind ts s ks → length ks ≡ 1
  one-held One ks e h = ap length h.1
  one-held (Words set) ks e h = absurd (true≢false (sym h.0 ∙ ap is_one_number e))
  one-held (Wide set) ks e h = absurd (true≢false (ap is_word (sym h.0 ∙ e)))
  one-held (Texts set) ks e h = absurd (true≢false (sym h.0 ∙ ap is_bytes e))

  words-held : (s : KeySet) (ks : List (List Value)) → is_one_number kind ≡ true → HasKeys kind ts s ks → words_of s ≡ map (λ vs. worth (values_bytes ts vs)) ks
  words-held One ks e h = absurd (true≢false (sym e ∙ ap is_one_number h.0))
  words-held (Words set) ks e h = h.1
  words-held (Wide set) ks e h = absurd (true≢false (sym e ∙ ap is_one_number h.0))
  words-held (Texts set) ks e h = absurd (one-no-bytes kind e h.0)

  wide-held : (s : KeySet) (ks : List (List Value)) → kind ≡ Packed128 → HasKeys kind ts s ks → wide_words_of s ≡ map (λ vs. worth (values_bytes ts vs)) ks
  wide-held One ks e h = absurd (true≢false (ap is_word (sym e ∙ h.0)))
  wide-held (Words set) ks e h = absurd (true≢false (sym h.0 ∙ ap is_one_number e))
  wide-held (Wide set) ks e h = h.1
  wide-held (Texts set) ks e h = absurd (true≢false (sym h.0 ∙ ap is_bytes e))

  texts-held : (s : KeySet) (ks : List (List Value)) → is_bytes kind ≡ true → HasKeys kind ts s ks → map (λ k. k.items) (texts_of s) ≡ map (bytes_by kind ts) ks
  texts-held One ks e h = absurd (true≢false (sym e ∙ ap is_bytes h.0))
  texts-held (Words set) ks e h = absurd (one-no-bytes kind h.0 e)
  texts-held (Wide set) ks e h = absurd (true≢false (sym e ∙ ap is_bytes h.0))
  texts-held (Texts set) ks e h = h.1

-- what is shown from what the old set holds
known : (types : List Ty) (old new : KeySet) (rows : List (List Value)) (places : List ℕ) → ((ks : List (List Value)) → Holds types old ks → Places types old new rows places) →
    Places types old new rows places
known types old new rows places from = record { holds = λ ks h. (from ks h).holds ks h; at = λ ks h. (from ks h).at ks h }

-- ---- the keys of a later set
module _ (types : List Ty) (kinds : AreKeyTypes types) (later : KeySet) (places : List ℕ) where
  pub One-merged : places ≡ replicate 1 0 → PlacesKeysOf types One One later places
  One-merged p = record {
    each = λ ls held. known types One One ls places (λ ks h.
        One-placed types ls (each-both (IsTuple types) (IsTuple types) (AreValues (map ty_of types)) (λ vs t _. t.fits) ls held.tuples held.tuples) places
        (p ∙ ap (λ n. replicate n 0) (sym (one-held (kind_of (map ty_of types)) (map ty_of types) later ls h.keys.0 held.keys))));
  }

  pub Words-merged : (old new : IndexSet ℕ RandomState) (words : List ℕ) → words ≡ words_of later → new.keys ≡ keys_with nat_eq old.keys words → places ≡ places_of nat_eq old.keys words →
      PlacesKeysOf types (Words old) (Words new) later places
  Words-merged old new words are k p = record {
    each = λ ls held. known types (Words old) (Words new) ls places (λ ks h.
        Words-placed types kinds ls held.tuples places old new words (are ∙ words-held (kind_of (map ty_of types)) (map ty_of types) later ls h.keys.0 held.keys) k p);
  }

  pub Wide-merged : (old new : IndexSet ℕ RandomState) (words : List ℕ) → words ≡ wide_words_of later → new.keys ≡ keys_with nat_eq old.keys words → places ≡ places_of nat_eq old.keys words →
      PlacesKeysOf types (Wide old) (Wide new) later places
  Wide-merged old new words are k p = record {
    each = λ ls held. known types (Wide old) (Wide new) ls places (λ ks h.
        Wide-placed types kinds ls held.tuples places old new words (are ∙ wide-held (kind_of (map ty_of types)) (map ty_of types) later ls h.keys.0 held.keys) k p);
  }

  pub Texts-merged : (old new : IndexSet (Vec ℕ Global) RandomState) (texts : List (Vec ℕ Global)) → texts ≡ texts_of later →
      map (λ k. k.items) new.keys ≡ keys_with same_bytes (map (λ k. k.items) old.keys) (map (λ k. k.items) texts) → places ≡ places_of same_bytes (map (λ k. k.items) old.keys) (map (λ k. k.items) texts) →
      PlacesKeysOf types (Texts old) (Texts new) later places
  Texts-merged old new texts are k p = record {
    each = λ ls held. known types (Texts old) (Texts new) ls places (λ ks h.
        let bytes = ap (map (λ k. k.items)) are ∙ texts-held (kind_of (map ty_of types)) (map ty_of types) later ls h.keys.0 held.keys in
        Texts-placed types kinds ls held.tuples places old new (k ∙ ap (keys_with same_bytes (map (λ k. k.items) old.keys)) bytes) (p ∙ ap (places_of same_bytes (map (λ k. k.items) old.keys)) bytes));
  }

-- ---- the key of one tuple
module _ (key : Key) (place : ℕ) where
  pub One-added : place ≡ 0 → PlacesKey One One key place
  One-added p = record {
    each = λ types vs kinds is. One-placed types (vs ∷ []) (is.tuple.fits, tt) (place ∷ []) (ap (λ i. i ∷ []) p);
  }

  pub Words-added : (old new : IndexSet ℕ RandomState) (word : ℕ) → word ≡ small_word_of key → new.keys ≡ insert_key nat_eq old.keys word → place ≡ position_or_len (nat_eq word) old.keys →
      PlacesKey (Words old) (Words new) key place
  Words-added old new word of k p = record {
    each = λ types vs kinds is. known types (Words old) (Words new) (vs ∷ []) (place ∷ []) (λ ks h.
        Words-placed types kinds (vs ∷ []) (is.tuple, tt) (place ∷ []) old new (word ∷ [])
        (ap (λ w. w ∷ []) (of ∙ ap small_word_of (is.key_is ∙ small-by (kind_of (map ty_of types)) (map ty_of types) vs h.keys.0))) k (ap (λ i. i ∷ []) p));
  }

  pub Wide-added : (old new : IndexSet ℕ RandomState) (word : ℕ) → word ≡ wide_word_of key → new.keys ≡ insert_key nat_eq old.keys word → place ≡ position_or_len (nat_eq word) old.keys →
      PlacesKey (Wide old) (Wide new) key place
  Wide-added old new word of k p = record {
    each = λ types vs kinds is. known types (Wide old) (Wide new) (vs ∷ []) (place ∷ []) (λ ks h.
        Wide-placed types kinds (vs ∷ []) (is.tuple, tt) (place ∷ []) old new (word ∷ [])
        (ap (λ w. w ∷ []) (of ∙ ap wide_word_of (is.key_is ∙ wide-by (kind_of (map ty_of types)) (map ty_of types) vs h.keys.0))) k (ap (λ i. i ∷ []) p));
  }

  pub Texts-added : (old new : IndexSet (Vec ℕ Global) RandomState) (text : List ℕ) → text ≡ long_bytes_of key → map (λ k. k.items) new.keys ≡ insert_key same_bytes (map (λ k. k.items) old.keys) text →
      place ≡ position_or_len (same_bytes text) (map (λ k. k.items) old.keys) → PlacesKey (Texts old) (Texts new) key place
  Texts-added old new text of k p = record {
    each = λ types vs kinds is. known types (Texts old) (Texts new) (vs ∷ []) (place ∷ []) (λ ks h.
        let bytes = of ∙ ap long_bytes_of (is.key_is ∙ long-by (kind_of (map ty_of types)) (map ty_of types) vs h.keys.0) in
        Texts-placed types kinds (vs ∷ []) (is.tuple, tt) (place ∷ []) old new
        (k ∙ ap (insert_key same_bytes (map (λ k. k.items) old.keys)) bytes)
        (ap (λ i. i ∷ []) (p ∙ ap (λ b. position_or_len (same_bytes b) (map (λ k. k.items) old.keys)) bytes)));
  }
