-- What a set holds once rows were placed in it.
use Rattle.std.proofs.Common.{◌≡◌, ℕ, zero, suc, ◌+◌, ◌-◌, ◌≤◌, true, false, cond, not, nat_eq, List, [], ◌∷◌, length, map, replicate, refl, ap, ap₂, sym, ◌∙◌, subst, arith, Vec, Global}
use Rattle.std.specs.Int.{byte_len}
use Rattle.std.specs.Prelude.{IfOk, OnOk, Result, Ok, Err, ◌/◌, ◌||◌}
use Rattle.std.proofs.lemmas.List.{length_push}
use Rattle.indexmap.specs.IndexSet.{IndexSet, insert_key}
use Rattle.std.specs.declared.hash.RandomState.{RandomState}
use Rattle.agg_terms.specs.Chains as terms
use Rattle.agg_terms.specs.Lists.{Each}
use Rattle.agg_terms.specs.Values.{Value}
use Rattle.agg_meaning.specs.Feeds.{AreValues}
use Rattle.typed_columns.specs.TypedValues.{TypedValues}
use Rattle.value_types.specs.Folds.{ty_of}
use Rattle.value_types.specs.declared.ty.Ty.{Ty}
use Rattle.key_methods.specs.declared.kind.KeyKind.TheVariants.{NoKey, Packed128, Serialized}
use Rattle.key_methods.specs.Figures.{worth}
use Rattle.key_methods.specs.KeyBytes.{AreShort, bytes_by, values_bytes}
use Rattle.key_methods.specs.Kinds.{AreKeyTypes, fit_in, kind_of}
use Rattle.key_methods.specs.Tuples.{IsTuple}
use Rattle.key_columns.specs.Words.{AreKeyColumns, key_tuple, key_tuples}
use Rattle.table_words.specs.KeyLists.{keys_with, places_of}
use Rattle.table_words.specs.Tables.{same_tuple}
use Rattle.table_words.proofs.Fed.{tuples}
use Rattle.table_words.proofs.KeysWith.{insert_key-present}
use Rattle.group_keys.specs.Sets.{Holds, Places}
use Rattle.group_keys.specs.proving.Texts.{same_bytes}
use Rattle.group_keys.specs.declared.key_set.KeySet.TheVariants.{One, Words, Wide, Texts}
use Rattle.group_keys.proofs.Codes.{choice, is_word, no-number, one-word, plain-word, short-numbers, texts-agree, words-agree}
use Rattle.group_keys.proofs.KeyLists.{each-push, good-keys_with, keys_with-coded, places_of-coded}

pub ok_of : {X E : Type 0} (r : Result X E) {P : Type 0} {Q R : X → Type 0} → OnOk r P → IfOk r Q → (P → (x : X) → Q x → R x) → IfOk r R
ok_of (Ok x) p q f = f p x q
ok_of (Err e) p q f = tt

pub on_both : {X E : Type 0} (P Q : Type 0) (r : Result X E) → OnOk r P → OnOk r Q → OnOk r (P × Q)
on_both P Q (Ok x) p q = (p, q)
on_both P Q (Err e) p q = tt

-- ---- the rows are tuples
pub each-both : {X : Type 0} (P Q R : X → Type 0) → ((x : X) → P x → Q x → R x) → (xs : List X) → Each P xs → Each Q xs → Each R xs
each-both P Q R f [] p q = tt
each-both P Q R f (x ∷ xs) p q = (f x p.0 q.0, each-both P Q R f xs p.1 q.1)

rows-upto : (types : List Ty) (columns : List TypedValues) (keys : List ℕ) (from to n : ℕ) → AreKeyColumns types columns keys from to → from + n ≤ to → Each (AreValues (map ty_of types)) (key_tuples columns keys from n)
rows-upto types columns keys from to zero are h = tt
rows-upto types columns keys from to (suc n) are h =
    each-push (AreValues (map ty_of types)) (key_tuples columns keys from n) (key_tuple columns keys (from + n))
    (rows-upto types columns keys from to n are (omega (arith, h))) (are.fit (from + n) (omega arith) (omega (arith, h)))

length-key_tuples : (columns : List TypedValues) (keys : List ℕ) (from n : ℕ) → length (key_tuples columns keys from n) ≡ n
length-key_tuples columns keys from zero = refl
length-key_tuples columns keys from (suc n) = omega (arith, length_push (key_tuples columns keys from n) (key_tuple columns keys (from + n)), length-key_tuples columns keys from n)

module _ (types : List Ty) (columns : List TypedValues) (keys : List ℕ) (from to : ℕ) (order : from ≤ to) (are : AreKeyColumns types columns keys from to) where
  rows-fit : Each (AreValues (map ty_of types)) (key_tuples columns keys from (to - from))
  rows-fit = rows-upto types columns keys from to (to - from) are (omega (arith, order))

  pub text-rows : Each AreShort (key_tuples columns keys from (to - from)) → Each (IsTuple types) (key_tuples columns keys from (to - from))
  text-rows short = each-both (AreValues (map ty_of types)) AreShort (IsTuple types) (λ vs f s. record { fits = f; short = s }) (key_tuples columns keys from (to - from)) rows-fit short

  pub number-rows : is_word (kind_of (map ty_of types)) ≡ true → Each (IsTuple types) (key_tuples columns keys from (to - from))
  number-rows word =
      each-both (AreValues (map ty_of types)) (AreValues (map ty_of types)) (IsTuple types)
      (λ vs f _. record { fits = f; short = short-numbers (map ty_of types) vs (plain-word (map ty_of types) word) f }) (key_tuples columns keys from (to - from)) rows-fit rows-fit

-- ---- no key column
some-key : (t : terms.Ty) (ts : List terms.Ty) → kind_of (t ∷ ts) ≡ NoKey → ⊥
some-key (terms.Whole n) [] e = no-number NoKey (n / 8) (λ e. absurd cc) (λ e. absurd cc) (λ e. absurd cc) (λ e. absurd cc) e
some-key (terms.Signed w) [] e = no-number NoKey (byte_len w) (λ e. absurd cc) (λ e. absurd cc) (λ e. absurd cc) (λ e. absurd cc) e
some-key terms.Str [] e = absurd cc
some-key (terms.Arr t) [] e = absurd cc
some-key (terms.MapTy k t) [] e = absurd cc
some-key (terms.Nullable t) [] e = absurd cc
some-key (terms.StateOf c us) [] e = absurd cc
some-key t (u ∷ ts) e = choice NoKey (fit_in 16 (t ∷ u ∷ ts)) Packed128 Serialized (λ e. absurd cc) (λ e. absurd cc) e

nothing : (types : List Ty) → kind_of (map ty_of types) ≡ NoKey → types ≡ []
nothing [] h = refl
nothing (t ∷ ts) h = absurd (some-key (ty_of t) (map ty_of ts) h)

empty-first : insert_key same_tuple ([] ∷ []) [] ≡ [] ∷ []
empty-first = insert_key-present same_tuple tuples ([] ∷ []) [] (ap (λ b. b || false) (tuples.refl []))

none-keys : (rows : List (List Value)) → Each (AreValues []) rows → keys_with same_tuple ([] ∷ []) rows ≡ [] ∷ []
none-keys [] f = refl
none-keys ([] ∷ rows) f = ap (λ l. keys_with same_tuple l rows) empty-first ∙ none-keys rows f.1
none-keys ((v ∷ vs) ∷ rows) f = absurd f.0

none-places : (rows : List (List Value)) → Each (AreValues []) rows → places_of same_tuple ([] ∷ []) rows ≡ replicate (length rows) 0
none-places [] f = refl
none-places ([] ∷ rows) f =
    ap₂ ◌∷◌ (ap (λ b. cond (not b) 1 0) (tuples.refl []))
    (ap (λ l. places_of same_tuple l rows) empty-first ∙ none-places rows f.1)
none-places ((v ∷ vs) ∷ rows) f = absurd f.0

-- ---- each kind of set
module _ (types : List Ty) (kinds : AreKeyTypes types) (rows : List (List Value)) (all : Each (IsTuple types) rows) (places : List ℕ) where
  words-keys : is_word (kind_of (map ty_of types)) ≡ true → (old words : List ℕ) → words ≡ map (λ vs. worth (values_bytes (map ty_of types) vs)) rows →
      (ks : List (List Value)) → Each (IsTuple types) ks → old ≡ map (λ vs. worth (values_bytes (map ty_of types) vs)) ks →
      keys_with nat_eq old words ≡ map (λ vs. worth (values_bytes (map ty_of types) vs)) (keys_with same_tuple ks rows)
  words-keys word old words are ks good held =
      ap₂ (keys_with nat_eq) held are
      ∙ keys_with-coded (λ vs. worth (values_bytes (map ty_of types) vs)) same_tuple nat_eq (IsTuple types) (words-agree types kinds word) ks rows good all

  words-places : is_word (kind_of (map ty_of types)) ≡ true → (old words : List ℕ) → words ≡ map (λ vs. worth (values_bytes (map ty_of types) vs)) rows →
      (ks : List (List Value)) → Each (IsTuple types) ks → old ≡ map (λ vs. worth (values_bytes (map ty_of types) vs)) ks →
      places_of nat_eq old words ≡ places_of same_tuple ks rows
  words-places word old words are ks good held =
      ap₂ (places_of nat_eq) held are
      ∙ places_of-coded (λ vs. worth (values_bytes (map ty_of types) vs)) same_tuple nat_eq (IsTuple types) (words-agree types kinds word) ks rows good all

  good : (ks : List (List Value)) → Each (IsTuple types) ks → Each (IsTuple types) (keys_with same_tuple ks rows)
  good ks h = good-keys_with (bytes_by (kind_of (map ty_of types)) (map ty_of types)) same_tuple same_bytes (IsTuple types) (texts-agree types kinds) ks rows h all

  pub Words-placed : (old new : IndexSet ℕ RandomState) (words : List ℕ) → words ≡ map (λ vs. worth (values_bytes (map ty_of types) vs)) rows →
      new.keys ≡ keys_with nat_eq old.keys words → places ≡ places_of nat_eq old.keys words → Places types (Words old) (Words new) rows places
  Words-placed old new words are k p = record {
    holds = λ ks h. record {
      tuples = good ks h.tuples;
      keys = (h.keys.0, k ∙ words-keys (one-word (kind_of (map ty_of types)) h.keys.0) old.keys words are ks h.tuples h.keys.1);
    };
    at = λ ks h. p ∙ words-places (one-word (kind_of (map ty_of types)) h.keys.0) old.keys words are ks h.tuples h.keys.1;
  }

  pub Wide-placed : (old new : IndexSet ℕ RandomState) (words : List ℕ) → words ≡ map (λ vs. worth (values_bytes (map ty_of types) vs)) rows →
      new.keys ≡ keys_with nat_eq old.keys words → places ≡ places_of nat_eq old.keys words → Places types (Wide old) (Wide new) rows places
  Wide-placed old new words are k p = record {
    holds = λ ks h. record {
      tuples = good ks h.tuples;
      keys = (h.keys.0, k ∙ words-keys (ap is_word h.keys.0) old.keys words are ks h.tuples h.keys.1);
    };
    at = λ ks h. p ∙ words-places (ap is_word h.keys.0) old.keys words are ks h.tuples h.keys.1;
  }

  pub Texts-placed : (old new : IndexSet (Vec ℕ Global) RandomState) → map (λ k. k.items) new.keys ≡ keys_with same_bytes (map (λ k. k.items) old.keys) (map (bytes_by (kind_of (map ty_of types)) (map ty_of types)) rows) →
      places ≡ places_of same_bytes (map (λ k. k.items) old.keys) (map (bytes_by (kind_of (map ty_of types)) (map ty_of types)) rows) → Places types (Texts old) (Texts new) rows places
  Texts-placed old new k p = record {
    holds = λ ks h. record {
      tuples = good ks h.tuples;
      keys = (
        h.keys.0,
        k ∙ ap (λ l. keys_with same_bytes l (map (bytes_by (kind_of (map ty_of types)) (map ty_of types)) rows)) h.keys.1
            ∙ keys_with-coded (bytes_by (kind_of (map ty_of types)) (map ty_of types)) same_tuple same_bytes (IsTuple types) (texts-agree types kinds) ks rows h.tuples all,
      );
    };
    at = λ ks h.
        p ∙ ap (λ l. places_of same_bytes l (map (bytes_by (kind_of (map ty_of types)) (map ty_of types)) rows)) h.keys.1
        ∙ places_of-coded (bytes_by (kind_of (map ty_of types)) (map ty_of types)) same_tuple same_bytes (IsTuple types) (texts-agree types kinds) ks rows h.tuples all;
  }

pub One-placed : (types : List Ty) (rows : List (List Value)) → Each (AreValues (map ty_of types)) rows → (places : List ℕ) → places ≡ replicate (length rows) 0 → Places types One One rows places
One-placed types rows fit places p = record {
  holds = λ ks h. record { tuples = subst (Each (IsTuple types)) (sym (stays ks h)) h.tuples; keys = (h.keys.0, stays ks h ∙ h.keys.1) };
  at = λ ks h. p ∙ sym (ap (λ l. places_of same_tuple l rows) h.keys.1 ∙ none-places rows (no-values ks h));
}
  where
    no-values : (ks : List (List Value)) → Holds types One ks → Each (AreValues []) rows
    no-values ks h = subst (λ ts. Each (AreValues (map ty_of ts)) rows) (nothing types h.keys.0) fit

    stays : (ks : List (List Value)) → Holds types One ks → keys_with same_tuple ks rows ≡ ks
    stays ks h = ap (λ l. keys_with same_tuple l rows) h.keys.1 ∙ none-keys rows (no-values ks h) ∙ sym h.keys.1

pub One-rows : (types : List Ty) (columns : List TypedValues) (keys : List ℕ) (from to : ℕ) → from ≤ to → AreKeyColumns types columns keys from to → (places : List ℕ) → places ≡ replicate (to - from) 0 →
    Places types One One (key_tuples columns keys from (to - from)) places
One-rows types columns keys from to order are places p =
    One-placed types (key_tuples columns keys from (to - from)) (rows-fit types columns keys from to order are) places
    (p ∙ ap (λ n. replicate n 0) (sym (length-key_tuples columns keys from (to - from))))
