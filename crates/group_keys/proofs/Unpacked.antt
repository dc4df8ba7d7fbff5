-- The key at a place of a set is that of the tuple there.
use Rattle.std.proofs.Common.{◌≡◌, ℕ, zero, suc, ◌<◌, ◌≤◌, ◌&&◌, true, nat_le, List, [], ◌∷◌, length, map, get_or, refl, ap, ap₂, sym, ◌∙◌, subst, arith, Vec, Global}
use Rattle.std.specs.List.{list_all}
use Rattle.std.proofs.lemmas.Bool.{and_parts}
use Rattle.std.proofs.lemmas.List.{get_or-map, length-map}
use Rattle.indexmap.specs.IndexSet.{IndexSet}
use Rattle.std.specs.declared.hash.RandomState.{RandomState}
use Rattle.agg_terms.specs.Chains as terms
use Rattle.agg_terms.specs.Lists.{Each}
use Rattle.agg_terms.specs.Values.{Value}
use Rattle.value_types.specs.Folds.{ty_of}
use Rattle.value_types.specs.declared.ty.Ty.{Ty}
use Rattle.key_methods.specs.declared.kind.KeyKind.{KeyKind}
use Rattle.key_methods.specs.declared.kind.KeyKind.TheVariants.{NoKey, Key8, Key16, Key32, Key64, KeyString, Packed128, Serialized}
use Rattle.key_methods.specs.declared.key.Key.{Key}
use Rattle.key_methods.specs.declared.key.Key.TheVariants.{Small, Wide, Long}
use Rattle.key_methods.specs.Figures.{worth}
use Rattle.key_methods.specs.KeyBytes.{bytes_by, values_bytes}
use Rattle.key_methods.specs.Keys.{key_by}
use Rattle.key_methods.specs.Kinds.{fit_in, is_plain_number, kind_of, total_width}
use Rattle.key_methods.specs.Tuples.{IsKeyOf, IsTuple, Undoes}
use Rattle.group_keys.specs.Kinds.{is_bytes, is_one_number}
use Rattle.group_keys.specs.Sets.{Holds, IsSetOf, count_in}
use Rattle.group_keys.specs.Tuples.{IsTupleAt}
use Rattle.group_keys.specs.declared.key_set.KeySet.{KeySet}
use Rattle.group_keys.specs.declared.key_set.KeySet.TheVariants as set
use Rattle.group_keys.proofs.Codes.{is_word, length-plain, one-word, plain-word}

pub each-at : {X : Type 0} (P : X → Type 0) (xs : List X) (i : ℕ) (d : X) → i < length xs → Each P xs → P (get_or xs i d)
each-at P [] i d h e = absurd (omega (arith, h))
each-at P (x ∷ xs) zero d h e = e.0
each-at P (x ∷ xs) (suc i) d h e = each-at P xs i d (omega (arith, h)) e.1

pub small-by : (k : KeyKind) (ts : List terms.Ty) (vs : List Value) → is_one_number k ≡ true → key_by k ts vs ≡ Small (worth (values_bytes ts vs)) (length (values_bytes ts vs))
small-by NoKey ts vs h = absurd cc
small-by Key8 ts vs h = refl
small-by Key16 ts vs h = refl
small-by Key32 ts vs h = refl
small-by Key64 ts vs h = refl
small-by KeyString ts vs h = absurd cc
small-by Packed128 ts vs h = absurd cc
small-by Serialized ts vs h = absurd cc

pub wide-by : (k : KeyKind) (ts : List terms.Ty) (vs : List Value) → k ≡ Packed128 → key_by k ts vs ≡ Wide (worth (values_bytes ts vs)) (length (values_bytes ts vs))
wide-by k ts vs h = ap (λ j. key_by j ts vs) h

pub long-by : (k : KeyKind) (ts : List terms.Ty) (vs : List Value) → is_bytes k ≡ true → key_by k ts vs ≡ Long (bytes_by k ts vs)
long-by NoKey ts vs h = absurd cc
long-by Key8 ts vs h = absurd cc
long-by Key16 ts vs h = absurd cc
long-by Key32 ts vs h = absurd cc
long-by Key64 ts vs h = absurd cc
long-by KeyString ts vs h = refl
long-by Packed128 ts vs h = absurd cc
long-by Serialized ts vs h = refl

module _ (types : List Ty) (place : ℕ) where
  -- a place of coded keys is one of the tuples, and has the code of the tuple there
  coded-at : {X : Type 0} (f : List Value → X) (keys : List X) (ks : List (List Value)) (x d : X) → keys ≡ map f ks → place < length keys → x ≡ get_or keys place d →
      (place < length ks) × (x ≡ f (get_or ks place []))
  coded-at f keys ks x d held h is =
      let here : place < length ks = subst (λ n. place < n) (ap length held ∙ length-map ks f) h in
      (here, is ∙ ap (λ l. get_or l place d) held ∙ get_or-map f ks place [] d here)

  word-is : (width : ℕ) (vs : List Value) → is_word (kind_of (map ty_of types)) ≡ true → IsTuple types vs → width ≡ total_width (map ty_of types) → width ≡ length (values_bytes (map ty_of types) vs)
  word-is width vs w t e = e ∙ sym (length-plain (map ty_of types) vs (plain-word (map ty_of types) w) t.fits)

  -- a key that is the one of the tuple at the place
  abbrev pub HasKeyAt : KeySet → Key → Type 0
  HasKeyAt s key = (ks : List (List Value)) → Holds types s ks → IsKeyOf types (get_or ks place []) key

  word-key : (keys : IndexSet ℕ RandomState) (word width : ℕ) → place < length keys.keys → word ≡ get_or keys.keys place 0 → width ≡ total_width (map ty_of types) →
      HasKeyAt (set.Words keys) (Small word width)
  word-key keys word width lt is e ks h =
      let at = coded-at (λ vs. worth (values_bytes (map ty_of types) vs)) keys.keys ks word 0 h.keys.1 lt is in
      let tuple = each-at (IsTuple types) ks place [] at.0 h.tuples in
      record {
        tuple = tuple;
        key_is =
            ap₂ Small at.1 (word-is width (get_or ks place []) (one-word (kind_of (map ty_of types)) h.keys.0) tuple e)
            ∙ sym (small-by (kind_of (map ty_of types)) (map ty_of types) (get_or ks place []) h.keys.0);
      }

  wide-key : (keys : IndexSet ℕ RandomState) (word width : ℕ) → place < length keys.keys → word ≡ get_or keys.keys place 0 → width ≡ total_width (map ty_of types) →
      HasKeyAt (set.Wide keys) (Wide word width)
  wide-key keys word width lt is e ks h =
      let at = coded-at (λ vs. worth (values_bytes (map ty_of types) vs)) keys.keys ks word 0 h.keys.1 lt is in
      let tuple = each-at (IsTuple types) ks place [] at.0 h.tuples in
      record {
        tuple = tuple;
        key_is =
            ap₂ Wide at.1 (word-is width (get_or ks place []) (ap is_word h.keys.0) tuple e)
            ∙ sym (wide-by (kind_of (map ty_of types)) (map ty_of types) (get_or ks place []) h.keys.0);
      }

  text-key : (keys : IndexSet (Vec ℕ Global) RandomState) (text : Vec ℕ Global) (bytes : List ℕ) → place < length keys.keys → text ≡ get_or keys.keys place text → bytes ≡ text.items →
      HasKeyAt (set.Texts keys) (Long bytes)
  text-key keys text bytes lt is e ks h =
      let mapped : place < length (map (λ k. k.items) keys.keys) = subst (λ n. place < n) (sym (length-map keys.keys (λ k. k.items))) lt in
      let read : bytes ≡ get_or (map (λ k. k.items) keys.keys) place bytes = e ∙ ap (λ k. k.items) is ∙ sym (get_or-map (λ k. k.items) keys.keys place text bytes lt) in
      let at = coded-at (bytes_by (kind_of (map ty_of types)) (map ty_of types)) (map (λ k. k.items) keys.keys) ks bytes bytes h.keys.1 mapped read in
      record {
        tuple = each-at (IsTuple types) ks place [] at.0 h.tuples;
        key_is = ap Long at.1 ∙ sym (long-by (kind_of (map ty_of types)) (map ty_of types) (get_or ks place []) h.keys.0);
      }

  module _ (s : KeySet) (lt : place < count_in s) where
    pub small-there : (keys : IndexSet ℕ RandomState) (words : List ℕ) (width : ℕ) → s ≡ set.Words keys → words ≡ keys.keys → width ≡ total_width (map ty_of types) →
        HasKeyAt s (Small (get_or words place 0) width)
    small-there keys words width is all e =
        subst (λ s. HasKeyAt s (Small (get_or words place 0) width)) (sym is)
        (word-key keys (get_or words place 0) width (subst (λ s. place < count_in s) is lt) (ap (λ l. get_or l place 0) all) e)

    pub wide-there : (keys : IndexSet ℕ RandomState) (words : List ℕ) (width : ℕ) → s ≡ set.Wide keys → words ≡ keys.keys → width ≡ total_width (map ty_of types) →
        HasKeyAt s (Wide (get_or words place 0) width)
    wide-there keys words width is all e =
        subst (λ s. HasKeyAt s (Wide (get_or words place 0) width)) (sym is)
        (wide-key keys (get_or words place 0) width (subst (λ s. place < count_in s) is lt) (ap (λ l. get_or l place 0) all) e)

    pub text-there : (keys : IndexSet (Vec ℕ Global) RandomState) (texts : List (Vec ℕ Global)) (text : Vec ℕ Global) (bytes : List ℕ) → s ≡ set.Texts keys → texts ≡ keys.keys →
        text ≡ get_or texts place text → bytes ≡ text.items → HasKeyAt s (Long bytes)
    text-there keys texts text bytes is all at e =
        subst (λ s. HasKeyAt s (Long bytes)) (sym is)
        (text-key keys text bytes (subst (λ s. place < count_in s) is lt) (at ∙ ap (λ l. get_or l place text) all) e)

  pub key-there : (s : KeySet) (key : Key) → IsSetOf types s → HasKeyAt s key → (vs : List Value) × IsKeyOf types vs key
  key-there s key set has = (get_or set.0 place [], has set.0 set.1)

  pub tuple-there : (s : KeySet) (key : Key) (values : List Value) → HasKeyAt s key → Undoes types key values → IsTupleAt types s place values
  tuple-there s key values has undone = record { at = λ ks h. undone (get_or ks place []) (has ks h) }

-- ---- the bytes of numbers side by side
pub widths-fit : (ts : List Ty) → fit_in 16 (map ty_of ts) ≡ true → total_width (map ty_of ts) ≤ 16
widths-fit ts h = let m = (and_parts (list_all is_plain_number (map ty_of ts)) (nat_le (total_width (map ty_of ts)) 16) h).1 in grind arith

-- numbers that fit in 8 bytes fit in 16
pub fits-more : (ts : List terms.Ty) → fit_in 8 ts ≡ true → fit_in 16 ts ≡ true
fits-more ts h =
    let parts = and_parts (list_all is_plain_number ts) (nat_le (total_width ts) 8) h in
    let room : nat_le (total_width ts) 16 ≡ true = let m = parts.1 in grind arith in
    ap₂ (λ a b. a && b) parts.0 room
