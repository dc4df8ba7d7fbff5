-- Keys and places as lists grow, and under a code for keys.
use Rattle.std.proofs.Common.{◌≡◌, ℕ, suc, ◌+◌, ◌<◌, Bool, take, get_or, subst, true, false, List, [], ◌∷◌, ◌++◌, ◌||◌, length, map, cond, not, refl, ap, ap₂, sym, ◌∙◌, true≢false}
use Rattle.std.specs.List.{list_any, position, position_or_len}
use Rattle.std.specs.Prelude.{Some, nat_lt}
use Rattle.std.proofs.lemmas.Option.{cond_some}
use Rattle.group_keys.specs.proving.Texts.{same_bytes}
use Rattle.std.proofs.lemmas.Bool.{cond_both, false_from_ne_true}
use Rattle.std.proofs.lemmas.List.{map_push, take_more}
use Rattle.indexmap.specs.IndexSet.{insert_key}
use Rattle.agg_terms.specs.Lists.{Each}
use Rattle.table_words.specs.KeyLists.{keys_with, places_of}
use Rattle.table_words.proofs.KeysWith.{keys_with-append}

module _ {K : Type 0} (eq : K → K → Bool) where
  -- one key more
  pub keys_with-push : (ks more : List K) (k : K) → keys_with eq ks (more ++ k ∷ []) ≡ insert_key eq (keys_with eq ks more) k
  keys_with-push ks more k = keys_with-append eq ks more (k ∷ [])

  pub places_of-push : (ks more : List K) (k : K) → places_of eq ks (more ++ k ∷ []) ≡ places_of eq ks more ++ position_or_len (eq k) (keys_with eq ks more) ∷ []
  places_of-push ks [] k = refl
  places_of-push ks (x ∷ more) k = ap (λ l. position_or_len (eq x) ks ∷ l) (places_of-push (insert_key eq ks x) more k)

  pub length-places_of : (ks more : List K) → length (places_of eq ks more) ≡ length more
  length-places_of ks [] = refl
  length-places_of ks (k ∷ more) = ap suc (length-places_of (insert_key eq ks k) more)

-- keys placed so far: the keys that there are, and the place of each of those that came
pub record Placed {K : Type 0} (eq : K → K → Bool) (start rows keys : List K) (places : List ℕ) : Type 0 where
  pub keys_are : keys ≡ keys_with eq start rows
  pub places_are : places ≡ places_of eq start rows

pub placed-more : {K : Type 0} (eq : K → K → Bool) (start rows keys new : List K) (k : K) (places more : List ℕ) (p : ℕ) → Placed eq start rows keys places →
    new ≡ insert_key eq keys k → p ≡ position_or_len (eq k) keys → more ≡ places ++ p ∷ [] → Placed eq start (rows ++ k ∷ []) new more
placed-more eq start rows keys new k places more p before n at on = record {
  keys_are = n ∙ ap (λ l. insert_key eq l k) before.keys_are ∙ sym (keys_with-push eq start rows k);
  places_are =
      on ∙ ap₂ (λ l i. l ++ i ∷ []) before.places_are (at ∙ ap (position_or_len (eq k)) before.keys_are)
      ∙ sym (places_of-push eq start rows k);
}

-- the next element of a list
pub placed-next : {K : Type 0} (eq : K → K → Bool) (start all keys new : List K) (i : ℕ) (k : K) (places more : List ℕ) (p : ℕ) → Placed eq start (take i all) keys places →
    i < length all → k ≡ get_or all i k → new ≡ insert_key eq keys k → p ≡ position_or_len (eq k) keys → more ≡ places ++ p ∷ [] → Placed eq start (take (i + 1) all) new more
placed-next eq start all keys new i k places more p before lt is n at on =
    subst (λ l. Placed eq start l new more) (sym (take_more all i k lt ∙ ap (λ x. take i all ++ x ∷ []) (sym is)))
    (placed-more eq start (take i all) keys new k places more p before n at on)

-- the next of a list that is kept in another form
pub placed-next-mapped : {X K : Type 0} (f : X → K) (eq : K → K → Bool) (start : List K) (all : List X) (keys new : List K) (i : ℕ) (x : X) (k : K) (places more : List ℕ) (p : ℕ) →
    Placed eq start (map f (take i all)) keys places → i < length all → x ≡ get_or all i x → k ≡ f x → new ≡ insert_key eq keys k → p ≡ position_or_len (eq k) keys → more ≡ places ++ p ∷ [] →
    Placed eq start (map f (take (i + 1) all)) new more
placed-next-mapped f eq start all keys new i x k places more p before lt is here n at on =
    subst (λ l. Placed eq start l new more)
    (ap (λ y. map f (take i all) ++ y ∷ []) here ∙ sym (map_push f (take i all) x) ∙ ap (map f) (sym (take_more all i x lt ∙ ap (λ y. take i all ++ y ∷ []) (sym is))))
    (placed-more eq start (map f (take i all)) keys new k places more p before n at on)

pub each-push : {X : Type 0} (P : X → Type 0) (xs : List X) (x : X) → Each P xs → P x → Each P (xs ++ x ∷ [])
each-push P [] x h p = (p, tt)
each-push P (y ∷ xs) x h p = (h.0, each-push P xs x h.1 p)

-- keys that stand for others: equal where these are the same
module _ {X Y : Type 0} (f : X → Y) (same : X → X → Bool) (eq : Y → Y → Bool) (Good : X → Type 0) (agree : (x y : X) → Good x → Good y → eq (f x) (f y) ≡ same x y) where
  any-coded : (k : X) (ks : List X) → Good k → Each Good ks → list_any (eq (f k)) (map f ks) ≡ list_any (same k) ks
  any-coded k [] g h = refl
  any-coded k (x ∷ ks) g h = ap₂ (λ a b. a || b) (agree k x g h.0) (any-coded k ks g h.1)

  position-coded : (k : X) (ks : List X) → Good k → Each Good ks → position_or_len (eq (f k)) (map f ks) ≡ position_or_len (same k) ks
  position-coded k [] g h = refl
  position-coded k (x ∷ ks) g h = ap₂ (λ b n. cond (not b) (1 + n) 0) (agree k x g h.0) (position-coded k ks g h.1)

  inserted : (k : X) (ks : List X) → Good k → Each Good ks → insert_key eq (map f ks) (f k) ≡ map f (insert_key same ks k)
  inserted k ks g h = ap (λ b. cond b (map f ks) (map f ks ++ f k ∷ [])) (any-coded k ks g h) ∙ by (list_any (same k) ks)
    where
      by : (b : Bool) → cond b (map f ks) (map f ks ++ f k ∷ []) ≡ map f (cond b ks (ks ++ k ∷ []))
      by true = refl
      by false = sym (map_push f ks k)

  good-inserted : (k : X) (ks : List X) → Good k → Each Good ks → Each Good (insert_key same ks k)
  good-inserted k ks g h = cond_both (list_any (same k) ks) ks (ks ++ k ∷ []) (Each Good) (λ _. h) (λ _. each-push Good ks k h g)

  pub good-keys_with : (ks more : List X) → Each Good ks → Each Good more → Each Good (keys_with same ks more)
  good-keys_with ks [] h m = h
  good-keys_with ks (k ∷ more) h m = good-keys_with (insert_key same ks k) more (good-inserted k ks m.0 h) m.1

  pub keys_with-coded : (ks more : List X) → Each Good ks → Each Good more → keys_with eq (map f ks) (map f more) ≡ map f (keys_with same ks more)
  keys_with-coded ks [] h m = refl
  keys_with-coded ks (k ∷ more) h m =
      ap (λ l. keys_with eq l (map f more)) (inserted k ks m.0 h)
      ∙ keys_with-coded (insert_key same ks k) more (good-inserted k ks m.0 h) m.1

  pub places_of-coded : (ks more : List X) → Each Good ks → Each Good more → places_of eq (map f ks) (map f more) ≡ places_of same ks more
  places_of-coded ks [] h m = refl
  places_of-coded ks (k ∷ more) h m =
      ap₂ ◌∷◌ (position-coded k ks m.0 h)
      (ap (λ l. places_of eq l (map f more)) (inserted k ks m.0 h)
      ∙ places_of-coded (insert_key same ks k) more (good-inserted k ks m.0 h) m.1)

-- a code that different keys don't share
module _ {X Y : Type 0} (f : X → Y) (same : X → X → Bool) (eq : Y → Y → Bool) (Good : X → Type 0)
    (same-is : (x y : X) → same x y ≡ true → x ≡ y) (same-refl : (x : X) → same x x ≡ true)
    (eq-is : (a b : Y) → eq a b ≡ true → a ≡ b) (eq-refl : (a : Y) → eq a a ≡ true)
    (once : (x y : X) → Good x → Good y → f x ≡ f y → x ≡ y) where
  pub codes-agree : (x y : X) → Good x → Good y → eq (f x) (f y) ≡ same x y
  codes-agree x y gx gy = by (same x y) refl
    where
      by : (b : Bool) → same x y ≡ b → eq (f x) (f y) ≡ same x y
      by true e = ap (λ z. eq (f x) (f z)) (sym (same-is x y e)) ∙ eq-refl (f x) ∙ sym e
      by false e =
          false_from_ne_true (eq (f x) (f y)) (λ t. true≢false (sym (same-refl x) ∙ ap (same x) (once x y gx gy (eq-is (f x) (f y) t)) ∙ e))
          ∙ sym e

-- texts in a list, whatever keeps them
module _ {V : Type 0} (bytes_of : V → List ℕ) (text : List ℕ) where
  any-mapped : (ks : List V) → list_any (λ k. same_bytes text (bytes_of k)) ks ≡ list_any (same_bytes text) (map bytes_of ks)
  any-mapped [] = refl
  any-mapped (k ∷ ks) = ap (λ b. same_bytes text (bytes_of k) || b) (any-mapped ks)

  position-mapped : (ks : List V) → position_or_len (λ k. same_bytes text (bytes_of k)) ks ≡ position_or_len (same_bytes text) (map bytes_of ks)
  position-mapped [] = refl
  position-mapped (k ∷ ks) = ap (λ n. cond (not (same_bytes text (bytes_of k))) (1 + n) 0) (position-mapped ks)

  pub text_found : (ks : List V) → list_any (λ k. same_bytes text (bytes_of k)) ks ≡ true → map bytes_of ks ≡ insert_key same_bytes (map bytes_of ks) text
  text_found ks h = ap (λ b. cond b (map bytes_of ks) (map bytes_of ks ++ text ∷ [])) (sym (sym (any-mapped ks) ∙ h))

  pub text_at : (ks : List V) (i : ℕ) → Some i ≡ position (λ k. same_bytes text (bytes_of k)) ks → i ≡ position_or_len (same_bytes text) (map bytes_of ks)
  text_at ks i e =
      sym (cond_some (nat_lt (position_or_len (λ k. same_bytes text (bytes_of k)) ks) (length ks)) (position_or_len (λ k. same_bytes text (bytes_of k)) ks) i (sym e)).1
      ∙ position-mapped ks

  pub text_added : (ks : List V) (v : V) → bytes_of v ≡ text → map bytes_of (insert_key (λ a b. same_bytes (bytes_of a) (bytes_of b)) ks v) ≡ insert_key same_bytes (map bytes_of ks) text
  text_added ks v e =
      by (list_any (λ k. same_bytes (bytes_of v) (bytes_of k)) ks)
      ∙ ap (λ t. cond (list_any (λ k. same_bytes t (bytes_of k)) ks) (map bytes_of ks) (map bytes_of ks ++ t ∷ [])) e
      ∙ ap (λ b. cond b (map bytes_of ks) (map bytes_of ks ++ text ∷ [])) (any-mapped ks)
    where
      by : (b : Bool) → map bytes_of (cond b ks (ks ++ v ∷ [])) ≡ cond b (map bytes_of ks) (map bytes_of ks ++ bytes_of v ∷ [])
      by true = refl
      by false = map_push bytes_of ks v

  pub text_added_at : (ks : List V) (v : V) → bytes_of v ≡ text → position_or_len (λ k. same_bytes (bytes_of v) (bytes_of k)) ks ≡ position_or_len (same_bytes text) (map bytes_of ks)
  text_added_at ks v e = ap (λ t. position_or_len (λ k. same_bytes t (bytes_of k)) ks) e ∙ position-mapped ks
