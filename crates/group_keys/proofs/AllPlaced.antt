-- The keys of a set with their places, put in order, are its tuples in order.
use Rattle.std.proofs.Common.{◌≡◌, ℕ, ◌<◌, true, pos, List, [], length, map, get_or, refl, ap, sym, subst, ◌∙◌}
use Rattle.std.specs.List.{list_all}
use Rattle.std.specs.Ordering.{nat_cmp}
use Rattle.std.proofs.lemmas.List.{get_or-map, length-map}
use Rattle.std.proofs.lemmas.Simd.{map-map}
use Rattle.indexmap.specs.IndexSet.{IndexSet}
use Rattle.std.specs.declared.hash.RandomState.{RandomState}
use Rattle.agg_terms.specs.Order.{compare_rows}
use Rattle.agg_terms.specs.Values.{Value}
use Rattle.value_types.specs.Folds.{ty_of}
use Rattle.value_types.specs.declared.ty.Ty.{Ty}
use Rattle.key_methods.specs.Figures.{worth}
use Rattle.key_methods.specs.KeyBytes.{values_bytes}
use Rattle.key_methods.specs.Kinds.{AreKeyTypes, kind_of}
use Rattle.key_methods.specs.Tuples.{IsTuple}
use Rattle.key_methods.proofs.Columns.{are_columns}
use Rattle.set_leaves.specs.Tuples.{number_tuple}
use Rattle.set_leaves.specs.proving.Orders.{number_ranks}
use Rattle.group_keys.specs.Kinds.{is_one_number}
use Rattle.group_keys.specs.Orders.{AreInOrder}
use Rattle.group_keys.specs.Sets.{Holds, count_in}
use Rattle.group_keys.specs.declared.key_set.KeySet.{KeySet}
use Rattle.group_keys.specs.declared.key_set.KeySet.TheVariants.{One, Words, Wide, Texts}
use Rattle.group_keys.specs.declared.placed.Placed.{Placed}
use Rattle.group_keys.specs.proving.Placed.{AreNumbers, ArePlacedTuples, ArePut, first_half, is_unsigned, number_cmp, place_of, tuple_cmp, tuple_of, turned}
use Rattle.group_keys.proofs.CodedOrder.{decoded, distinct-coded}
use Rattle.group_keys.proofs.Ordered.{AreAll, ascend, within}
use Rattle.group_keys.proofs.PackedOrder.{number-rank, packed-rank}
use Rattle.group_keys.proofs.Turned.{turned-rank}

-- ---- keys that are numbers
abbrev number_of : Placed ℕ → List Value
number_of e = number_tuple (pos e.key)

number-ranks : (a b : Placed ℕ) → number_cmp a b ≡ compare_rows (number_of a) (number_of b)
number-ranks a b = number-rank a.key b.key ∙ number_ranks (pos a.key) (pos b.key)

-- numbers that stand to one another as the tuples whose codes they are
module _ (types : List Ty) (s : KeySet) (code : List Value → ℕ) (agree : (x y : List Value) → IsTuple types x → IsTuple types y → nat_cmp (code x) (code y) ≡ compare_rows x y)
    (numbers places : List ℕ) (held : (ks : List (List Value)) → Holds types s ks → numbers ≡ map code ks) (p : ArePut number_cmp place_of (AreNumbers numbers (length numbers)) places) where
  coded : List Value → List Value
  coded vs = number_tuple (pos (code vs))

  module _ (ks : List (List Value)) (h : Holds types s ks) where
    many : length numbers ≡ length ks
    many = ap length (held ks h) ∙ length-map ks code

    all-numbers : AreAll number_cmp place_of number_of number-ranks (map coded ks) p.made
    unfolding coded
    all-numbers = record {
      many = p.keys.many ∙ many ∙ sym (length-map ks coded);
      each = λ i d l.
          let here : i < length ks = subst (λ n. i < n) (length-map ks coded) l in
          let e = p.keys.each i d (subst (λ n. i < n) (sym many) here) in record {
            place_is = e.place_is;
            tuple_is =
                ap (λ n. number_tuple (pos n)) (e.key_is ∙ ap (λ l. get_or l i (get_or p.made i d).key) (held ks h) ∙ get_or-map code ks i [] (get_or p.made i d).key here)
                ∙ sym (get_or-map coded ks i [] [] here);
          };
    }

    below : (n : ℕ) → n < length (map coded ks) → n < length ks
    below n l = subst (λ m. n < m) (length-map ks coded) l

  coded-agree : (x y : List Value) → IsTuple types x → IsTuple types y → compare_rows (coded x) (coded y) ≡ compare_rows x y
  unfolding coded
  coded-agree x y a b = sym (number-rank (code x) (code y) ∙ number_ranks (pos (code x)) (pos (code y))) ∙ agree x y a b

  pub numbers-in-order : AreInOrder types s places
  numbers-in-order = record {
    ascend = λ ks h apart.
        decoded (IsTuple types) coded coded-agree ks h.tuples places (λ i d l. below ks h (get_or places i d) (within number_cmp place_of number_of number-ranks p (map coded ks) (all-numbers ks h) i d l))
        (ascend number_cmp place_of number_of number-ranks p (map coded ks) (all-numbers ks h) (distinct-coded (IsTuple types) coded coded-agree ks h.tuples apart));
    within = λ ks h i d l. below ks h (get_or places i d) (within number_cmp place_of number_of number-ranks p (map coded ks) (all-numbers ks h) i d l);
  }

module _ (types : List Ty) (columns : AreKeyTypes types) (places : List ℕ) where
  pub words-in-order : (s : KeySet) (set : IndexSet ℕ RandomState) (half : ℕ) (words : List ℕ) → s ≡ Words set → half ≡ first_half (map ty_of types) → words ≡ set.keys → is_one_number (kind_of (map ty_of types)) ≡ true →
      ArePut number_cmp place_of (AreNumbers (map (turned half) words) (length words)) places → AreInOrder types s places
  words-in-order s set half words is half-is read kind p =
      let ts = map ty_of types in
      let code : List Value → ℕ = λ vs. worth (values_bytes ts vs) in
      numbers-in-order types s (λ vs. turned (first_half ts) (code vs)) (λ x y a b. turned-rank ts x y kind (are_columns types columns) a.fits b.fits)
      (map (turned half) words) places
      (λ ks h. ap (λ n. map (turned n) words) half-is ∙ ap (map (turned (first_half ts))) (read ∙ (subst (λ z. Holds types z ks) is h).keys.1) ∙ map-map (turned (first_half ts)) code ks)
      (subst (λ n. ArePut number_cmp place_of (AreNumbers (map (turned half) words) n) places) (sym (length-map words (turned half))) p)

  pub wide-in-order : (s : KeySet) (set : IndexSet ℕ RandomState) (words : List ℕ) → s ≡ Wide set → words ≡ set.keys → list_all is_unsigned (map ty_of types) ≡ true →
      ArePut number_cmp place_of (AreNumbers words (length words)) places → AreInOrder types s places
  wide-in-order s set words is read unsigned p =
      let ts = map ty_of types in
      numbers-in-order types s (λ vs. worth (values_bytes ts vs)) (λ x y a b. packed-rank ts x y unsigned (are_columns types columns) a.fits b.fits)
      words places (λ ks h. read ∙ (subst (λ z. Holds types z ks) is h).keys.1) p

-- ---- keys as their tuples
-- how many tuples a set holds
count-held : (types : List Ty) (s : KeySet) (ks : List (List Value)) → Holds types s ks → count_in s ≡ length ks
count-held types One ks h = ap length (sym h.keys.1)
count-held types (Words set) ks h = ap length h.keys.1 ∙ length-map ks _
count-held types (Wide set) ks h = ap length h.keys.1 ∙ length-map ks _
count-held types (Texts set) ks h = sym (length-map set.keys (λ k. k.items)) ∙ ap length h.keys.1 ∙ length-map ks _

module _ (types : List Ty) (s : KeySet) (places : List ℕ) (p : ArePut tuple_cmp place_of (ArePlacedTuples types s (count_in s)) places) where
  all-tuples : (ks : List (List Value)) → Holds types s ks → AreAll tuple_cmp place_of tuple_of (λ a b. refl) ks p.made
  all-tuples ks held = record {
    many = p.keys.many ∙ count-held types s ks held;
    each = λ i d h.
        let e = p.keys.each i d (subst (λ n. i < n) (sym (count-held types s ks held)) h) in
        record { place_is = e.place_is; tuple_is = e.tuple_is.at ks held };
  }

  pub tuples-in-order : AreInOrder types s places
  tuples-in-order = record {
    ascend = λ ks held apart. ascend tuple_cmp place_of tuple_of (λ a b. refl) p ks (all-tuples ks held) apart;
    within = λ ks held. within tuple_cmp place_of tuple_of (λ a b. refl) p ks (all-tuples ks held);
  }
