-- The values that rows have in key columns.
use Rattle.std.proofs.Common.{◌≡◌, ℕ, zero, suc, nat_le, ◌+◌, ◌-◌, ◌<◌, ◌≤◌, List, [], length, map, drop, take, get_or, sym, ap, ap₂, refl, ◌∙◌, ◌∷◌, ◌++◌, arith, true}
use Rattle.std.specs.Prelude.{Some}
use Rattle.std.specs.List.{All, list_all, slice_get}
use Rattle.std.proofs.lemmas.List.{append-nil, get_or_default, get_or-drop, get_or-map, length-drop, length-map, map_push}
use Rattle.std.proofs.lemmas.Option.{get_or_from_slice_get}
use Rattle.std.proofs.lemmas.Bool.{and_parts}
use Rattle.std.proofs.Math.Nat.{mod-eq_of_lt}
use lib.Seq.{take-suc}
use Rattle.agg_terms.specs.Chains as terms
use Rattle.agg_terms.specs.Values as family
use Rattle.agg_terms.specs.Trees.{IsValue}
use Rattle.agg_typing.specs.Kinds.{is_number_or_text}
use Rattle.agg_meaning.specs.Feeds.{AreValues}
use Rattle.typed_columns.specs.TypedValues.{TypedValues}
use Rattle.value_types.specs.Folds.{ty_of, value_of}
use Rattle.value_types.specs.declared.ty.Ty.{Ty}
use Rattle.value_types.specs.declared.value.Value.{Value}
use Rattle.value_types.specs.declared.value.Value.TheVariants as value
use Rattle.key_methods.specs.Figures.{worth}
use Rattle.key_methods.specs.KeyBytes.{AreShort, IsShort, value_bytes, values_bytes, word_of}
use Rattle.key_methods.specs.Kinds.{AreKeyTypes, fit_in, is_plain_number, total_width, width_of}
use Rattle.key_methods.proofs.Columns.{is_column}
use Rattle.key_methods.proofs.Figures.{worth-bytes}
use Rattle.key_methods.proofs.SideBySide.{Writing, as_many, here, number_bytes, word_below, written_on}
use Rattle.key_columns.specs.Words.{AreKeyColumns, column_at, key_tuple, key_tuples, key_values, words_in}

pub key_at : (columns : List TypedValues) (keys : List ℕ) (i row k : ℕ) (c : TypedValues) (v : Value) → i < length keys → k ≡ get_or keys i k → k < length columns →
    c ≡ get_or columns k c → slice_get c.values row ≡ Some v → v ≡ get_or (key_values columns keys row) i v
key_at columns keys i row k c v hi hk within hc hv =
    sym (get_or_from_slice_get c.values row v value.Nil hv)
    ∙ ap (λ d. get_or d.values row value.Nil) (hc ∙ get_or_default columns k c _ within)
    ∙ ap (λ j. get_or (column_at columns j).values row value.Nil) hk
    ∙ sym (get_or-map (λ j. get_or (column_at columns j).values row value.Nil) keys i k v hi)

-- as many keys as types
pub key_count : (types : List Ty) (columns : List TypedValues) (keys : List ℕ) (row : ℕ) → AreValues (map ty_of types) (key_tuple columns keys row) → length types ≡ length keys
key_count types columns keys row fits = as_many types (key_values columns keys row) fits ∙ length-map keys (λ k. get_or (column_at columns k).values row value.Nil)

-- ---- what is written so far, and what is left
pub record RowWriting (ts : List Ty) (vs : List Value) (all_values : List Value) (out all : List ℕ) : Type 0 where
  pub written : Writing ts vs out all
  pub short : AreShort (map value_of vs) → AreShort (map value_of all_values)

module _ (ts : List Ty) (vs : List Value) (i : ℕ) (t : Ty) (v : Value) (out all : List ℕ) (hi : i < length ts) (fits : AreValues (map ty_of ts) (map value_of vs))
    (type_is : t ≡ get_or ts i t) (value_is : v ≡ get_or vs i v) (w : RowWriting (drop i ts) (drop i vs) vs out all) where
  pub at_item : RowWriting (t ∷ drop (i + 1) ts) (v ∷ drop (i + 1) vs) vs out all
  at_item = here ts vs i t v hi fits type_is value_is (λ us ws. RowWriting us ws vs out all) w

  pub item_type : is_number_or_text (ty_of t) ≡ true
  item_type = at_item.written.types.0

  pub item_fits : IsValue (ty_of t) (value_of v)
  item_fits = at_item.written.fits.0

  pub item_on : (new : List ℕ) → IsShort (value_of v) → new ≡ out ++ value_bytes (ty_of t) (value_of v) → RowWriting (drop (i + 1) ts) (drop (i + 1) vs) vs new all
  item_on new short e = record {
    written = written_on t (drop (i + 1) ts) v (drop (i + 1) vs) out new all at_item.written e;
    short = λ rest. at_item.short (short, rest);
  }

-- ---- values that are no numbers have no word
module _ (t : terms.Ty) where
  pub word_Bytes : (b : List ℕ) → word_of t (family.Bytes b) ≡ 0
  word_Bytes b = by t
    where
      by : (u : terms.Ty) → word_of u (family.Bytes b) ≡ 0
      by (terms.Whole n) = refl
      by (terms.Signed w) = refl
      by terms.Str = refl
      by (terms.Arr u) = refl
      by (terms.MapTy k u) = refl
      by (terms.Nullable u) = refl
      by (terms.StateOf c us) = refl

pub ruleset word_laws = (word_Bytes)

-- ---- key tuples of rows, one by one
pub tuples_more : (columns : List TypedValues) (keys : List ℕ) (from row : ℕ) → from ≤ row → key_tuples columns keys from (row + 1 - from) ≡ key_tuples columns keys from (row - from) ++ key_tuple columns keys row ∷ []
tuples_more columns keys from row h =
    let one : row + 1 - from ≡ suc (row - from) = omega (arith, h) in
    let at : from + (row - from) ≡ row = omega (arith, h) in
    ap (key_tuples columns keys from) one ∙ ap (λ r. key_tuples columns keys from (row - from) ++ key_tuple columns keys r ∷ []) at

pub coded_more : {X : Type 0} (f : List family.Value → X) (columns : List TypedValues) (keys : List ℕ) (from row : ℕ) (xs ys : List X) → from ≤ row →
    xs ≡ map f (key_tuples columns keys from (row - from)) → ys ≡ xs ++ f (key_tuple columns keys row) ∷ [] → ys ≡ map f (key_tuples columns keys from (row + 1 - from))
coded_more f columns keys from row xs ys h before more =
    more ∙ ap (λ l. l ++ f (key_tuple columns keys row) ∷ []) before
    ∙ sym (map_push f (key_tuples columns keys from (row - from)) (key_tuple columns keys row))
    ∙ ap (map f) (sym (tuples_more columns keys from row h))

-- ---- the words of one number
one_worth : (t : Ty) (v : family.Value) → is_number_or_text (ty_of t) ≡ true → is_plain_number (ty_of t) ≡ true → IsValue (ty_of t) v → word_of (ty_of t) v ≡ worth (values_bytes (ty_of t ∷ []) (v ∷ []))
one_worth t v kind plain is =
    let below = word_below (ty_of t) v (is_column t kind) is plain in
    sym
    (ap worth (append-nil (value_bytes (ty_of t) v) ∙ number_bytes (ty_of t) v plain)
    ∙ worth-bytes (width_of (ty_of t)) (word_of (ty_of t) v) 0 ∙ omega (arith, mod-eq_of_lt below))

module _ (t : Ty) (columns : List TypedValues) (k from to : ℕ) (kind : is_number_or_text (ty_of t) ≡ true) (plain : is_plain_number (ty_of t) ≡ true)
    (within : to ≤ length (column_at columns k).values) (are : AreKeyColumns (t ∷ []) columns (k ∷ []) from to) where
  abbrev column : TypedValues
  column = column_at columns k

  abbrev word : Value → ℕ
  word v = word_of (ty_of (column_at columns k).ty) (value_of v)

  abbrev code : List family.Value → ℕ
  code vs = worth (values_bytes (map ty_of (t ∷ [])) vs)

  type_is : t ≡ (column_at columns k).ty
  type_is = ap (λ ts. get_or ts 0 t) are.types_are

  here_worth : (n : ℕ) → from + n < to → word (get_or (column_at columns k).values (from + n) value.Nil) ≡ code (key_tuple columns (k ∷ []) (from + n))
  here_worth n h =
      ap (λ u. word_of (ty_of u) (value_of (get_or (column_at columns k).values (from + n) value.Nil))) (sym type_is)
      ∙ one_worth t (value_of (get_or (column_at columns k).values (from + n) value.Nil)) kind plain (are.fit (from + n) (omega arith) h).0

  upto : (n : ℕ) → from + n ≤ to → map word (take n (drop from (column_at columns k).values)) ≡ map code (key_tuples columns (k ∷ []) from n)
  upto zero h = refl
  upto (suc n) h =
      let values = (column_at columns k).values in
      let lt : n < length (drop from values) = omega (arith, h, within, length-drop from values) in
      ap (map word) (take-suc (drop from values) n value.Nil lt)
      ∙ map_push word (take n (drop from values)) (get_or (drop from values) n value.Nil)
      ∙ ap₂ (λ l x. l ++ x ∷ []) (upto n (omega (arith, h))) (ap word (get_or-drop from values n value.Nil) ∙ here_worth n (omega (arith, h)))
      ∙ sym (map_push code (key_tuples columns (k ∷ []) from n) (key_tuple columns (k ∷ []) (from + n)))

  pub column_words_are : from ≤ to → words_in (column_at columns k) from to ≡ map code (key_tuples columns (k ∷ []) from (to - from))
  column_words_are order = upto (to - from) (omega (arith, order))

pub key_words_are : (types : List Ty) (columns : List TypedValues) (keys : List ℕ) (from to : ℕ) (c : TypedValues) (words : List ℕ) → length types ≡ 1 →
    fit_in 8 (map ty_of types) ≡ true → AreKeyTypes types → from ≤ to → All (λ c. to ≤ length c.values) columns → All (λ k. k < length columns) keys →
    AreKeyColumns types columns keys from to → c ≡ get_or columns (get_or keys 0 0) c → words ≡ words_in c from to →
    words ≡ map (λ vs. worth (values_bytes (map ty_of types) vs)) (key_tuples columns keys from (to - from))
key_words_are [] columns keys from to c words one fits kinds order within below are is e = absurd (omega (arith, one))
key_words_are (t ∷ u ∷ ts) columns keys from to c words one fits kinds order within below are is e = absurd (omega (arith, one))
key_words_are (t ∷ []) columns [] from to c words one fits kinds order within below are is e = absurd (omega (arith, ap length are.types_are))
key_words_are (t ∷ []) columns (j ∷ l ∷ keys) from to c words one fits kinds order within below are is e = absurd (omega (arith, ap length are.types_are))
key_words_are (t ∷ []) columns (j ∷ []) from to c words one fits kinds order within below are is e =
    let all = and_parts (list_all is_plain_number (ty_of t ∷ [])) (nat_le (total_width (ty_of t ∷ [])) 8) fits in
    let plain = (and_parts (is_plain_number (ty_of t)) (list_all is_plain_number []) all.0).0 in
    let here : j < length columns = below 0 0 (omega arith) in
    let column_is : c ≡ column_at columns j = is ∙ get_or_default columns j c _ here in
    e ∙ ap (λ d. words_in d from to) column_is
    ∙ column_words_are t columns j from to kinds.0 plain (within j _ here) are order

pub code_on : (f : List family.Value → ℕ) (columns : List TypedValues) (keys : List ℕ) (from row : ℕ) (xs ys : List ℕ) (x : ℕ) → from ≤ row →
    xs ≡ map f (key_tuples columns keys from (row - from)) → x ≡ f (key_tuple columns keys row) → ys ≡ xs ++ x ∷ [] → ys ≡ map f (key_tuples columns keys from (row + 1 - from))
code_on f columns keys from row xs ys x h before is more = coded_more f columns keys from row xs ys h before (more ∙ ap (λ y. xs ++ y ∷ []) is)
