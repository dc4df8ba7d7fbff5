-- What is written, piece by piece.
use Rattle.std.proofs.Common.{◌≡◌, ℕ, zero, suc, ◌+◌, ◌-◌, ◌*◌, ◌^◌, ◌<◌, ◌≤◌, ℤ, pos, Bool, true, false, List, [], ◌∷◌, ◌++◌, map, length, drop, take, Option, Some, None, Result, Ok, Err, refl, sym, ap, ap₂, subst, ◌∙◌, append_assoc, arith}
use Rattle.std.proofs.lemmas.List.{take_all}
use Rattle.std.specs.Prelude.{OnOk}
use Rattle.std.specs.Int.{bytes_high_first, cast_unsigned}
use mir.Syntax.{w128}
use Rattle.agg_meaning.specs.Functions.{number}
use Rattle.agg_terms.specs.Chains as terms
use Rattle.agg_terms.specs.Values as family
use Rattle.agg_terms.specs.Values.{is_null}
use Rattle.agg_terms.proofs.Lists.{entries_back, keyed_back, table_back, trees_back, values_back}
use Rattle.value_types.specs.declared.ty.Ty.{Ty}
use Rattle.value_types.specs.declared.ty.Ty.TheVariants as ty
use Rattle.value_types.specs.declared.value.Event.{Event}
use Rattle.value_types.specs.declared.value.Value.{Value}
use Rattle.value_types.specs.declared.value.Value.TheVariants as value
use Rattle.value_types.specs.declared.value.Tree.{Tree}
use Rattle.value_types.specs.declared.value.Tree.TheVariants as tree
use Rattle.value_types.specs.declared.value.KeyedTree.{KeyedTree}
use Rattle.value_types.specs.Folds.{entry_of, event_of, tree_of, ty_of, value_of}
use Rattle.value_types.proofs.FoldLaws.{tree_of-Empty, tree_of-Events, tree_of-Keyed, tree_of-Rows, tree_of-Slots, tree_of-Tuple, tree_of-Values, tree_of-Word, ty_of-Arr, ty_of-Map, ty_of-Nullable, value_of-Bytes, value_of-List, value_of-Num, value_of-Pairs}
use Rattle.state_texts.specs.Figures.{high, low, number_text}
use Rattle.state_texts.specs.Texts.{bytes_of, events_of, flag_text, items_of, list_text, not_nil, one_of, pairs_of, row_of, value_text, word_of}
use Rattle.state_texts.specs.proving.Writing.{pair_text, pair_view}
use Rattle.state_texts.proofs.Figures.{bytes_high, length_high, low_pos}

-- ---- numbers

drop_high : (j k n m : ℕ) → m ≡ j + k → drop j (bytes_high_first m n) ≡ bytes_high_first k n
drop_high zero k n m e = let same : m ≡ k = omega (arith, e) in ap (λ i. bytes_high_first i n) same
drop_high (suc j) k n zero e = absurd (omega (arith, e))
drop_high (suc j) k n (suc m) e = drop_high j k n m (omega (arith, e))

-- the last bytes of sixteen
pub tail_text : (w : ℕ) (z : ℤ) (buf : List ℕ) → w ≤ 16 → buf ≡ bytes_high_first 16 (cast_unsigned w128 z) → take (16 - (16 - w)) (drop (16 - w) buf) ≡ number_text w z
tail_text w z buf l h =
    let n = cast_unsigned w128 z in
    let k : 16 - (16 - w) ≡ w = omega (arith, l) in
    ap (λ n. take n (drop (16 - w) buf)) k
    ∙ ap (λ b. take w (drop (16 - w) b)) h
    ∙ ap (take w) (drop_high (16 - w) w n 16 (omega (arith, l)) ∙ bytes_high w n)
    ∙ take_all w (number_text w z) (let k = length_high w (low w z) in omega (arith, k))

pub eight_text : (n : ℕ) → n < 2 ^ 64 → number_text 8 (pos n) ≡ high 8 n
eight_text n l = ap (high 8) (low_pos 8 n (omega (arith, l)))

pub four_text : (n : ℕ) → n < 2 ^ 32 → number_text 4 (pos n) ≡ high 4 n
four_text n l = ap (high 4) (low_pos 4 n (omega (arith, l)))

-- ---- values by their kind

module _ (v : Value) where
  pub number_at : (z : ℤ) → v ≡ value.Num z → number (value_of v) ≡ z
  number_at z e = ap number (ap value_of e ∙ value_of-Num z)

  pub bytes_at : (bytes : List ℕ) → v ≡ value.Bytes bytes → bytes_of (value_of v) ≡ bytes
  bytes_at bytes e = ap bytes_of (ap value_of e ∙ value_of-Bytes bytes)

  pub items_at : (xs : List Value) → v ≡ value.List xs → items_of (value_of v) ≡ map value_of xs
  items_at xs e = ap items_of (ap value_of e ∙ value_of-List xs) ∙ values_back (map value_of xs)

  pub pairs_at : (xs : List (Value × Value)) → v ≡ value.Pairs xs → pairs_of (value_of v) ≡ map (λ e. (value_of e.0, value_of e.1)) xs
  pairs_at xs e = ap pairs_of (ap value_of e ∙ value_of-Pairs xs) ∙ entries_back (map (λ e. (value_of e.0, value_of e.1)) xs)

pub ruleset value_kinds = (number_at, bytes_at, items_at, pairs_at)

-- ---- under Nullable

null_is : (v : family.Value) → is_null v ≡ true → not_nil v ≡ None
null_is family.Nil e = refl
null_is (family.Num z) e = absurd cc
null_is (family.Bytes b) e = absurd cc
null_is (family.Items vs) e = absurd cc
null_is (family.Pairs es) e = absurd cc
null_is (family.Cell t) e = absurd cc

some_is : (v : family.Value) → is_null v ≡ false → not_nil v ≡ Some v
some_is family.Nil e = absurd cc
some_is (family.Num z) e = refl
some_is (family.Bytes b) e = refl
some_is (family.Items vs) e = refl
some_is (family.Pairs es) e = refl
some_is (family.Cell t) e = refl

module _ (t of : Ty) (v : family.Value) where
  pub null_text : t ≡ ty.Nullable of → is_null v ≡ true → value_text (ty_of t) v ≡ 0 ∷ []
  null_text e n = ap (λ u. value_text (ty_of u) v) e ∙ ap (λ u. value_text u v) (ty_of-Nullable of) ∙ ap (flag_text (value_text (ty_of of))) (null_is v n)

  pub some_text : t ≡ ty.Nullable of → is_null v ≡ false → value_text (ty_of t) v ≡ 1 ∷ value_text (ty_of of) v
  some_text e n = ap (λ u. value_text (ty_of u) v) e ∙ ap (λ u. value_text u v) (ty_of-Nullable of) ∙ ap (flag_text (value_text (ty_of of))) (some_is v n)

pub array_text : (t of : Ty) (v : family.Value) → t ≡ ty.Arr of → value_text (ty_of t) v ≡ list_text (value_text (ty_of of)) (items_of v)
array_text t of v e = ap (λ u. value_text (ty_of u) v) e ∙ ap (λ u. value_text u v) (ty_of-Arr of)

pub map_text : (t k of : Ty) (v : family.Value) → t ≡ ty.Map k of → value_text (ty_of t) v ≡ list_text (pair_text (ty_of t)) (pairs_of v)
map_text t k of v e =
    let is : ty_of t ≡ terms.MapTy (ty_of k) (ty_of of) = ap ty_of e ∙ ty_of-Map k of in
    ap (λ u. value_text u v) is ∙ sym (ap (λ u. list_text (pair_text u) (pairs_of v)) is)

pub ruleset value_texts = (null_text, some_text, array_text, map_text)

pub map_entry : (t k of : Ty) (e : Value × Value) → t ≡ ty.Map k of → pair_text (ty_of t) (pair_view e) ≡ value_text (ty_of k) (value_of e.0) ++ value_text (ty_of of) (value_of e.1)
map_entry t k of e h = ap (λ u. pair_text u (pair_view e)) (ap ty_of h ∙ ty_of-Map k of)

pub ruleset pair_texts = (map_entry)

-- ---- trees by their kind

module _ (t : Tree) where
  pub values_in : (xs : List Value) → t ≡ tree.Values xs → family.values_of (tree_of t) ≡ map value_of xs
  values_in xs e = ap family.values_of (ap tree_of e ∙ tree_of-Values xs) ∙ values_back (map value_of xs)

  pub rows_in : (xs : List (List Value)) → t ≡ tree.Rows xs → family.rows_of (tree_of t) ≡ map (map value_of) xs
  rows_in xs e = ap family.rows_of (ap tree_of e ∙ tree_of-Rows xs) ∙ table_back (map (map value_of) xs)

  pub slots_in : (xs : List Tree) → t ≡ tree.Slots xs → family.slots_of (tree_of t) ≡ map tree_of xs
  slots_in xs e = ap family.slots_of (ap tree_of e ∙ tree_of-Slots xs) ∙ trees_back (map tree_of xs)

  pub keyed_in : (xs : List KeyedTree) → t ≡ tree.Keyed xs → family.keyed_of (tree_of t) ≡ map entry_of xs
  keyed_in xs e = ap family.keyed_of (ap tree_of e ∙ tree_of-Keyed xs) ∙ keyed_back (map entry_of xs)

  pub word_in : (z : ℤ) → t ≡ tree.Word z → word_of (tree_of t) ≡ Some z
  word_in z e = ap word_of (ap tree_of e ∙ tree_of-Word z)

  pub one_word : (z : ℤ) → t ≡ tree.Word z → one_of (tree_of t) ≡ Some (family.Num z)
  one_word z e = ap one_of (ap tree_of e ∙ tree_of-Word z)

  pub one_tuple : (v : Value) (vs : List Value) → t ≡ tree.Tuple (v ∷ vs) → one_of (tree_of t) ≡ Some (value_of v)
  one_tuple v vs e = ap one_of (ap tree_of e ∙ tree_of-Tuple (v ∷ vs))

  pub no_tuple : (xs : List Value) → t ≡ tree.Tuple xs → xs ≡ [] → one_of (tree_of t) ≡ None
  no_tuple xs e n = ap one_of (ap tree_of e ∙ ap (λ l. tree_of (tree.Tuple l)) n ∙ tree_of-Tuple [])

  pub row_in : (xs : List Value) → t ≡ tree.Tuple xs → row_of (tree_of t) ≡ Some (map value_of xs)
  row_in xs e = ap row_of (ap tree_of e ∙ tree_of-Tuple xs) ∙ ap Some (values_back (map value_of xs))

  pub events_in : (xs : List Event) → t ≡ tree.Events xs → events_of (tree_of t) ≡ Some (map event_of xs)
  events_in xs e = ap events_of (ap tree_of e ∙ tree_of-Events xs)

pub ruleset tree_kinds = (values_in, rows_in, slots_in, keyed_in, word_in, one_word, one_tuple, no_tuple, row_in, events_in)

-- ---- pieces

-- what is put behind a front that was put before
pub puts_on : {X E : Type 0} (result : Result X E) (old mid new front words said : List ℕ) → mid ≡ old ++ front → said ≡ front ++ words → OnOk result (new ≡ mid ++ words) → OnOk result (new ≡ old ++ said)
puts_on (Ok x) old mid new front words said a b h = h ∙ ap (λ l. l ++ words) a ∙ append_assoc old front words ∙ ap (λ l. old ++ l) (sym b)
puts_on (Err e) old mid new front words said a b h = tt
