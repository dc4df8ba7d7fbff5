-- What every way to put readers together keeps holds of the reader of each chain.
use Rattle.state_texts.specs.declared.version.Version.{Version}
use Rattle.state_texts.specs.declared.version.Version.TheVariants.{One}
use Rattle.std.proofs.Common.{ℕ, ◌/◌, ◌^◌, ℤ, pos, Bool, true, false, ltb, List, [], ◌∷◌, map, length, Option, Ok, Err}
use Rattle.std.specs.Int.{byte_len, cast_signed}
use mir.Syntax.{w64}
use Rattle.agg_terms.specs.Chains.{Leaf, Count, Sum, Min, Max, ArgMin, ArgMax, GroupArray, UniqExact, QuantileExact, WindowFunnel, SequenceMatch, Retention, GroupBit, Chain, Of, If, Array, MapOf, ForEach, OrNull, OrDefault, Distinct, State, Merge, Resample, Ty, Whole, Signed, Str, Arr, MapTy, Nullable, StateOf}
use Rattle.agg_terms.specs.Order.{compare, compare_rows}
use Rattle.agg_terms.specs.Trees.{one_tree}
use Rattle.agg_terms.specs.Types.{intervals, conditions, bare, first_type, is_signed, inward, key_type}
use Rattle.agg_terms.specs.Values.{Events, Value, Num, Bytes, Tree, Word, tuple_tree, list_value, map_value, values_tree, rows_tree, slots_tree, keyed_tree}
use Rattle.scalar_texts.specs.declared.fault.StateFault.TheVariants.{Short}
use Rattle.state_texts.specs.Figures.{worth}
use Rattle.state_codec.specs.Reading.{Read, made, bytes_at, number_at, string_at, kept_at, both_at, flag_at, items_at, list_at, any_length, up_to, rises, holds_up, is_new, or_nil, value_at, row_at, is_event, an_event, event_at, or_empty, word_at, events_at, one_at, quantile_at, leaf_at, entry_at, body_at}

-- a reader of a text of so many bytes
abbrev pub Reader : Type 0 → Type 0
Reader X = ℕ → List ℕ → Read X

-- no value of a state's type stands in a body
abbrev pub no_value : Reader Value
no_value whole bytes = Err Short

abbrev pub none_of : (x : List Value) → Reader (List Value)
none_of x whole bytes = Ok (x, bytes)

pub record IsClosed (Q : (X : Type 0) → Reader X → Type 0) : Type 1 where
  pub of_made : {X Y : Type 0} (f : X → Y) (read : Reader X) → Q X read → Q Y (λ whole bytes. made f (read whole bytes))
  pub of_bytes : (k : ℕ) → Q (List ℕ) (λ whole. bytes_at k)
  pub of_string : Q (List ℕ) (λ whole. string_at)
  pub of_short : Q Value no_value
  pub of_none : (x : List Value) → Q (List Value) (none_of x)
  pub of_kept : {X : Type 0} (test : X → Bool) (read : Reader X) → Q X read → Q X (λ whole. kept_at whole test (read whole))
  pub of_both : {X Y : Type 0} (first : Reader X) (second : Reader Y) → Q X first → Q Y second → Q (X × Y) (λ whole. both_at (first whole) (second whole))
  pub of_flag : {X : Type 0} (read : Reader X) → Q X read → Q (Option X) (λ whole. flag_at whole (read whole))
  pub of_items : {X : Type 0} (read : ℕ → List X → List ℕ → Read X) → ((earlier : List X) → Q X (λ whole. read whole earlier)) → (n : ℕ) → Q (List X) (λ whole. items_at (read whole) n [])
  pub of_list : {X : Type 0} (test : ℕ → Bool) (read : ℕ → List X → List ℕ → Read X) → ((earlier : List X) → Q X (λ whole. read whole earlier)) → Q (List X) (λ whole. list_at whole test (read whole))

module _ (Q : (X : Type 0) → Reader X → Type 0) (laws : IsClosed Q) where
  of_number : (k : ℕ) → Q ℕ (λ whole. number_at k)
  of_number k = laws.of_made worth (λ whole. bytes_at k) (laws.of_bytes k)

  closed_value : (t : Ty) → Q Value (λ whole. value_at whole t)
  closed_value (Whole n) = laws.of_made (λ k. Num (pos k)) (λ whole. number_at (n / 8)) (of_number (n / 8))
  closed_value (Signed w) = laws.of_made (λ k. Num (cast_signed w k)) (λ whole. number_at (byte_len w)) (of_number (byte_len w))
  closed_value Str = laws.of_made Bytes (λ whole. string_at) laws.of_string
  closed_value (Arr t) = laws.of_made list_value (λ whole. list_at whole any_length (λ e. value_at whole t)) (laws.of_list any_length (λ whole e. value_at whole t) (λ e. closed_value t))
  closed_value (MapTy k t) =
      laws.of_made map_value (λ whole. list_at whole any_length (λ e. both_at (value_at whole k) (value_at whole t)))
      (laws.of_list any_length (λ whole e. both_at (value_at whole k) (value_at whole t)) (λ e. laws.of_both (λ whole. value_at whole k) (λ whole. value_at whole t) (closed_value k) (closed_value t)))
  closed_value (Nullable t) = laws.of_made or_nil (λ whole. flag_at whole (value_at whole t)) (laws.of_flag (λ whole. value_at whole t) (closed_value t))
  closed_value (StateOf c ts) = laws.of_short

  closed_row : (ts : List Ty) → Q (List Value) (λ whole. row_at whole ts)
  closed_row [] = laws.of_none []
  closed_row (t ∷ ts) =
      laws.of_made (λ p. p.0 ∷ p.1) (λ whole. both_at (value_at whole (bare t)) (row_at whole ts))
      (laws.of_both (λ whole. value_at whole (bare t)) (λ whole. row_at whole ts) (closed_value (bare t)) (closed_row ts))

  closed_word : (signed : Bool) → Q ℤ (λ whole. word_at signed)
  closed_word true = laws.of_made (cast_signed w64) (λ whole. number_at 8) (of_number 8)
  closed_word false = laws.of_made pos (λ whole. number_at 8) (of_number 8)

  closed_events : (n : ℕ) → Q Tree (λ whole. events_at whole n)
  closed_events n =
      laws.of_made (or_empty Events) (λ whole. flag_at whole (list_at whole any_length (λ e. kept_at whole (is_event n e) event_at)))
      (laws.of_flag (λ whole. list_at whole any_length (λ e. kept_at whole (is_event n e) event_at))
      (laws.of_list any_length (λ whole e. kept_at whole (is_event n e) event_at)
      (λ e. laws.of_kept (is_event n e) (λ whole. event_at) (laws.of_made an_event (λ whole. both_at (number_at 8) (number_at 4)) (laws.of_both (λ whole. number_at 8) (λ whole. number_at 4) (of_number 8) (of_number 4))))))

  closed_one : (ts : List Ty) → Q Tree (λ whole. one_at whole (bare (first_type ts)))
  closed_one ts = laws.of_made one_tree (λ whole. flag_at whole (value_at whole (bare (first_type ts)))) (laws.of_flag (λ whole. value_at whole (bare (first_type ts))) (closed_value (bare (first_type ts))))

  closed_pair : (ts : List Ty) → Q Tree (λ whole bytes. made (or_empty tuple_tree) (flag_at whole (row_at whole ts) bytes))
  closed_pair ts = laws.of_made (or_empty tuple_tree) (λ whole. flag_at whole (row_at whole ts)) (laws.of_flag (λ whole. row_at whole ts) (closed_row ts))

  closed_quantile : (v : Version) (ty : Ty) → Q Tree (λ whole. quantile_at v whole ty)
  closed_quantile One ty =
      laws.of_made values_tree (λ whole. list_at whole any_length (λ e. kept_at whole (holds_up compare e) (value_at whole ty)))
      (laws.of_list any_length (λ whole e. kept_at whole (holds_up compare e) (value_at whole ty)) (λ e. laws.of_kept (holds_up compare e) (λ whole. value_at whole ty) (closed_value ty)))

  closed_leaf : (v : Version) (f : Leaf) (ts : List Ty) → Q Tree (λ whole. leaf_at v whole f ts)
  closed_leaf v Count ts = laws.of_made (or_empty Word) (λ whole. flag_at whole (word_at false)) (laws.of_flag (λ whole. word_at false) (closed_word false))
  closed_leaf v Sum ts = laws.of_made (or_empty Word) (λ whole. flag_at whole (word_at (is_signed (first_type ts)))) (laws.of_flag (λ whole. word_at (is_signed (first_type ts))) (closed_word (is_signed (first_type ts))))
  closed_leaf v Min ts = closed_one ts
  closed_leaf v Max ts = closed_one ts
  closed_leaf v ArgMin ts = closed_pair ts
  closed_leaf v ArgMax ts = closed_pair ts
  closed_leaf v (GroupArray most) ts = laws.of_made values_tree (λ whole. list_at whole (up_to most) (λ e. value_at whole (bare (first_type ts)))) (laws.of_list (up_to most) (λ whole e. value_at whole (bare (first_type ts))) (λ e. closed_value (bare (first_type ts))))
  closed_leaf v UniqExact ts =
      laws.of_made rows_tree (λ whole. list_at whole any_length (λ e. kept_at whole (rises compare_rows e) (row_at whole ts)))
      (laws.of_list any_length (λ whole e. kept_at whole (rises compare_rows e) (row_at whole ts)) (λ e. laws.of_kept (rises compare_rows e) (λ whole. row_at whole ts) (closed_row ts)))
  closed_leaf v (QuantileExact level) ts = closed_quantile v (bare (first_type ts))
  closed_leaf v (WindowFunnel window strict) ts = closed_events (conditions ts)
  closed_leaf v (SequenceMatch pattern) ts = closed_events (conditions ts)
  closed_leaf v Retention ts =
      laws.of_made (or_empty (λ m. Word (pos m))) (λ whole. flag_at whole (kept_at whole (λ m. ltb m (2 ^ length ts)) (number_at 4)))
      (laws.of_flag (λ whole. kept_at whole (λ m. ltb m (2 ^ length ts)) (number_at 4)) (laws.of_kept (λ m. ltb m (2 ^ length ts)) (λ whole. number_at 4) (of_number 4)))
  closed_leaf v (GroupBit op) ts = closed_one ts

  pub closed_body : (v : Version) (c : Chain) (ts : List Ty) → Q Tree (λ whole. body_at v whole c ts)
  closed_body v (Of f) ts = closed_leaf v f ts
  closed_body v (If c) ts = closed_body v c (inward (If c) ts)
  closed_body v (Array c) ts = closed_body v c (inward (Array c) ts)
  closed_body v (MapOf c) ts =
      let key = key_type (first_type ts) in
      let us = inward (MapOf c) ts in
      laws.of_made keyed_tree (λ whole. list_at whole any_length (entry_at whole key (body_at v whole c us)))
      (laws.of_list any_length (λ whole. entry_at whole key (body_at v whole c us))
      (λ e. laws.of_both (λ whole. kept_at whole (rises compare (map (λ z. z.0) e)) (value_at whole key)) (λ whole. body_at v whole c us)
      (laws.of_kept (rises compare (map (λ z. z.0) e)) (λ whole. value_at whole key) (closed_value key)) (closed_body v c us)))
  closed_body v (ForEach c) ts =
      let us = inward (ForEach c) ts in
      laws.of_made slots_tree (λ whole. list_at whole any_length (λ e. body_at v whole c us)) (laws.of_list any_length (λ whole e. body_at v whole c us) (λ e. closed_body v c us))
  closed_body v (OrNull c) ts = closed_body v c ts
  closed_body v (OrDefault c) ts = closed_body v c ts
  closed_body v (Distinct c) ts =
      laws.of_made rows_tree (λ whole. list_at whole any_length (λ e. kept_at whole (is_new compare_rows e) (row_at whole ts)))
      (laws.of_list any_length (λ whole e. kept_at whole (is_new compare_rows e) (row_at whole ts)) (λ e. laws.of_kept (is_new compare_rows e) (λ whole. row_at whole ts) (closed_row ts)))
  closed_body v (State c) ts = closed_body v c ts
  closed_body v (Merge c) ts = closed_body v c (inward (Merge c) ts)
  closed_body v (Resample start end step c) ts =
      let us = inward (Resample start end step c) ts in
      laws.of_made slots_tree (λ whole. items_at (λ e. body_at v whole c us) (intervals start end step) []) (laws.of_items (λ whole e. body_at v whole c us) (λ e. closed_body v c us) (intervals start end step))
