-- What a plan that agrees with the columns of a batch promises of the keys and the arguments of rows.
use Rattle.std.proofs.Common.{◌≡◌, ℕ, zero, suc, ◌+◌, ◌<◌, ◌≤◌, Bool, true, List, [], ◌∷◌, ◌++◌, length, map, get_or, refl, ap, ap₂, sym, ◌∙◌, subst, arith}
use Rattle.std.specs.List.{All, list_all}
use Rattle.std.proofs.lemmas.Bool.{and_parts}
use Rattle.std.proofs.lemmas.List.{get_or-map, length-map, map_push}
use Rattle.agg_terms.specs.Chains as terms
use Rattle.agg_terms.specs.Fitting.{fits_value}
use Rattle.agg_terms.specs.Lists.{Each}
use Rattle.agg_terms.specs.Trees.{IsValue}
use Rattle.agg_terms.specs.Values as family
use Rattle.agg_terms.proofs.Fitting as fitting
use Rattle.agg_typing.specs.Kinds.{is_number_or_text}
use Rattle.agg_typing.specs.Views.{IsCallOver, IsKeyOver}
use Rattle.agg_meaning.specs.Feeds.{AreValues}
use Rattle.agg_meaning.specs.Views.{items_at}
use Rattle.columns.specs.Rows.{AreTyped, row_at}
use Rattle.typed_columns.specs.Growth.{AllFit}
use Rattle.typed_columns.specs.TypedValues.{TypedValues}
use Rattle.value_types.specs.Folds.{ty_of, value_of}
use Rattle.value_types.specs.declared.ty.Ty.{Ty}
use Rattle.value_types.specs.declared.ty.Ty.TheVariants as rust
use Rattle.value_types.specs.declared.value.Value.{Value}
use Rattle.value_types.specs.declared.value.Value.TheVariants.{Nil}
use Rattle.key_methods.specs.Kinds.{AreKeyTypes}
use Rattle.key_columns.specs.Words.{AreKeyColumns, column_at, key_tuple, key_tuples}
use Rattle.chain_states.specs.Calls.{argument_rows, batch_row}
use Rattle.group_tables.specs.Calls.{call_of, calls_of}
use Rattle.group_tables.specs.proving.Rows.{rows_between}
use Rattle.group_tables.specs.declared.grouping.GroupCall.{GroupCall}
use Rattle.group_tables.proofs.Few.{few-arguments}

-- ---- lists
pub each-all : {X : Type 0} (P : X → Type 0) (xs : List X) → Each P xs → All P xs
each-all P [] e j d h = absurd (omega (arith, h))
each-all P (x ∷ xs) e zero d h = e.0
each-all P (x ∷ xs) e (suc j) d h = each-all P xs e.1 j d (omega (arith, h))

pub each-weaker : {X : Type 0} (P Q : X → Type 0) → ((x : X) → P x → Q x) → (xs : List X) → Each P xs → Each Q xs
each-weaker P Q f [] e = tt
each-weaker P Q f (x ∷ xs) e = (f x e.0, each-weaker P Q f xs e.1)

each-map : {X Y : Type 0} (P : X → Type 0) (Q : Y → Type 0) (f : X → Y) → ((x : X) → P x → Q (f x)) → (xs : List X) → Each P xs → Each Q (map f xs)
each-map P Q f g [] e = tt
each-map P Q f g (x ∷ xs) e = (g x e.0, each-map P Q f g xs e.1)

pub each-push : {X : Type 0} (P : X → Type 0) (xs : List X) (x : X) → Each P xs → P x → Each P (xs ++ x ∷ [])
each-push P [] x h p = (p, tt)
each-push P (y ∷ xs) x h p = (h.0, each-push P xs x h.1 p)

pub each-append : {X : Type 0} (P : X → Type 0) (xs ys : List X) → Each P xs → Each P ys → Each P (xs ++ ys)
each-append P [] ys h k = k
each-append P (x ∷ xs) ys h k = (h.0, each-append P xs ys h.1 k)

passes-at : {X : Type 0} (p : X → Bool) (xs : List X) (i : ℕ) (d : X) → i < length xs → list_all p xs ≡ true → p (get_or xs i d) ≡ true
passes-at p [] i d h e = absurd (omega (arith, h))
passes-at p (x ∷ xs) zero d h e = (and_parts (p x) (list_all p xs) e).0
passes-at p (x ∷ xs) (suc i) d h e = passes-at p xs i d (omega (arith, h)) (and_parts (p x) (list_all p xs) e).1

-- ---- values of columns
typed-at : (columns : List TypedValues) (k : ℕ) (d : TypedValues) → AreTyped columns → k < length columns → AllFit (get_or columns k d).ty (get_or columns k d).values
typed-at [] k d t h = absurd (omega (arith, h))
typed-at (c ∷ cs) zero d t h = t.0
typed-at (c ∷ cs) (suc k) d t h = typed-at cs k d t.1 (omega (arith, h))

fitting-value : (ty : Ty) (vs : List Value) (row : ℕ) → AllFit ty vs → row < length vs → IsValue (ty_of ty) (value_of (get_or vs row Nil))
fitting-value ty vs row fit h =
    (fitting.value (ty_of ty) (value_of (get_or vs row Nil))).0 (passes-at (λ v. fits_value (ty_of ty) (value_of v)) vs row Nil h fit)

module _ (columns : List TypedValues) (to : ℕ) (typed : AreTyped columns) (within : All (λ c. to ≤ length c.values) columns) where
  column-value : (k row : ℕ) → k < length columns → row < to → IsValue (ty_of (column_at columns k).ty) (value_of (get_or (column_at columns k).values row Nil))
  column-value k row hk hr =
      fitting-value (column_at columns k).ty (column_at columns k).values row (typed-at columns k _ typed hk) (let l = within k (record { ty = rust.U8; values = [] }) hk in omega (arith, l, hr))

row-values : (columns : List TypedValues) (row : ℕ) → AreTyped columns → All (λ c. row < length c.values) columns → AreValues (map ty_of (map (λ c. c.ty) columns)) (map value_of (row_at columns row))
row-values [] row t w = tt
row-values (c ∷ cs) row t w = (fitting-value c.ty c.values row t.0 (w 0 c (omega arith)), row-values cs row t.1 (λ j d h. w (suc j) d (omega (arith, h))))

-- ---- rows
row-same : (columns : List TypedValues) (row : ℕ) → map value_of (row_at columns row) ≡ batch_row columns row
row-same [] row = refl
row-same (c ∷ cs) row = ap (λ l. value_of (get_or c.values row Nil) ∷ l) (row-same cs row)

abbrev pub rows_in : List TypedValues → ℕ → ℕ → List (List family.Value)
rows_in columns from n = map (map value_of) (rows_between columns from n)

rows-more : (columns : List TypedValues) (from n : ℕ) → rows_in columns from (suc n) ≡ rows_in columns from n ++ map value_of (row_at columns (from + n)) ∷ []
rows-more columns from n = map_push (map value_of) (rows_between columns from n) (row_at columns (from + n))

pub rows-fit : (columns : List TypedValues) (from to n : ℕ) → AreTyped columns → All (λ c. to ≤ length c.values) columns → from + n ≤ to → Each (AreValues (map ty_of (map (λ c. c.ty) columns))) (rows_in columns from n)
rows-fit columns from to zero t w h = tt
rows-fit columns from to (suc n) t w h =
    subst (Each (AreValues (map ty_of (map (λ c. c.ty) columns)))) (sym (rows-more columns from n))
    (each-push (AreValues (map ty_of (map (λ c. c.ty) columns))) (rows_in columns from n) (map value_of (row_at columns (from + n)))
    (rows-fit columns from to n t w (omega (arith, h)))
    (row-values columns (from + n) t (λ j d hj. let l = w j d hj in omega (arith, l, h))))

pub arguments-are : (columns : List TypedValues) (arguments : List ℕ) (from n : ℕ) → argument_rows columns arguments from n ≡ map (items_at arguments) (rows_in columns from n)
arguments-are columns arguments from zero = refl
arguments-are columns arguments from (suc n) =
    ap₂ (λ l r. l ++ items_at arguments r ∷ []) (arguments-are columns arguments from n) (sym (row-same columns (from + n)))
    ∙ sym (map_push (items_at arguments) (rows_in columns from n) (map value_of (row_at columns (from + n))))
    ∙ ap (map (items_at arguments)) (sym (rows-more columns from n))

key-same : (columns : List TypedValues) (keys : List ℕ) (row : ℕ) → Each (λ k. k < length columns) keys → key_tuple columns keys row ≡ items_at keys (batch_row columns row)
key-same columns [] row h = refl
key-same columns (k ∷ keys) row h =
    ap₂ ◌∷◌ (sym (get_or-map (λ c. value_of (get_or c.values row Nil)) columns k _ family.Nil h.0)) (key-same columns keys row h.1)

pub keys-are : (columns : List TypedValues) (keys : List ℕ) (from n : ℕ) → Each (λ k. k < length columns) keys → key_tuples columns keys from n ≡ map (items_at keys) (rows_in columns from n)
keys-are columns keys from zero h = refl
keys-are columns keys from (suc n) h =
    ap₂ (λ l r. l ++ r ∷ []) (keys-are columns keys from n h) (key-same columns keys (from + n) h ∙ ap (items_at keys) (sym (row-same columns (from + n))))
    ∙ sym (map_push (items_at keys) (rows_in columns from n) (map value_of (row_at columns (from + n))))
    ∙ ap (map (items_at keys)) (sym (rows-more columns from n))

-- ---- keys
pub keys-in : (types : List Ty) (keys : List ℕ) → Each (IsKeyOver (map ty_of types)) keys → All (λ k. k < length types) keys
keys-in types keys e = each-all (λ k. k < length types) keys (go keys e)
  where
    go : (ks : List ℕ) → Each (IsKeyOver (map ty_of types)) ks → Each (λ k. k < length types) ks
    go [] k = tt
    go (x ∷ xs) k = (subst (λ n. x < n) (length-map types ty_of) k.0.0, go xs k.1)

module _ (types : List Ty) where
  key-kind : (k : ℕ) → IsKeyOver (map ty_of types) k → is_number_or_text (ty_of (get_or types k rust.Str)) ≡ true
  key-kind k e = ap is_number_or_text (sym (get_or-map ty_of types k rust.Str terms.Str (subst (λ n. k < n) (length-map types ty_of) e.0))) ∙ e.1

  pub key-types : (keys : List ℕ) → Each (IsKeyOver (map ty_of types)) keys → AreKeyTypes (map (λ k. get_or types k rust.Str) keys)
  key-types keys e = each-map (IsKeyOver (map ty_of types)) (λ ty. is_number_or_text (ty_of ty) ≡ true) (λ k. get_or types k rust.Str) key-kind keys e

module _ (types : List Ty) (columns : List TypedValues) (types-are : map (λ c. c.ty) columns ≡ types) where
  long : length columns ≡ length types
  long = sym (length-map columns (λ c. c.ty)) ∙ ap length types-are

  pub keys-below : (keys : List ℕ) → Each (IsKeyOver (map ty_of types)) keys → Each (λ k. k < length columns) keys
  keys-below [] e = tt
  keys-below (k ∷ keys) e = (subst (λ n. k < n) (length-map types ty_of ∙ sym long) e.0.0, keys-below keys e.1)

  type-at : (k : ℕ) → k < length columns → get_or types k rust.Str ≡ (column_at columns k).ty
  type-at k h = ap (λ ts. get_or ts k rust.Str) (sym types-are) ∙ get_or-map (λ c. c.ty) columns k _ rust.Str h

  types-at : (keys : List ℕ) → Each (λ k. k < length columns) keys → map (λ k. get_or types k rust.Str) keys ≡ map (λ k. (column_at columns k).ty) keys
  types-at [] e = refl
  types-at (k ∷ keys) e = ap₂ ◌∷◌ (type-at k e.0) (types-at keys e.1)

  module _ (to : ℕ) (typed : AreTyped columns) (within : All (λ c. to ≤ length c.values) columns) where
    key-fits : (keys : List ℕ) (row : ℕ) → row < to → Each (λ k. k < length columns) keys → AreValues (map ty_of (map (λ k. get_or types k rust.Str) keys)) (key_tuple columns keys row)
    key-fits [] row h e = tt
    key-fits (k ∷ keys) row h e = (
      subst (λ t. IsValue (ty_of t) (value_of (get_or (column_at columns k).values row Nil))) (sym (type-at k e.0)) (column-value columns to typed within k row e.0 h),
      key-fits keys row h e.1,
    )

    pub key-columns : (keys : List ℕ) (from : ℕ) → Each (λ k. k < length columns) keys → AreKeyColumns (map (λ k. get_or types k rust.Str) keys) columns keys from to
    key-columns keys from e = record { types_are = types-at keys e; fit = λ row _ h. key-fits keys row h e }

-- ---- arguments
module _ (types : List terms.Ty) where
  few-columns : (call : GroupCall) → IsCallOver types (call_of call) → length call.columns ≤ 64
  few-columns call e =
      subst (λ n. n ≤ 64) (ap length e.2 ∙ length-map call.columns (λ i. get_or types i terms.Str)) (few-arguments (call_of call).chain (call_of call).types e.0.0)

  pub all-few : (calls : List GroupCall) → Each (IsCallOver types) (calls_of calls) → Each (λ c. length c.columns ≤ 64) calls
  all-few [] e = tt
  all-few (c ∷ cs) e = (few-columns c e.0, all-few cs e.1)

  pub all-below : (calls : List GroupCall) (n : ℕ) → length types ≡ n → Each (IsCallOver types) (calls_of calls) → Each (λ c. All (λ a. a < n) c.columns) calls
  all-below [] n l e = tt
  all-below (c ∷ cs) n l e = (each-all (λ a. a < n) c.columns (subst (λ m. Each (λ a. a < m) c.columns) l e.0.1), all-below cs n l e.1)
