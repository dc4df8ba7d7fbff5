-- What is written, piece by piece.
use Rattle.std.proofs.Common.{◌≡◌, ℕ, zero, suc, ◌+◌, ◌<◌, ◌≤◌, ℤ, Bool, true, false, ◌&&◌, ◌||◌, List, [], ◌∷◌, ◌++◌, map, length, take, get_or, codes, if◌then◌else◌, refl, sym, ap, subst, ◌∙◌, append_assoc, arith}
use Rattle.std.specs.List.{flat_map, list_all}
use Rattle.std.specs.Fmt.{signed_decimal}
use Rattle.std.proofs.lemmas.List.{append-nil, map-append, take_more}
use Rattle.std.proofs.lemmas.Bool.{and_parts}
use Rattle.std.proofs.lemmas.List.Folds.{list_all-map}
use Rattle.hex.specs.Hex.{encode_lower}
use Rattle.tsv_text.specs.Escapes.{escaped}
use Rattle.agg_terms.specs.Chains as terms
use Rattle.agg_terms.specs.Values as family
use Rattle.agg_terms.specs.Fitting.{fits_plain, fits_value, has_entries, has_items, is_nil}
use Rattle.agg_terms.proofs.Lists.{entries_back, values_back}
use Rattle.value_types.specs.declared.chain.Chain.{Chain}
use Rattle.value_types.specs.declared.ty.Ty.{Ty}
use Rattle.value_types.specs.declared.ty.Ty.TheVariants as ty
use Rattle.value_types.specs.declared.value.Value.{Value}
use Rattle.value_types.specs.declared.value.Tree.{Tree}
use Rattle.value_types.specs.declared.value.Value.TheVariants as value
use Rattle.value_types.specs.Folds.{chain_of, tree_of, ty_of, value_of}
use Rattle.value_types.proofs.FoldLaws.{ty_of-Str, ty_of-Arr, ty_of-Map, ty_of-Nullable, ty_of-State, value_of-Num, value_of-Bytes, value_of-List, value_of-Pairs, value_of-Cell}
use Rattle.tsv_values.specs.Writing.{WritesStates, array_text, cell_text, comma_before, commas, element_text, entries_of, entry_text, in_quotes, items_of, map_text, number_text, string_text}

-- ---- values by their kind

module _ (v : Value) where
  pub number_at : (z : ℤ) → v ≡ value.Num z → number_text (value_of v) ≡ signed_decimal z
  number_at z e = ap number_text (ap value_of e ∙ value_of-Num z)

  pub string_at : (bytes : List ℕ) → v ≡ value.Bytes bytes → string_text (value_of v) ≡ escaped bytes
  string_at bytes e = ap string_text (ap value_of e ∙ value_of-Bytes bytes)

  pub cell_at : (bytes : family.Tree → List ℕ) (t : Tree) → v ≡ value.Cell t → cell_text bytes (value_of v) ≡ encode_lower (bytes (tree_of t))
  cell_at bytes t e = ap (cell_text bytes) (ap value_of e ∙ value_of-Cell t)

  pub items_at : (xs : List Value) → v ≡ value.List xs → items_of (value_of v) ≡ map value_of xs
  items_at xs e = ap items_of (ap value_of e ∙ value_of-List xs) ∙ values_back (map value_of xs)

  pub entries_at : (xs : List (Value × Value)) → v ≡ value.Pairs xs → entries_of (value_of v) ≡ map (λ e. (value_of e.0, value_of e.1)) xs
  entries_at xs e = ap entries_of (ap value_of e ∙ value_of-Pairs xs) ∙ entries_back (map (λ e. (value_of e.0, value_of e.1)) xs)

pub ruleset text_laws = (number_at, string_at, cell_at, items_at, entries_at)

-- ---- a plain value is a value

pub each_so : {X : Type 0} (p q : X → Bool) → ((x : X) → p x ≡ true → q x ≡ true) → (xs : List X) → list_all p xs ≡ true → list_all q xs ≡ true
each_so p q f [] h = refl
each_so p q f (x ∷ xs) h = let both = and_parts (p x) (list_all p xs) h in rw (f x both.0) (each_so p q f xs both.1)

items_so : (p q : family.Value → Bool) → ((v : family.Value) → p v ≡ true → q v ≡ true) → (v : family.Value) → has_items (list_all p) v ≡ true → has_items (list_all q) v ≡ true
items_so p q f (family.Items vs) h = each_so p q f (family.values_list vs) h
items_so p q f v h = absurd cc

abbrev Pair : Type 0
Pair = family.Value × family.Value

entries_so : (p q : Pair → Bool) → ((e : Pair) → p e ≡ true → q e ≡ true) → (v : family.Value) → has_entries (list_all p) v ≡ true → has_entries (list_all q) v ≡ true
entries_so p q f (family.Pairs es) h = each_so p q f (family.entries_list es) h
entries_so p q f v h = absurd cc

either_so : (a b c : Bool) → (b ≡ true → c ≡ true) → (a || b) ≡ true → (a || c) ≡ true
either_so true b c f h = refl
either_so false b c f h = f h

pub plain_is_value : (t : terms.Ty) (v : family.Value) → fits_plain t v ≡ true → fits_value t v ≡ true
plain_is_value (terms.Whole n) v h = h
plain_is_value (terms.Signed w) v h = h
plain_is_value terms.Str v h = h
plain_is_value (terms.Arr t) v h = items_so (fits_plain t) (fits_value t) (plain_is_value t) v h
plain_is_value (terms.MapTy k t) v h =
    entries_so (λ e. fits_plain k e.0 && fits_plain t e.1) (λ e. fits_plain k e.0 && fits_value t e.1)
    (λ e both. let b = and_parts (fits_plain k e.0) (fits_plain t e.1) both in rw (b.0) (plain_is_value t e.1 b.1)) v h
plain_is_value (terms.Nullable t) v h = either_so (is_nil v) (fits_plain t v) (fits_value t v) (plain_is_value t v) h
plain_is_value (terms.StateOf c ts) v h = absurd cc

-- ---- what a value's parts are

module _ (t : Ty) (v : family.Value) where
  pub fits_Arr : (item : Ty) → t ≡ ty.Arr item → fits_value (ty_of t) v ≡ true → has_items (list_all (fits_value (ty_of item))) v ≡ true
  fits_Arr item e h = subst (λ u. fits_value u v ≡ true) (ap ty_of e ∙ ty_of-Arr item) h

  pub fits_Map : (key item : Ty) → t ≡ ty.Map key item → fits_value (ty_of t) v ≡ true → has_entries (list_all (λ e. fits_value (ty_of key) e.0 && fits_value (ty_of item) e.1)) v ≡ true
  fits_Map key item e h =
      entries_so (λ e. fits_plain (ty_of key) e.0 && fits_value (ty_of item) e.1) (λ e. fits_value (ty_of key) e.0 && fits_value (ty_of item) e.1)
      (λ e both. let b = and_parts (fits_plain (ty_of key) e.0) (fits_value (ty_of item) e.1) both in rw (plain_is_value (ty_of key) e.0 b.0, b.1) refl) v
      (subst (λ u. fits_value u v ≡ true) (ap ty_of e ∙ ty_of-Map key item) h)

  pub fits_Nullable : (of : Ty) → t ≡ ty.Nullable of → is_nil v ≡ false → fits_value (ty_of t) v ≡ true → fits_value (ty_of of) v ≡ true
  fits_Nullable of e filled h =
      let so : (is_nil v || fits_value (ty_of of) v) ≡ true = subst (λ u. fits_value u v ≡ true) (ap ty_of e ∙ ty_of-Nullable of) h in
      rw filled at so

pub items_fit : (test : family.Value → Bool) (v : Value) (xs : List Value) → v ≡ value.List xs → has_items (list_all test) (value_of v) ≡ true → list_all (λ x. test (value_of x)) xs ≡ true
items_fit test v xs e h =
    sym (ap (has_items (list_all test)) (ap value_of e ∙ value_of-List xs) ∙ ap (list_all test) (values_back (map value_of xs)) ∙ list_all-map test value_of xs) ∙ h

pub entries_fit : (test : Pair → Bool) (v : Value) (xs : List (Value × Value)) → v ≡ value.Pairs xs → has_entries (list_all test) (value_of v) ≡ true → list_all (λ x. test (value_of x.0, value_of x.1)) xs ≡ true
entries_fit test v xs e h =
    sym (ap (has_entries (list_all test)) (ap value_of e ∙ value_of-Pairs xs) ∙ ap (list_all test) (entries_back (map (λ (x : Value × Value). (value_of x.0, value_of x.1)) xs)) ∙ list_all-map test (λ (x : Value × Value). (value_of x.0, value_of x.1)) xs) ∙ h

-- ---- elements by the type's kind

module _ (writes : WritesStates) (t : Ty) (v : family.Value) where
  abbrev At : terms.Ty → List ℕ
  At u = element_text writes u v

  pub text_Str : t ≡ ty.Str → element_text writes (ty_of t) v ≡ in_quotes (string_text v)
  text_Str e = ap At (ap ty_of e ∙ ty_of-Str)

  pub text_State : (c : Chain) (ts : List Ty) → t ≡ ty.State c ts → element_text writes (ty_of t) v ≡ in_quotes (cell_text (writes (ty_of t)) v)
  text_State c ts e =
      let is : ty_of t ≡ terms.StateOf (chain_of c) (terms.tys (map ty_of ts)) = ap ty_of e ∙ ty_of-State c ts in
      ap At is ∙ ap (λ u. in_quotes (cell_text (writes u) v)) (sym is)

  pub text_null : (of : Ty) → t ≡ ty.Nullable of → is_nil v ≡ true → element_text writes (ty_of t) v ≡ codes "NULL"
  text_null of e null = ap At (ap ty_of e ∙ ty_of-Nullable of) ∙ ap (λ b. if b then codes "NULL" else element_text writes (ty_of of) v) null

  pub text_filled : (of : Ty) → t ≡ ty.Nullable of → is_nil v ≡ false → element_text writes (ty_of t) v ≡ element_text writes (ty_of of) v
  text_filled of e null = ap At (ap ty_of e ∙ ty_of-Nullable of) ∙ ap (λ b. if b then codes "NULL" else element_text writes (ty_of of) v) null

  pub text_Arr : (item : Ty) → t ≡ ty.Arr item → element_text writes (ty_of t) v ≡ array_text (element_text writes (ty_of item)) v
  text_Arr item e = ap At (ap ty_of e ∙ ty_of-Arr item)

  pub text_Map : (key item : Ty) → t ≡ ty.Map key item → element_text writes (ty_of t) v ≡ map_text (element_text writes (ty_of key)) (element_text writes (ty_of item)) v
  text_Map key item e = ap At (ap ty_of e ∙ ty_of-Map key item)

pub ruleset element_laws = (text_Str, text_State, text_null, text_filled, text_Arr, text_Map)

-- ---- commas

flat_snoc : (f : List ℕ → List ℕ) (xs : List (List ℕ)) (x : List ℕ) → flat_map f (xs ++ x ∷ []) ≡ flat_map f xs ++ f x
flat_snoc f [] x = append-nil (f x)
flat_snoc f (y ∷ ys) x = ap (λ t. f y ++ t) (flat_snoc f ys x) ∙ sym (append_assoc (f y) (flat_map f ys) (f x))

-- one part more behind others
pub commas_more : (xs : List (List ℕ)) (x : List ℕ) → 0 < length xs → commas (xs ++ x ∷ []) ≡ commas xs ++ (44 ∷ x)
commas_more [] x some = absurd (omega arith)
commas_more (y ∷ ys) x some = ap (λ t. y ++ t) (flat_snoc (λ y. 44 ∷ y) ys x) ∙ sym (append_assoc y (flat_map (λ y. 44 ∷ y) ys) (44 ∷ x))

some_taken : {X : Type 0} (f : X → List ℕ) (xs : List X) (i : ℕ) → suc i < length xs → 0 < length (map f (take (suc i) xs))
some_taken f [] i lt = absurd (omega arith)
some_taken f (y ∷ ys) i lt = omega arith

take_next : {X : Type 0} (xs : List X) (i : ℕ) (x : X) → i < length xs → x ≡ get_or xs i x → take (i + 1) xs ≡ take i xs ++ x ∷ []
take_next xs i x lt is = take_more xs i x lt ∙ ap (λ y. take i xs ++ y ∷ []) (sym is)

by_place : {X : Type 0} (f : X → List ℕ) (xs : List X) (x : X) (start : List ℕ) (i : ℕ) → i < length xs
    → ((start ++ commas (map f (take i xs))) ++ comma_before i) ++ f x ≡ start ++ commas (map f (take i xs) ++ f x ∷ [])
by_place f xs x start zero lt = simp append-nil
by_place f xs x start (suc i) lt =
    append_assoc (start ++ commas (map f (take (suc i) xs))) (44 ∷ []) (f x) ∙ append_assoc start (commas (map f (take (suc i) xs))) (44 ∷ f x)
    ∙ ap (λ t. start ++ t) (sym (commas_more (map f (take (suc i) xs)) (f x) (some_taken f xs i lt)))

-- what is written of the first i + 1 parts
pub parts_more : {X : Type 0} (f : X → List ℕ) (xs : List X) (i : ℕ) (x : X) (start before now : List ℕ) → i < length xs → x ≡ get_or xs i x
    → before ≡ start ++ commas (map f (take i xs)) → now ≡ (before ++ comma_before i) ++ f x → now ≡ start ++ commas (map f (take (i + 1) xs))
parts_more f xs i x start before now lt is so_far more =
    more ∙ ap (λ t. (t ++ comma_before i) ++ f x) so_far ∙ by_place f xs x start i lt
    ∙ ap (λ t. start ++ commas t) (sym (ap (map f) (take_next xs i x lt is) ∙ map-append f (take i xs) (x ∷ [])))

-- a key, a colon and a value behind what is written of the entries before
pub entry_more : (writes : WritesStates) (key item : Ty) (es : List (Value × Value)) (j : ℕ) (x : Value × Value) (start t0 t1 t2 t3 t4 : List ℕ) → j < length es → x ≡ get_or es j x
    → t0 ≡ start ++ commas (map (λ x. entry_text (element_text writes (ty_of key)) (element_text writes (ty_of item)) (value_of x.0, value_of x.1)) (take j es))
    → t1 ≡ t0 ++ comma_before j → t2 ≡ t1 ++ element_text writes (ty_of key) (value_of x.0) → t3 ≡ t2 ++ 58 ∷ [] → t4 ≡ t3 ++ element_text writes (ty_of item) (value_of x.1)
    → t4 ≡ start ++ commas (map (λ x. entry_text (element_text writes (ty_of key)) (element_text writes (ty_of item)) (value_of x.0, value_of x.1)) (take (j + 1) es))
entry_more writes key item es j x start t0 t1 t2 t3 t4 lt is e0 e1 e2 e3 e4 =
    let key_text : List ℕ = element_text writes (ty_of key) (value_of x.0) in
    let item_text : List ℕ = element_text writes (ty_of item) (value_of x.1) in
    let front : t2 ≡ (t0 ++ comma_before j) ++ key_text = e2 ∙ ap (λ t. t ++ key_text) e1 in
    let whole : t4 ≡ (((t0 ++ comma_before j) ++ key_text) ++ 58 ∷ []) ++ item_text = e4 ∙ ap (λ t. t ++ item_text) (e3 ∙ ap (λ t. t ++ 58 ∷ []) front) in
    parts_more (λ (y : Value × Value). entry_text (element_text writes (ty_of key)) (element_text writes (ty_of item)) (value_of y.0, value_of y.1)) es j x start t0 t4 lt is e0
    (whole ∙ append_assoc ((t0 ++ comma_before j) ++ key_text) (58 ∷ []) item_text ∙ append_assoc (t0 ++ comma_before j) key_text (58 ∷ item_text))

take_whole : {X : Type 0} (xs : List X) (i : ℕ) → length xs ≤ i → take i xs ≡ xs
take_whole [] zero le = refl
take_whole [] (suc i) le = refl
take_whole (x ∷ xs) zero le = absurd (omega arith)
take_whole (x ∷ xs) (suc i) le = ap (λ t. x ∷ t) (take_whole xs i (omega (arith, le)))

map_after : {X Y Z : Type 0} (g : Y → Z) (f : X → Y) (xs : List X) → map (λ x. g (f x)) xs ≡ map g (map f xs)
map_after g f [] = refl
map_after g f (x ∷ xs) = ap (λ ys. g (f x) ∷ ys) (map_after g f xs)

-- between an opening and a closing byte
closed : (start parts text now : List ℕ) (opening closing : ℕ) → text ≡ (start ++ opening ∷ []) ++ parts → now ≡ text ++ closing ∷ [] → now ≡ start ++ (opening ∷ (parts ++ closing ∷ []))
closed start parts text now opening closing e f =
    f ∙ ap (λ t. t ++ closing ∷ []) e ∙ append_assoc (start ++ opening ∷ []) parts (closing ∷ []) ∙ append_assoc start (opening ∷ []) (parts ++ closing ∷ [])

pub array_done : (writes : WritesStates) (t : Ty) (v : Value) (item : Ty) (items : List Value) (i : ℕ) (start text now : List ℕ) → t ≡ ty.Arr item → map value_of items ≡ items_of (value_of v) → length items ≤ i
    → text ≡ (start ++ 91 ∷ []) ++ commas (map (λ x. element_text writes (ty_of item) (value_of x)) (take i items)) → now ≡ text ++ 93 ∷ []
    → now ≡ start ++ element_text writes (ty_of t) (value_of v)
array_done writes t v item items i start text now e same le told end =
    let f : family.Value → List ℕ = element_text writes (ty_of item) in
    let all : map (λ x. f (value_of x)) (take i items) ≡ map f (items_of (value_of v)) = ap (map (λ x. f (value_of x))) (take_whole items i le) ∙ map_after f value_of items ∙ ap (map f) same in
    closed start (commas (map f (items_of (value_of v)))) text now 91 93 (told ∙ ap (λ ps. (start ++ 91 ∷ []) ++ commas ps) all) end
    ∙ ap (λ t. start ++ t) (sym (text_Arr writes t (value_of v) item e))

pub map_done : (writes : WritesStates) (t : Ty) (v : Value) (key item : Ty) (es : List (Value × Value)) (i : ℕ) (start text now : List ℕ) → t ≡ ty.Map key item
    → map (λ x. (value_of x.0, value_of x.1)) es ≡ entries_of (value_of v) → length es ≤ i
    → text ≡ (start ++ 123 ∷ []) ++ commas (map (λ x. entry_text (element_text writes (ty_of key)) (element_text writes (ty_of item)) (value_of x.0, value_of x.1)) (take i es)) → now ≡ text ++ 125 ∷ []
    → now ≡ start ++ element_text writes (ty_of t) (value_of v)
map_done writes t v key item es i start text now e same le told end =
    let f : Pair → List ℕ = entry_text (element_text writes (ty_of key)) (element_text writes (ty_of item)) in
    let all : map (λ x. f (value_of x.0, value_of x.1)) (take i es) ≡ map f (entries_of (value_of v)) =
    ap (map (λ x. f (value_of x.0, value_of x.1))) (take_whole es i le) ∙ map_after f (λ (x : Value × Value). (value_of x.0, value_of x.1)) es ∙ ap (map f) same in
    closed start (commas (map f (entries_of (value_of v)))) text now 123 125 (told ∙ ap (λ ps. (start ++ 123 ∷ []) ++ commas ps) all) end
    ∙ ap (λ t. start ++ t) (sym (text_Map writes t (value_of v) key item e))
