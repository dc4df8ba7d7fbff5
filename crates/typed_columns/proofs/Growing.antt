-- What fits a type, by the type's kind, and what is added to stores that stand side by side.
use Rattle.std.proofs.Common.{◌≡◌, ℕ, suc, zero, ◌+◌, ◌<◌, ℤ, pos, negsuc, Bool, true, false, ◌&&◌, ◌||◌, List, [], ◌∷◌, ◌++◌, length, map, get_or, take, ◌^◌, nat_lt, refl, ap, ap₂, sym, ◌∙◌, arith, leb}
use Rattle.std.proofs.lemmas.List.{append-nil}
use Rattle.std.specs.Prelude.{int_le, ◌≤ℤ◌}
use Rattle.std.specs.List.{list_all, zip}
use Rattle.std.proofs.lemmas.Float.{T_from_true}
use Rattle.std.specs.Int.Signed.{le_z_yes}
use Rattle.agg_terms.specs.Chains as terms
use Rattle.agg_terms.specs.Values as family
use Rattle.agg_terms.specs.Fitting.{fits_plain, fits_value, has_bytes, has_cell, has_entries, has_items, has_number, is_nil, is_tree, is_between}
use Rattle.agg_terms.proofs.Deciding.{no}
use Rattle.std.proofs.lemmas.List.Folds.{list_all-map}
use Rattle.agg_terms.proofs.Lists.{entries_back, values_back}
use Rattle.value_types.specs.Folds.{chain_of, ty_of, value_of}
use Rattle.value_types.specs.declared.chain.Chain.{Chain}
use Rattle.value_types.specs.declared.ty.Ty.{Ty}
use Rattle.value_types.specs.declared.ty.Ty.TheVariants as ty
use Rattle.value_types.specs.declared.value.Value.{Value}
use Rattle.value_types.specs.declared.value.Value.TheVariants as value
use Rattle.value_types.specs.declared.value.Tree.TheVariants as tree
use Rattle.value_types.proofs.FoldLaws.{ty_of-Arr, ty_of-I16, ty_of-I32, ty_of-I64, ty_of-I8, ty_of-Map, ty_of-Nullable, ty_of-State, ty_of-Str, ty_of-U16, ty_of-U32, ty_of-U64, ty_of-U8, value_of-Bytes, value_of-List, value_of-Num, value_of-Pairs}
use Rattle.column_parts.specs.declared.number_type.NumberType.{NumberType}
use Rattle.column_parts.specs.declared.number_type.NumberType.TheVariants as number
use Rattle.column_parts.specs.NumberLists.{IsOf, greatest, least}
use Rattle.column_parts.specs.Cuts.{cuts, IsCut}
use Rattle.column_parts.proofs.Cuts.{cuts_push, push_mapped}
use Rattle.std.proofs.Common.{Box, Global, Vec}
use Rattle.column_parts.specs.declared.texts.Texts.{Texts}
use Rattle.typed_columns.specs.declared.column.Column.{Column}
use Rattle.typed_columns.specs.declared.column.Kind.{Kind}
use Rattle.typed_columns.specs.declared.column.Kind.TheVariants as kind
use Rattle.typed_columns.specs.Views.{number_ty, view_of}
use Rattle.std.proofs.Common.{subst}
use Rattle.typed_columns.specs.TypedValues.{TypedValues}
use Rattle.typed_columns.proofs.Entries.{length-entries}
use Rattle.typed_columns.specs.Growth.{AllFit, EntriesFit, Fits, KeysFit, blank, with_value}

-- tests of both and of each
first : (a b : Bool) → (a && b) ≡ true → a ≡ true
first true b h = refl
first false b h = h

second : (a b : Bool) → (a && b) ≡ true → b ≡ true
second true b h = h
second false b h = no h

all_more : {X : Type 0} (p q : X → Bool) → ((x : X) → p x ≡ true → q x ≡ true) → (xs : List X) → list_all p xs ≡ true → list_all q xs ≡ true
all_more p q f [] h = refl
all_more p q f (x ∷ xs) h = ap₂ ◌&&◌ (f x (first (p x) (list_all p xs) h)) (all_more p q f xs (second (p x) (list_all p xs) h))

pub all_at : {X : Type 0} (p : X → Bool) (xs : List X) (i : ℕ) (x : X) → i < length xs → x ≡ get_or xs i x → list_all p xs ≡ true → p x ≡ true
all_at p [] i x l is h = absurd (omega arith)
all_at p (y ∷ ys) zero x l is h = ap p is ∙ first (p y) (list_all p ys) h
all_at p (y ∷ ys) (suc i) x l is h = all_at p ys i x (omega arith) is (second (p y) (list_all p ys) h)

-- numbers is_between their bounds
int_le-true : (a b : ℤ) → int_le a b ≡ true → a ≤ℤ b
int_le-true (pos a) (pos b) h = le_z_yes (T_from_true (leb a b) h)
int_le-true (pos a) (negsuc b) h = no h
int_le-true (negsuc a) (pos b) h = le_z_yes tt
int_le-true (negsuc a) (negsuc b) h = le_z_yes (T_from_true (leb b a) h)

between : (low high z : ℤ) → is_between low high z ≡ true → (low ≤ℤ z) × (z ≤ℤ high)
between low high z h = (int_le-true low z (first (int_le low z) (int_le z high) h), int_le-true z high (second (int_le low z) (int_le z high) h))

-- a value that passes some test of its form has the form
is_number : (test : ℤ → Bool) (v : family.Value) → has_number test v ≡ true → has_number (λ _. true) v ≡ true
is_number test (family.Num z) h = refl
is_number test v h = h

is_text : (test : List ℕ → Bool) (v : family.Value) → has_bytes test v ≡ true → has_bytes (λ _. true) v ≡ true
is_text test (family.Bytes bytes) h = refl
is_text test v h = h

is_list : (test : List family.Value → Bool) (v : family.Value) → has_items test v ≡ true → has_items (λ _. true) v ≡ true
is_list test (family.Items vs) h = refl
is_list test v h = h

is_map : (test : List (family.Value × family.Value) → Bool) (v : family.Value) → has_entries test v ≡ true → has_entries (λ _. true) v ≡ true
is_map test (family.Pairs es) h = refl
is_map test v h = h

is_cell : (test : family.Tree → Bool) (v : family.Value) → has_cell test v ≡ true → has_cell (λ _. true) v ≡ true
is_cell test (family.Cell t) h = refl
is_cell test v h = h

-- a value of a number type, as the test of its bounds
pub in_bounds : (k : NumberType) (v : family.Value) → fits_value (ty_of (number_ty k)) v ≡ has_number (is_between (least k) (greatest k)) v
in_bounds number.U8 v = ap (λ t. fits_value t v) ty_of-U8
in_bounds number.U16 v = ap (λ t. fits_value t v) ty_of-U16
in_bounds number.U32 v = ap (λ t. fits_value t v) ty_of-U32
in_bounds number.U64 v = ap (λ t. fits_value t v) ty_of-U64
in_bounds number.I8 v = ap (λ t. fits_value t v) ty_of-I8
in_bounds number.I16 v = ap (λ t. fits_value t v) ty_of-I16
in_bounds number.I32 v = ap (λ t. fits_value t v) ty_of-I32
in_bounds number.I64 v = ap (λ t. fits_value t v) ty_of-I64

-- what fits a type that is the column's
module _ (here : Ty) (v : Value) where
  moved : (t : Ty) → here ≡ t → Fits here v → Fits t v
  moved t is h = ap (λ u. fits_value (ty_of u) (value_of v)) (sym is) ∙ h

  bounded : (k : NumberType) → here ≡ number_ty k → Fits here v → has_number (is_between (least k) (greatest k)) (value_of v) ≡ true
  bounded k is h = sym (in_bounds k (value_of v)) ∙ moved (number_ty k) is h

  pub number_form : (k : NumberType) → here ≡ number_ty k → Fits here v → has_number (λ _. true) (value_of v) ≡ true
  number_form k is h = is_number (is_between (least k) (greatest k)) (value_of v) (bounded k is h)

  pub number_bounds : (k : NumberType) (z : ℤ) → here ≡ number_ty k → Fits here v → v ≡ value.Num z → IsOf k z
  number_bounds k z is h same =
      between (least k) (greatest k) z (sym (ap (has_number (is_between (least k) (greatest k))) (ap value_of same ∙ value_of-Num z)) ∙ bounded k is h)

  pub text_form : here ≡ ty.Str → Fits here v → has_bytes (λ _. true) (value_of v) ≡ true
  text_form is h = is_text (list_all (λ b. nat_lt b (2 ^ 8))) (value_of v) (sym (ap (λ t. fits_value t (value_of v)) ty_of-Str) ∙ moved ty.Str is h)

  listed : (item : Ty) → here ≡ ty.Arr item → Fits here v → has_items (list_all (fits_value (ty_of item))) (value_of v) ≡ true
  listed item is h = sym (ap (λ t. fits_value t (value_of v)) (ty_of-Arr item)) ∙ moved (ty.Arr item) is h

  pub list_form : (item : Ty) → here ≡ ty.Arr item → Fits here v → has_items (λ _. true) (value_of v) ≡ true
  list_form item is h = is_list (list_all (fits_value (ty_of item))) (value_of v) (listed item is h)

  mapped : (key item : Ty) → here ≡ ty.Map key item → Fits here v → has_entries (list_all (λ e. fits_plain (ty_of key) e.0 && fits_value (ty_of item) e.1)) (value_of v) ≡ true
  mapped key item is h = sym (ap (λ t. fits_value t (value_of v)) (ty_of-Map key item)) ∙ moved (ty.Map key item) is h

  pub map_form : (key item : Ty) → here ≡ ty.Map key item → Fits here v → has_entries (λ _. true) (value_of v) ≡ true
  map_form key item is h = is_map (list_all (λ e. fits_plain (ty_of key) e.0 && fits_value (ty_of item) e.1)) (value_of v) (mapped key item is h)

  pub cell_form : (c : Chain) (ts : List Ty) → here ≡ ty.State c ts → Fits here v → has_cell (λ _. true) (value_of v) ≡ true
  cell_form c ts is h = is_cell (is_tree (chain_of c) (terms.tys_list (terms.tys (map ty_of ts)))) (value_of v) (sym (ap (λ t. fits_value t (value_of v)) (ty_of-State c ts)) ∙ moved (ty.State c ts) is h)

-- what fits as a value without a state, fits
plain_fits : (t : terms.Ty) (v : family.Value) → fits_plain t v ≡ true → fits_value t v ≡ true
plain_fits (terms.Whole n) v h = h
plain_fits (terms.Signed w) v h = h
plain_fits terms.Str v h = h
plain_fits (terms.Arr t) (family.Items vs) h = all_more (fits_plain t) (fits_value t) (plain_fits t) (family.values_list vs) h
plain_fits (terms.Arr t) v h = h
plain_fits (terms.MapTy k t) (family.Pairs es) h =
    all_more (λ e. fits_plain k e.0 && fits_plain t e.1) (λ e. fits_plain k e.0 && fits_value t e.1)
    (let f = plain_fits t in λ e b. ap₂ ◌&&◌ (first (fits_plain k e.0) (fits_plain t e.1) b) (f e.1 (second (fits_plain k e.0) (fits_plain t e.1) b))) (family.entries_list es) h
plain_fits (terms.MapTy k t) v h = h
plain_fits (terms.Nullable t) v h = either (is_nil v) (fits_plain t v) (fits_value t v) (plain_fits t v) h
  where
    either : (a b c : Bool) → (b ≡ true → c ≡ true) → (a || b) ≡ true → (a || c) ≡ true
    either true b c f h = refl
    either false b c f h = f h
plain_fits (terms.StateOf c ts) v h = no h

-- the tests of a value's parts at the code's own lists
items_at : (test : family.Value → Bool) (v : Value) (xs : List Value) → v ≡ value.List xs →
    has_items (list_all test) (value_of v) ≡ list_all (λ x. test (value_of x)) xs
items_at test v xs e = ap (has_items (list_all test)) (ap value_of e ∙ value_of-List xs) ∙ ap (list_all test) (values_back (map value_of xs)) ∙ list_all-map test value_of xs

entries_at : (test : family.Value × family.Value → Bool) (v : Value) (es : List (Value × Value)) → v ≡ value.Pairs es →
    has_entries (list_all test) (value_of v) ≡ list_all (λ e. test (value_of e.0, value_of e.1)) es
entries_at test v es e =
    ap (has_entries (list_all test)) (ap value_of e ∙ value_of-Pairs es)
    ∙ ap (list_all test) (entries_back (map (λ e. (value_of e.0, value_of e.1)) es))
    ∙ list_all-map test (λ e. (value_of e.0, value_of e.1)) es

module _ (here : Ty) (v : Value) where
  pub list_fits : (item : Ty) (xs : List Value) → here ≡ ty.Arr item → Fits here v → v ≡ value.List xs → AllFit item xs
  list_fits item xs is h same = sym (items_at (fits_value (ty_of item)) v xs same) ∙ listed here v item is h

  pub keys_fit : (key item : Ty) (es : List (Value × Value)) → here ≡ ty.Map key item → Fits here v → v ≡ value.Pairs es → KeysFit key es
  keys_fit key item es is h same =
      all_more (λ e. fits_plain (ty_of key) (value_of e.0) && fits_value (ty_of item) (value_of e.1)) (λ e. fits_value (ty_of key) (value_of e.0))
      (λ e b. plain_fits (ty_of key) (value_of e.0) (first (fits_plain (ty_of key) (value_of e.0)) (fits_value (ty_of item) (value_of e.1)) b)) es
      (sym (entries_at (λ e. fits_plain (ty_of key) e.0 && fits_value (ty_of item) e.1) v es same) ∙ mapped here v key item is h)

  pub entries_fit : (key item : Ty) (es : List (Value × Value)) → here ≡ ty.Map key item → Fits here v → v ≡ value.Pairs es → EntriesFit item es
  entries_fit key item es is h same =
      all_more (λ e. fits_plain (ty_of key) (value_of e.0) && fits_value (ty_of item) (value_of e.1)) (λ e. fits_value (ty_of item) (value_of e.1))
      (λ e b. second (fits_plain (ty_of key) (value_of e.0)) (fits_value (ty_of item) (value_of e.1)) b) es
      (sym (entries_at (λ e. fits_plain (ty_of key) e.0 && fits_value (ty_of item) e.1) v es same) ∙ mapped here v key item is h)

  nullable : (of : Ty) → here ≡ ty.Nullable of → Fits here v → (is_nil (value_of v) || fits_value (ty_of of) (value_of v)) ≡ true
  nullable of is h = sym (ap (λ t. fits_value t (value_of v)) (ty_of-Nullable of)) ∙ moved here v (ty.Nullable of) is h

  pub filled_fits : (of : Ty) → here ≡ ty.Nullable of → is_nil (value_of v) ≡ false → Fits here v → Fits of v
  filled_fits of is e h = ap (λ b. b || fits_value (ty_of of) (value_of v)) (sym e) ∙ nullable of is h

-- what stands in the place of NULL, by the type's kind
pub blank-number : (k : NumberType) → blank (ty_of (number_ty k)) ≡ value.Num (pos 0)
blank-number number.U8 = ap blank ty_of-U8
blank-number number.U16 = ap blank ty_of-U16
blank-number number.U32 = ap blank ty_of-U32
blank-number number.U64 = ap blank ty_of-U64
blank-number number.I8 = ap blank ty_of-I8
blank-number number.I16 = ap blank ty_of-I16
blank-number number.I32 = ap blank ty_of-I32
blank-number number.I64 = ap blank ty_of-I64

pub blank-Str : blank (ty_of ty.Str) ≡ value.Bytes []
blank-Str = ap blank ty_of-Str

pub blank-Nullable : (of : Ty) → blank (ty_of (ty.Nullable of)) ≡ value.Nil
blank-Nullable of = ap blank (ty_of-Nullable of)

pub blank-Arr : (item : Ty) → blank (ty_of (ty.Arr item)) ≡ value.List []
blank-Arr item = ap blank (ty_of-Arr item)

pub blank-Map : (key item : Ty) → blank (ty_of (ty.Map key item)) ≡ value.Pairs []
blank-Map key item = ap blank (ty_of-Map key item)

pub blank-State : (c : Chain) (ts : List Ty) → blank (ty_of (ty.State c ts)) ≡ value.Cell tree.Empty
blank-State c ts = ap blank (ty_of-State c ts)

pub cuts_none : {A : Type 0} (at : List ℕ) (xs : List A) (e : ℕ) → IsCut at (length xs) → e ≡ length xs → cuts (at ++ e ∷ []) xs ≡ cuts at xs ++ [] ∷ []
cuts_none at xs e h is = ap (cuts (at ++ e ∷ [])) (sym (append-nil xs)) ∙ cuts_push at xs [] e h (omega (arith, is))

pub ruleset blank_laws = (blank-number, blank-Str, blank-Nullable, blank-Arr, blank-Map, blank-State)

-- keys beside values
pub zip-append : {K V : Type 0} (ks : List K) (vs : List V) (ls : List K) (ws : List V) → length ks ≡ length vs → zip (ks ++ ls) (vs ++ ws) ≡ zip ks vs ++ zip ls ws
zip-append [] [] ls ws same = refl
zip-append [] (v ∷ vs) ls ws same = absurd (omega arith)
zip-append (k ∷ ks) [] ls ws same = absurd (omega arith)
zip-append (k ∷ ks) (v ∷ vs) ls ws same = ap (λ es. (k, v) ∷ es) (zip-append ks vs ls ws (omega arith))

pub zip-parts : {K V : Type 0} (es : List (K × V)) → zip (map (λ (e : K × V). e.0) es) (map (λ (e : K × V). e.1) es) ≡ es
zip-parts [] = refl
zip-parts (e ∷ es) = ap (λ rest. e ∷ rest) (zip-parts es)

pub zip-take : {K V : Type 0} (n : ℕ) (ks : List K) (vs : List V) → zip (take n ks) (take n vs) ≡ take n (zip ks vs)
zip-take zero ks vs = refl
zip-take (suc n) [] vs = refl
zip-take (suc n) (k ∷ ks) [] = refl
zip-take (suc n) (k ∷ ks) (v ∷ vs) = ap (λ es. (k, v) ∷ es) (zip-take n ks vs)

pub none_pushed : {A B : Type 0} (f : List A → B) (at : List ℕ) (xs : List A) (e : ℕ) → IsCut at (length xs) → e ≡ length xs →
    map f (cuts (at ++ e ∷ []) xs) ≡ map f (cuts at xs) ++ f [] ∷ []
none_pushed f at xs e h is = push_mapped f (cuts at xs) (cuts (at ++ e ∷ []) xs) [] (cuts_none at xs e h is)

-- a column with a value more in the place of NULL
pub blank_added : (old self : TypedValues) (b : Value) (values : List Value) → old ≡ self → blank (ty_of old.ty) ≡ b → values ≡ old.values ++ b ∷ [] →
    record { ty = old.ty; values = values } ≡ with_value self (blank (ty_of self.ty))
blank_added old self b values same is more =
    (λ i. record { ty = old.ty; values = (more ∙ ap (λ x. old.values ++ x ∷ []) (sym is)) i }) ∙ ap (λ v. with_value v (blank (ty_of v.ty))) same

-- maps with one map more
pub maps_push : {K V : Type 0} (at : List ℕ) (ks : List K) (vs : List V) (more : List (K × V)) (e : ℕ) → IsCut at (length ks) → length ks ≡ length vs →
    e ≡ length ks + length more →
    cuts (at ++ e ∷ []) (zip (ks ++ map (λ (x : K × V). x.0) more) (vs ++ map (λ (x : K × V). x.1) more)) ≡ cuts at (zip ks vs) ++ more ∷ []
maps_push at ks vs more e cut same end =
    ap (cuts (at ++ e ∷ [])) (zip-append ks vs (map (λ x. x.0) more) (map (λ x. x.1) more) same ∙ ap (λ es. zip ks vs ++ es) (zip-parts more))
    ∙ cuts_push at (zip ks vs) more e (subst (IsCut at) (sym (length-entries ks vs same)) cut) (omega (arith, end, length-entries ks vs same))

-- a text fits no column but one of texts, or one that may hold NULL
pub only_texts : (k : Kind) (t : List ℕ) → Fits (view_of k).ty (value.Bytes t) → ((x : Texts) → k ≡ kind.Texts x → ⊥) →
    ((m : Vec Bool Global) (of : Box Column Global) → k ≡ kind.Nullable m of → ⊥) → ⊥
only_texts (kind.Texts x) t h f g = f x refl
only_texts (kind.Nullable m of) t h f g = g m of refl
only_texts (kind.Numbers n) t h f g =
    no (sym (ap (has_number (λ _. true)) (value_of-Bytes t)) ∙ number_form (number_ty n.kind) (value.Bytes t) n.kind refl h)
only_texts (kind.Lists starts xs) t h f g =
    no (sym (ap (has_items (λ _. true)) (value_of-Bytes t)) ∙ list_form (ty.Arr xs.value.ty) (value.Bytes t) xs.value.ty refl h)
only_texts (kind.Maps starts ks vs) t h f g =
    no (sym (ap (has_entries (λ _. true)) (value_of-Bytes t)) ∙ map_form (ty.Map ks.value.ty vs.value.ty) (value.Bytes t) ks.value.ty vs.value.ty refl h)
only_texts (kind.Cells c ts trees) t h f g =
    no (sym (ap (has_cell (λ _. true)) (value_of-Bytes t)) ∙ cell_form (ty.State c ts) (value.Bytes t) c ts refl h)

pub text_is_some : (t : List ℕ) → is_nil (value_of (value.Bytes t)) ≡ false
text_is_some t = ap is_nil (value_of-Bytes t)
