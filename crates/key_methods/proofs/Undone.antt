-- A key stands for one tuple.
use Rattle.std.proofs.Common.{◌≡◌, ℕ, ◌/◌, ◌≤◌, ◌&&◌, Bool, true, false, List, [], ◌∷◌, ◌++◌, length, map, nat_le, refl, sym, ap, ap₂, subst, ◌∙◌, arith}
use Rattle.std.specs.Prelude.{if◌then◌else◌, ◌==◌, IfOk, Result, Ok, Err}
use Rattle.std.specs.List.{list_all}
use Rattle.std.specs.Int.{byte_len, bytes_high_first}
use Rattle.std.proofs.lemmas.List.{length-append}
use Rattle.std.proofs.lemmas.List.Sums.{sum_by-cons}
use Rattle.std.proofs.lemmas.Bool.{and_parts}
use Rattle.agg_terms.specs.Chains as terms
use Rattle.agg_terms.specs.Lists.{Each}
use Rattle.agg_terms.specs.Trees.{IsValue}
use Rattle.agg_terms.specs.Values.{Value, Bytes, is_null}
use Rattle.agg_meaning.specs.Feeds.{AreValues}
use Rattle.value_types.specs.Folds.{ty_of}
use Rattle.value_types.specs.declared.ty.Ty.{Ty}
use Rattle.key_methods.specs.declared.kind.KeyKind.{KeyKind}
use Rattle.key_methods.specs.declared.kind.KeyKind.TheVariants.{NoKey, Key8, Key16, Key32, Key64, KeyString, Packed128, Serialized}
use Rattle.key_methods.specs.declared.key.Key.{Key}
use Rattle.key_methods.specs.proving.Fronts.{values_by, values_front}
use Rattle.key_methods.specs.KeyBytes.{AreShort, bytes_by, flagged, only_text, text_bytes, text_of, value_bytes, values_bytes, word_of}
use Rattle.key_methods.specs.Keys.{IsKey, bytes_of, key_of, key_with}
use Rattle.key_methods.specs.Kinds.{AreKeyTypes, fit_in, is_plain_number, kind_of, number_kind, total_width, width_of}
use Rattle.key_methods.specs.Laws.{KeysAreOneToOne, KeysHaveTheBytes}
use Rattle.key_methods.specs.Tuples.{IsKeyOf, IsTuple, Undoes}
use Rattle.key_methods.proofs.Columns.{IsColumn, are_columns}
use Rattle.key_methods.proofs.Figures.{AreBytes, all_bytes, bytes-worth, length-bytes}
use Rattle.key_methods.proofs.Fronts.{not_null, values_back}
use Rattle.key_methods.proofs.SideBySide.{number_bytes}

-- ---- by the kind of key

abbrev is_text : KeyKind → Bool
is_text KeyString = true
is_text _ = false

number_no_text : (k : ℕ) → is_text (number_kind k) ≡ false
number_no_text k = by (k == 1) (k == 2) (k == 4)
  where
    by : (a b c : Bool) → is_text (if a then Key8 else if b then Key16 else if c then Key32 else Key64) ≡ false
    by true b c = refl
    by false true c = refl
    by false false true = refl
    by false false false = refl

several_no_text : (b : Bool) → is_text (if b then Packed128 else Serialized) ≡ false
several_no_text true = refl
several_no_text false = refl

-- only a String alone is its own key
by_kind : (ts : List terms.Ty) → Each IsColumn ts → (P : KeyKind → Type 0) → ((k : KeyKind) → is_text k ≡ false → P k) → (ts ≡ terms.Str ∷ [] → P KeyString) → P (kind_of ts)
by_kind [] c P other text = other NoKey refl
by_kind (terms.Whole n ∷ []) c P other text = other (number_kind (n / 8)) (number_no_text (n / 8))
by_kind (terms.Signed w ∷ []) c P other text = other (number_kind (byte_len w)) (number_no_text (byte_len w))
by_kind (terms.Str ∷ []) c P other text = text refl
by_kind (terms.Arr t ∷ []) c P other text = other Serialized refl
by_kind (terms.MapTy k t ∷ []) c P other text = other Serialized refl
by_kind (terms.Nullable t ∷ []) c P other text = other Serialized refl
by_kind (terms.StateOf k us ∷ []) c P other text = other Serialized refl
by_kind (t ∷ u ∷ ts) c P other text = other (if fit_in 16 (t ∷ u ∷ ts) then Packed128 else Serialized) (several_no_text (fit_in 16 (t ∷ u ∷ ts)))

all_values : (k : KeyKind) (ts : List terms.Ty) (vs : List Value) → is_text k ≡ false → bytes_by k ts vs ≡ values_bytes ts vs
all_values NoKey ts vs e = refl
all_values Key8 ts vs e = refl
all_values Key16 ts vs e = refl
all_values Key32 ts vs e = refl
all_values Key64 ts vs e = refl
all_values KeyString ts vs e = absurd cc
all_values Packed128 ts vs e = refl
all_values Serialized ts vs e = refl

all_fronts : (k : KeyKind) (ts : List terms.Ty) (bytes : List ℕ) → is_text k ≡ false → values_by k ts bytes ≡ values_front ts bytes
all_fronts NoKey ts bytes e = refl
all_fronts Key8 ts bytes e = refl
all_fronts Key16 ts bytes e = refl
all_fronts Key32 ts bytes e = refl
all_fronts Key64 ts bytes e = refl
all_fronts KeyString ts bytes e = absurd cc
all_fronts Packed128 ts bytes e = refl
all_fronts Serialized ts bytes e = refl

-- ---- a tuple's bytes

each_append : (xs ys : List ℕ) → AreBytes xs → AreBytes ys → AreBytes (xs ++ ys)
each_append [] ys a b = b
each_append (x ∷ xs) ys a b = (a.0, each_append xs ys a.1 b)

flag_bytes : (b : Bool) (bytes : List ℕ) → (b ≡ false → AreBytes bytes) → AreBytes (flagged b bytes)
flag_bytes true bytes h = (omega arith, tt)
flag_bytes false bytes h = (omega arith, h refl)

value_all : (t : terms.Ty) (v : Value) → IsColumn t → IsValue t v → AreBytes (value_bytes t v)
value_all (terms.Whole n) v c p = all_bytes (n / 8) (word_of (terms.Whole n) v)
value_all (terms.Signed w) v c p = all_bytes (byte_len w) (word_of (terms.Signed w) v)
value_all terms.Str v c p =
    subst (λ u. AreBytes (text_bytes (text_of u))) (sym p.1) (each_append (bytes_high_first 8 (length p.0)) p.0 (all_bytes 8 (length p.0)) p.2)
value_all (terms.Nullable t) v c p = flag_bytes (is_null v) (value_bytes t v) (λ e. value_all t v c (not_null t v e p))
value_all (terms.Arr t) v c p = absurd c
value_all (terms.MapTy k t) v c p = absurd c
value_all (terms.StateOf k ts) v c p = absurd c

values_all : (ts : List terms.Ty) (vs : List Value) → Each IsColumn ts → AreValues ts vs → AreBytes (values_bytes ts vs)
values_all [] vs c p = tt
values_all (t ∷ ts) [] c p = tt
values_all (t ∷ ts) (v ∷ vs) c p = each_append (value_bytes t v) (values_bytes ts vs) (value_all t v c.0 p.0) (values_all ts vs c.1 p.1)

text_all : (vs : List Value) → AreValues (terms.Str ∷ []) vs → AreBytes (only_text vs)
text_all [] p = absurd p
text_all (v ∷ vs) p = subst (λ u. AreBytes (text_of u)) (sym p.0.1) p.0.2

text_back : (vs : List Value) → AreValues (terms.Str ∷ []) vs → Bytes (only_text vs) ∷ [] ≡ vs
text_back [] p = absurd p
text_back (v ∷ []) p = ap (λ u. Bytes (text_of u) ∷ []) p.0.1 ∙ ap (λ u. u ∷ []) (sym p.0.1)
text_back (v ∷ w ∷ vs) p = absurd p.1

module _ (ts : List terms.Ty) (vs : List Value) (columns : Each IsColumn ts) (fits : AreValues ts vs) where
  key_all : AreBytes (bytes_by (kind_of ts) ts vs)
  key_all = by_kind ts columns (λ k. AreBytes (bytes_by k ts vs))
      (λ k other. subst AreBytes (sym (all_values k ts vs other)) (values_all ts vs columns fits))
      (λ text. text_all vs (subst (λ us. AreValues us vs) text fits))

  key_back : AreShort vs → values_by (kind_of ts) ts (bytes_by (kind_of ts) ts vs) ≡ vs
  key_back short = by_kind ts columns (λ k. values_by k ts (bytes_by k ts vs) ≡ vs)
      (λ k other. all_fronts k ts (bytes_by k ts vs) other ∙ ap (values_front ts) (all_values k ts vs other) ∙ values_back ts vs columns fits short)
      (λ text. text_back vs (subst (λ us. AreValues us vs) text fits))

with_bytes : (k : KeyKind) (bytes : List ℕ) → AreBytes bytes → bytes_of (key_with k bytes) ≡ bytes
with_bytes NoKey bytes all = bytes-worth bytes all
with_bytes Key8 bytes all = bytes-worth bytes all
with_bytes Key16 bytes all = bytes-worth bytes all
with_bytes Key32 bytes all = bytes-worth bytes all
with_bytes Key64 bytes all = bytes-worth bytes all
with_bytes KeyString bytes all = refl
with_bytes Packed128 bytes all = bytes-worth bytes all
with_bytes Serialized bytes all = refl

pub keys_have_the_bytes : KeysHaveTheBytes
keys_have_the_bytes types vs columns tuple =
    with_bytes (kind_of (map ty_of types)) (bytes_by (kind_of (map ty_of types)) (map ty_of types) vs) (key_all (map ty_of types) vs (are_columns types columns) tuple.fits)

read_back : (types : List Ty) (vs : List Value) → AreKeyTypes types → IsTuple types vs → values_by (kind_of (map ty_of types)) (map ty_of types) (bytes_of (key_of (map ty_of types) vs)) ≡ vs
read_back types vs columns tuple =
    ap (values_by (kind_of (map ty_of types)) (map ty_of types)) (keys_have_the_bytes types vs columns tuple)
    ∙ key_back (map ty_of types) vs (are_columns types columns) tuple.fits tuple.short

pub keys_are_one_to_one : KeysAreOneToOne
keys_are_one_to_one types vs ws columns a b e =
    sym (read_back types vs columns a) ∙ ap (λ k. values_by (kind_of (map ty_of types)) (map ty_of types) (bytes_of k)) e ∙ read_back types ws columns b

-- what is read of a key is its tuple
pub undone : (types : List Ty) (key : Key) (kind : KeyKind) (values : List Value) → AreKeyTypes types → kind ≡ kind_of (map ty_of types)
    → values ≡ values_by kind (map ty_of types) (bytes_of key) → Undoes types key values
undone types key kind values columns is read vs of =
    read ∙ ap₂ (λ k b. values_by k (map ty_of types) (bytes_of b)) is of.key_is ∙ read_back types vs columns of.tuple

-- ---- a key's word has as many bytes as it says

length_values : (ts : List terms.Ty) (vs : List Value) → list_all is_plain_number ts ≡ true → length (values_bytes ts vs) ≤ total_width ts
length_values [] vs h = omega arith
length_values (t ∷ ts) [] h = omega arith
length_values (t ∷ ts) (v ∷ vs) h =
    let parts = and_parts (is_plain_number t) (list_all is_plain_number ts) h in
    omega (arith, length-append (value_bytes t v) (values_bytes ts vs), ap length (number_bytes t v parts.0), length-bytes (width_of t) (word_of t v), length_values ts vs parts.1, sum_by-cons width_of t ts)

small_formed : (k : ℕ) (bytes : List ℕ) → length bytes ≤ 8 → IsKey (key_with (number_kind k) bytes)
small_formed k bytes h = by (k == 1) (k == 2) (k == 4)
  where
    by : (a b c : Bool) → IsKey (key_with (if a then Key8 else if b then Key16 else if c then Key32 else Key64) bytes)
    by true b c = h
    by false true c = h
    by false false true = h
    by false false false = h

wide_formed : (b : Bool) (bytes : List ℕ) → (b ≡ true → length bytes ≤ 16) → IsKey (key_with (if b then Packed128 else Serialized) bytes)
wide_formed true bytes h = h refl
wide_formed false bytes h = tt

one_short : (t : terms.Ty) (vs : List Value) → is_plain_number t ≡ true → width_of t ≤ 8 → length (values_bytes (t ∷ []) vs) ≤ 8
one_short t vs plain h = omega (arith, length_values (t ∷ []) vs (ap (λ b. b && true) plain), sum_by-cons width_of t [], h)

several_short : (ts : List terms.Ty) (vs : List Value) → fit_in 16 ts ≡ true → length (values_bytes ts vs) ≤ 16
several_short ts vs h =
    let parts = and_parts (list_all is_plain_number ts) (nat_le (total_width ts) 16) h in
    let l = length_values ts vs parts.0 in
    let most : total_width ts ≤ 16 = let m = parts.1 in grind arith in
    omega (arith, l, most)

number_formed : (t : terms.Ty) (k : ℕ) (vs : List Value) → is_plain_number t ≡ true → width_of t ≤ 8 → IsKey (key_with (number_kind k) (bytes_by (number_kind k) (t ∷ []) vs))
number_formed t k vs plain h = small_formed k (bytes_by (number_kind k) (t ∷ []) vs)
    (subst (λ bs. length bs ≤ 8) (sym (all_values (number_kind k) (t ∷ []) vs (number_no_text k))) (one_short t vs plain h))

key_formed : (ts : List terms.Ty) (vs : List Value) → Each IsColumn ts → IsKey (key_of ts vs)
key_formed [] vs c = omega arith
key_formed (terms.Whole n ∷ []) vs c = number_formed (terms.Whole n) (n / 8) vs refl c.0.1
key_formed (terms.Signed w ∷ []) vs c = number_formed (terms.Signed w) (byte_len w) vs refl c.0
key_formed (terms.Str ∷ []) vs c = tt
key_formed (terms.Arr t ∷ []) vs c = tt
key_formed (terms.MapTy k t ∷ []) vs c = tt
key_formed (terms.Nullable t ∷ []) vs c = tt
key_formed (terms.StateOf k us ∷ []) vs c = tt
key_formed (t ∷ u ∷ ts) vs c =
    let all = t ∷ u ∷ ts in
    wide_formed (fit_in 16 all) (bytes_by (if fit_in 16 all then Packed128 else Serialized) all vs)
    (λ e. subst (λ bs. length bs ≤ 16) (sym (all_values (if fit_in 16 all then Packed128 else Serialized) all vs (several_no_text (fit_in 16 all)))) (several_short all vs e))

pub formed : (types : List Ty) (vs : List Value) (key : Key) → AreKeyTypes types → IsKeyOf types vs key → IsKey key
formed types vs key columns of = subst IsKey (sym of.key_is) (key_formed (map ty_of types) vs (are_columns types columns))

pub ok_as : {X E : Type 0} (r : Result X E) (P Q : X → Type 0) → ((x : X) → P x → Q x) → IfOk r P → IfOk r Q
ok_as (Ok x) P Q f p = f x p
ok_as (Err e) P Q f p = p
