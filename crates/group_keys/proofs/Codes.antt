-- That a kind's code for a tuple is another tuple's only where the tuples are the same.
use Rattle.std.proofs.Common.{◌≡◌, ℕ, ◌/◌, Bool, true, false, cond, nat_eq, nat_le, List, [], ◌∷◌, length, map, refl, ap, ap₂, sym, ◌∙◌, subst, arith}
use Rattle.std.specs.Cmp.{Equal-is}
use Rattle.std.specs.Cmp.Lexicographic.{bytes_decides, nat_list_eq_equiv}
use Rattle.std.specs.Int.{byte_len}
use Rattle.std.specs.List.{list_all}
use Rattle.std.specs.Prelude.{if◌then◌else◌, ◌==◌}
use Rattle.std.proofs.lemmas.Bool.{and_parts, eqb-true, eq-eqb}
use Rattle.std.proofs.lemmas.List.{length-append}
use Rattle.std.proofs.lemmas.List.Sums.{sum_by-cons}
use Rattle.agg_terms.specs.Chains as terms
use Rattle.agg_terms.specs.Order.{compare_rows}
use Rattle.agg_terms.specs.Trees.{IsValue}
use Rattle.agg_terms.specs.Values.{Value}
use Rattle.agg_terms.proofs.Comparing.{rows_order}
use Rattle.agg_meaning.specs.Feeds.{AreValues}
use Rattle.value_types.specs.Folds.{ty_of}
use Rattle.value_types.specs.declared.ty.Ty.{Ty}
use Rattle.key_methods.specs.declared.kind.KeyKind.{KeyKind}
use Rattle.key_methods.specs.declared.kind.KeyKind.TheVariants.{NoKey, Key8, Key16, Key32, Key64, KeyString, Packed128, Serialized}
use Rattle.key_methods.specs.declared.key.Key.TheVariants.{Small, Wide}
use Rattle.key_methods.specs.Figures.{worth}
use Rattle.key_methods.specs.KeyBytes.{AreShort, IsShort, bytes_by, value_bytes, values_bytes, word_of}
use Rattle.key_methods.specs.Keys.{key_by, key_with}
use Rattle.key_methods.specs.Kinds.{AreKeyTypes, fit_in, is_plain_number, kind_of, number_kind, total_width, width_of}
use Rattle.key_methods.specs.Tuples.{IsTuple}
use Rattle.key_methods.proofs.Figures.{length-bytes}
use Rattle.key_methods.proofs.SideBySide.{number_bytes}
use Rattle.key_methods.proofs.SmallKinds.{fits_Key8, fits_Key16, fits_Key32, fits_Key64}
use Rattle.key_methods.proofs.Undone.{keys_are_one_to_one}
use Rattle.table_words.specs.Tables.{same_tuple}
use Rattle.table_words.proofs.Fed.{tuples}
use Rattle.group_keys.specs.proving.Texts.{same_bytes}
use Rattle.group_keys.specs.Kinds.{is_one_number}
use Rattle.group_keys.proofs.KeyLists.{codes-agree}

-- ---- equality
pub same-is : (a b : List Value) → same_tuple a b ≡ true → a ≡ b
same-is a b e = rows_order.same a b ((Equal-is (compare_rows a b)).0 e)

bytes-is : (a b : List ℕ) → same_bytes a b ≡ true → a ≡ b
bytes-is a b e = (bytes_decides a b).0 e

-- ---- kinds
pub choice : (z : KeyKind) (b : Bool) (x y : KeyKind) → (x ≡ z → ⊥) → (y ≡ z → ⊥) → cond b x y ≡ z → ⊥
choice z true x y f g e = f e
choice z false x y f g e = g e

-- a kind of one number is none but these
pub no-number : (z : KeyKind) (width : ℕ) → (Key8 ≡ z → ⊥) → (Key16 ≡ z → ⊥) → (Key32 ≡ z → ⊥) → (Key64 ≡ z → ⊥) → number_kind width ≡ z → ⊥
no-number z width a b c d e =
    choice z (width == 1) Key8 (if width == 2 then Key16 else if width == 4 then Key32 else Key64) a
    (choice z (width == 2) Key16 (if width == 4 then Key32 else Key64) b (choice z (width == 4) Key32 Key64 c d)) e

-- a kind whose keys are one number
abbrev pub is_word : KeyKind → Bool
is_word Packed128 = true
is_word kind = is_one_number kind

several : (ts : List terms.Ty) (b : Bool) → fit_in 16 ts ≡ b → is_word (if b then Packed128 else Serialized) ≡ true → fit_in 16 ts ≡ true
several ts true e h = e
several ts false e h = absurd cc

pub plain-word : (ts : List terms.Ty) → is_word (kind_of ts) ≡ true → list_all is_plain_number ts ≡ true
plain-word [] h = absurd cc
plain-word (terms.Whole n ∷ []) h = refl
plain-word (terms.Signed w ∷ []) h = refl
plain-word (terms.Str ∷ []) h = absurd cc
plain-word (terms.Arr t ∷ []) h = absurd cc
plain-word (terms.MapTy k t ∷ []) h = absurd cc
plain-word (terms.Nullable t ∷ []) h = absurd cc
plain-word (terms.StateOf k us ∷ []) h = absurd cc
plain-word (t ∷ u ∷ ts) h =
    (and_parts (list_all is_plain_number (t ∷ u ∷ ts)) (nat_le (total_width (t ∷ u ∷ ts)) 16) (several (t ∷ u ∷ ts) (fit_in 16 (t ∷ u ∷ ts)) refl h)).0

pub one-word : (kind : KeyKind) → is_one_number kind ≡ true → is_word kind ≡ true
one-word NoKey h = absurd cc
one-word Key8 h = refl
one-word Key16 h = refl
one-word Key32 h = refl
one-word Key64 h = refl
one-word KeyString h = absurd cc
one-word Packed128 h = absurd cc
one-word Serialized h = absurd cc

not_one : (b : Bool) → is_one_number (if b then Packed128 else Serialized) ≡ true → ⊥
not_one true h = absurd cc
not_one false h = absurd cc

pub lone : (ts : List terms.Ty) → is_one_number (kind_of ts) ≡ true → length ts ≡ 1
lone [] h = absurd cc
lone (t ∷ []) h = refl
lone (t ∷ u ∷ ts) h = absurd (not_one (fit_in 16 (t ∷ u ∷ ts)) h)

-- ---- numbers
pub length-plain : (ts : List terms.Ty) (vs : List Value) → list_all is_plain_number ts ≡ true → AreValues ts vs → length (values_bytes ts vs) ≡ total_width ts
length-plain [] [] h f = refl
length-plain [] (v ∷ vs) h f = absurd f
length-plain (t ∷ ts) [] h f = absurd f
length-plain (t ∷ ts) (v ∷ vs) h f =
    let parts = and_parts (is_plain_number t) (list_all is_plain_number ts) h in
    omega (arith, length-append (value_bytes t v) (values_bytes ts vs), ap length (number_bytes t v parts.0), length-bytes (width_of t) (word_of t v), length-plain ts vs parts.1 f.1, sum_by-cons width_of t ts)

short-number : (t : terms.Ty) (v : Value) → is_plain_number t ≡ true → IsValue t v → IsShort v
short-number (terms.Whole n) v h p = subst IsShort (sym p.1) tt
short-number (terms.Signed w) v h p = subst IsShort (sym p.1) tt
short-number terms.Str v h p = absurd cc
short-number (terms.Arr t) v h p = absurd cc
short-number (terms.MapTy k t) v h p = absurd cc
short-number (terms.Nullable t) v h p = absurd cc
short-number (terms.StateOf k us) v h p = absurd cc

pub short-numbers : (ts : List terms.Ty) (vs : List Value) → list_all is_plain_number ts ≡ true → AreValues ts vs → AreShort vs
short-numbers [] [] h f = tt
short-numbers [] (v ∷ vs) h f = absurd f
short-numbers (t ∷ ts) [] h f = absurd f
short-numbers (t ∷ ts) (v ∷ vs) h f =
    let parts = and_parts (is_plain_number t) (list_all is_plain_number ts) h in
    (short-number t v parts.0 f.0, short-numbers ts vs parts.1 f.1)

-- ---- once
word-keys : (kind : KeyKind) (ts : List terms.Ty) (vs ws : List Value) → is_word kind ≡ true → worth (values_bytes ts vs) ≡ worth (values_bytes ts ws) →
    length (values_bytes ts vs) ≡ length (values_bytes ts ws) → key_by kind ts vs ≡ key_by kind ts ws
word-keys NoKey ts vs ws h e l = absurd cc
word-keys Key8 ts vs ws h e l = ap₂ Small e l
word-keys Key16 ts vs ws h e l = ap₂ Small e l
word-keys Key32 ts vs ws h e l = ap₂ Small e l
word-keys Key64 ts vs ws h e l = ap₂ Small e l
word-keys KeyString ts vs ws h e l = absurd cc
word-keys Packed128 ts vs ws h e l = ap₂ Wide e l
word-keys Serialized ts vs ws h e l = absurd cc

module _ (types : List Ty) (columns : AreKeyTypes types) where
  pub words-agree : is_word (kind_of (map ty_of types)) ≡ true → (vs ws : List Value) → IsTuple types vs → IsTuple types ws →
      nat_eq (worth (values_bytes (map ty_of types) vs)) (worth (values_bytes (map ty_of types) ws)) ≡ same_tuple vs ws
  words-agree word =
      codes-agree (λ vs. worth (values_bytes (map ty_of types) vs)) same_tuple nat_eq (IsTuple types) same-is tuples.refl (λ a b e. eqb-true a b e) (λ a. eq-eqb a a refl)
      (λ vs ws a b e.
      let plain = plain-word (map ty_of types) word in
      keys_are_one_to_one types vs ws columns a b
      (word-keys (kind_of (map ty_of types)) (map ty_of types) vs ws word e
      (length-plain (map ty_of types) vs plain a.fits ∙ sym (length-plain (map ty_of types) ws plain b.fits))))

  pub texts-agree : (vs ws : List Value) → IsTuple types vs → IsTuple types ws →
      same_bytes (bytes_by (kind_of (map ty_of types)) (map ty_of types) vs) (bytes_by (kind_of (map ty_of types)) (map ty_of types) ws) ≡ same_tuple vs ws
  texts-agree =
      codes-agree (bytes_by (kind_of (map ty_of types)) (map ty_of types)) same_tuple same_bytes (IsTuple types) same-is tuples.refl bytes-is nat_list_eq_equiv.refl
      (λ vs ws a b e. keys_are_one_to_one types vs ws columns a b (ap (key_with (kind_of (map ty_of types))) e))

  pub fits-one : is_one_number (kind_of (map ty_of types)) ≡ true → fit_in 8 (map ty_of types) ≡ true
  fits-one h = by (kind_of (map ty_of types)) refl h
    where
      by : (k : KeyKind) → k ≡ kind_of (map ty_of types) → is_one_number k ≡ true → fit_in 8 (map ty_of types) ≡ true
      by NoKey e h = absurd cc
      by Key8 e h = fits_Key8 Key8 types e columns refl
      by Key16 e h = fits_Key16 Key16 types e columns refl
      by Key32 e h = fits_Key32 Key32 types e columns refl
      by Key64 e h = fits_Key64 Key64 types e columns refl
      by KeyString e h = absurd cc
      by Packed128 e h = absurd cc
      by Serialized e h = absurd cc

pub fits-several : (ts : List terms.Ty) → kind_of ts ≡ Packed128 → fit_in 16 ts ≡ true
fits-several ts h = by ts (ap is_word h) h
  where
    by : (ts : List terms.Ty) → is_word (kind_of ts) ≡ true → kind_of ts ≡ Packed128 → fit_in 16 ts ≡ true
    by [] w h = absurd cc
    by (terms.Whole n ∷ []) w h = absurd (no-number Packed128 (n / 8) (λ e. absurd cc) (λ e. absurd cc) (λ e. absurd cc) (λ e. absurd cc) h)
    by (terms.Signed s ∷ []) w h = absurd (no-number Packed128 (byte_len s) (λ e. absurd cc) (λ e. absurd cc) (λ e. absurd cc) (λ e. absurd cc) h)
    by (terms.Str ∷ []) w h = absurd cc
    by (terms.Arr t ∷ []) w h = absurd cc
    by (terms.MapTy k t ∷ []) w h = absurd cc
    by (terms.Nullable t ∷ []) w h = absurd cc
    by (terms.StateOf k us ∷ []) w h = absurd cc
    by (t ∷ u ∷ ts) w h = several (t ∷ u ∷ ts) (fit_in 16 (t ∷ u ∷ ts)) refl w
