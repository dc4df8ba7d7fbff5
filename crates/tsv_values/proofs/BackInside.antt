-- Elements of arrays and maps are read back as they were written.
use Rattle.std.proofs.Common.{◌≡◌, ℕ, ℤ, Bool, true, false, ◌&&◌, List, [], ◌∷◌, ◌++◌, map, append_assoc, Some, Result, Ok, refl, sym, ap, ◌∙◌, arith, inl, inr, eqb}
use Rattle.std.specs.List.{flat_map, list_all}
use Rattle.std.specs.Fmt.{signed_decimal}
use Rattle.std.proofs.lemmas.Bool.{and_parts}
use Rattle.std.proofs.lemmas.Bool.Decides.{nat_tests}
use Rattle.hex.specs.Hex.{encode_lower}
use Rattle.agg_terms.specs.Chains as terms
use Rattle.agg_terms.specs.Values as family
use Rattle.agg_terms.specs.Lists.{Each}
use Rattle.agg_terms.specs.Fitting.{fits_bits, fits_plain, fits_value, fits_width}
use Rattle.tsv_text.specs.Escapes.{plain, pieces_then, pieces_bytes, escaped, escaped_byte, is_escaped, IsUnescaped}
use Rattle.field_texts.specs.Syntax.{AllFitInQuotes, Token, closed_text}
use Rattle.scalar_texts.specs.Answer.{state_answer}
use Rattle.scalar_texts.specs.Hex.{is_lower_hex}
use Rattle.scalar_texts.specs.Numbers.{number_value}
use Rattle.scalar_texts.specs.States.{ReadsStates}
use Rattle.scalar_texts.specs.declared.fault.FieldFault.{FieldFault}
use Rattle.tsv_values.specs.Elements.{ElementSays, EntrySays, MoreSay, OpenedSay, Quotes, Said, Spaced, all_of, onto, ranged}
use Rattle.tsv_values.specs.proving.Reading.{behind_quote}
use Rattle.tsv_values.specs.ReadBack.{EachState, HasWidth, IsReadBack}
use Rattle.tsv_values.specs.Writing.{WritesStates, commas, element_text, entry_text, in_quotes}
use Rattle.tsv_values.proofs.Closing.{inside-append, pieces_fit}
use Rattle.tsv_values.proofs.ReadBack.{NumberBack, as_bytes, hex_back, hex_well, signed_back, whole_back}
use Rattle.tsv_values.proofs.Texts.{plain_is_value}

-- ---- texts in quotes

plain_escaped : (b : ℕ) → is_escaped b ≡ false → (eqb b 39 ≡ false) × (eqb b 92 ≡ false)
plain_escaped b e = (grind (arith, nat_tests, e), grind (arith, nat_tests, e))

escaped_step : (t : Bool) (b : ℕ) (u : List ℕ) → is_escaped b ≡ t → behind_quote false (escaped_byte b ++ u) ≡ behind_quote false u
escaped_step true b u e = rw e refl
escaped_step false b u e = let p = plain_escaped b e in rw (e, p.0, p.1) refl

escaped_behind : (bytes rest : List ℕ) → behind_quote false (escaped bytes ++ 39 ∷ rest) ≡ Some rest
escaped_behind [] rest = refl
escaped_behind (b ∷ bytes) rest =
    ap (behind_quote false) (append_assoc (escaped_byte b) (escaped bytes) (39 ∷ rest)) ∙ escaped_step (is_escaped b) b (escaped bytes ++ 39 ∷ rest) refl ∙ escaped_behind bytes rest

quoted_back : ((bytes : List ℕ) → IsUnescaped (escaped bytes) (Ok bytes)) → (bytes : List ℕ) → Quotes bytes (in_quotes (escaped bytes))
quoted_back round_trip bytes =
    let u = round_trip bytes in
    let text : escaped bytes ++ 39 ∷ [] ≡ pieces_then u.0 (39 ∷ []) = ap (λ t. t ++ 39 ∷ []) u.2 ∙ inside-append u.0 [] in
    (u.0, pieces_fit u.0 [] u.1 (ap (behind_quote false) (sym text) ∙ escaped_behind bytes []), ap (λ t. 39 ∷ t) text, u.3)

lower_plain : (b : ℕ) → is_lower_hex b ≡ true → (b ≡ 39 → ⊥) × (b ≡ 92 → ⊥)
lower_plain b h = (λ e. absurd (no_quote b h e), λ e. absurd (no_slash b h e))
  where
    no_quote : (b : ℕ) → is_lower_hex b ≡ true → b ≡ 39 → ⊥
    no_quote b h e = grind (arith, nat_tests, h, e)

    no_slash : (b : ℕ) → is_lower_hex b ≡ true → b ≡ 92 → ⊥
    no_slash b h e = grind (arith, nat_tests, h, e)

hex_quoted : (hex : List ℕ) → list_all is_lower_hex hex ≡ true → AllFitInQuotes (map plain hex) × (hex ++ 39 ∷ [] ≡ closed_text (map plain hex)) × (hex ≡ pieces_bytes (map plain hex))
hex_quoted [] h = (tt, refl, refl)
hex_quoted (b ∷ hex) h =
    let p = and_parts (is_lower_hex b) (list_all is_lower_hex hex) h in
    let r = hex_quoted hex p.1 in
    ((lower_plain b p.0, r.0), ap (λ t. b ∷ t) r.1, ap (λ t. b ∷ t) r.2)

-- ---- lists

token_back : (b : ℕ) → Token b (b ∷ [])
token_back b = record { front = []; rest = b ∷ []; first = tt; second = refl; whole = refl }

pub spaced_back : {A : Type 0} (says : A → List ℕ → Type 0) (x : A) (text : List ℕ) → says x text → Spaced says x text
spaced_back says x text h = record { front = []; rest = text; first = tt; second = h; whole = refl }

module _ {X : Type 0} (says : Result X FieldFault → List ℕ → Type 0) (closing : ℕ) (write : X → List ℕ) where
  more_back : (xs : List X) → Each (λ x. says (Ok x) (write x)) xs → MoreSay says closing (map Ok xs) (flat_map (λ y. 44 ∷ y) (map write xs) ++ closing ∷ [])
  more_back [] h = token_back closing
  more_back (x ∷ xs) h =
      let rest = flat_map (λ y. 44 ∷ y) (map write xs) ++ closing ∷ [] in
      record {
        front = 44 ∷ [];
        rest = write x ++ rest;
        first = token_back 44;
        second = record { front = write x; rest = rest; first = spaced_back says (Ok x) (write x) h.0; second = more_back xs h.1; whole = refl };
        whole = ap (λ t. 44 ∷ t) (append_assoc (write x) (flat_map (λ y. 44 ∷ y) (map write xs)) (closing ∷ []));
      }

  opened_back : (xs : List X) → Each (λ x. says (Ok x) (write x)) xs → OpenedSay says closing (map Ok xs) (commas (map write xs) ++ closing ∷ [])
  opened_back [] h = token_back closing
  opened_back (x ∷ xs) h =
      record {
        front = write x;
        rest = flat_map (λ y. 44 ∷ y) (map write xs) ++ closing ∷ [];
        first = spaced_back says (Ok x) (write x) h.0;
        second = more_back xs h.1;
        whole = append_assoc (write x) (flat_map (λ y. 44 ∷ y) (map write xs)) (closing ∷ []);
      }

-- what fits and holds of each element gives what is told of each
each_back : {X : Type 0} (fits : X → Bool) (Holds Told : X → Type 0) → ((x : X) → fits x ≡ true → Holds x → Told x) → (xs : List X) → list_all fits xs ≡ true → Each Holds xs → Each Told xs
each_back fits Holds Told back [] h each = tt
each_back fits Holds Told back (x ∷ xs) h each = let p = and_parts (fits x) (list_all fits xs) h in (back x p.0 each.0, each_back fits Holds Told back xs p.1 each.1)

all_ok : {X : Type 0} (xs : List X) → Ok xs ≡ all_of (map Ok xs)
all_ok [] = refl
all_ok (x ∷ xs) = ap (onto x) (all_ok xs)

values_again : (vs : family.Values) → family.values (family.values_list vs) ≡ vs
values_again family.no_values = refl
values_again (family.a_value v vs) = ap (family.a_value v) (values_again vs)

entries_again : (es : family.Entries) → family.entries (family.entries_list es) ≡ es
entries_again family.no_entries = refl
entries_again (family.an_entry k v es) = ap (family.an_entry k v) (entries_again es)

number_back : (fits : ℤ → Bool) (z : ℤ) → NumberBack z → fits z ≡ true → (let s : Said = Ok (family.Num z) in s) ≡ ranged fits (number_value (signed_decimal z))
number_back fits z back h = sym (rw (back.value, h) refl)

module _ (reads : ReadsStates) (writes : WritesStates) (round_trip : (bytes : List ℕ) → IsUnescaped (escaped bytes) (Ok bytes)) where
  abbrev States : terms.Ty → family.Value → Type 0
  States = EachState (IsReadBack reads writes)

  state_back : (t : terms.Ty) (tree : family.Tree) → IsReadBack reads writes t tree → (bytes : List ℕ) × Quotes bytes (in_quotes (encode_lower (writes t tree))) × ((let s : Said = Ok (family.Cell tree) in s) ≡ state_answer reads t bytes)
  state_back t tree state =
      let bytes = as_bytes (writes t tree) state.bytes in
      let hex = hex_back (writes t tree) bytes in
      let q = hex_quoted (encode_lower (writes t tree)) hex.1 in
      (encode_lower (writes t tree), (map plain (encode_lower (writes t tree)), q.0, ap (λ t. 39 ∷ t) q.1, q.2), sym (rw (hex_well (writes t tree) bytes, hex.0, state.same) refl))

  pub element_back : (t : terms.Ty) → HasWidth t → (v : family.Value) → fits_value t v ≡ true → States t v → ElementSays reads t (Ok v) (element_text writes t v)
  element_back (terms.Whole n) w (family.Num z) h states = let b = whole_back n z w h in (b.number, number_back (fits_bits n) z b h)
  element_back (terms.Whole n) w v h states = absurd cc
  element_back (terms.Signed w) le (family.Num z) h states = let b = signed_back w z le h in (b.number, number_back (fits_width w) z b h)
  element_back (terms.Signed w) le v h states = absurd cc
  element_back terms.Str w (family.Bytes bytes) h states = (bytes, quoted_back round_trip bytes, refl)
  element_back terms.Str w v h states = absurd cc
  element_back (terms.StateOf c ts) w (family.Cell tree) h states = state_back (terms.StateOf c ts) tree states
  element_back (terms.StateOf c ts) w v h states = absurd cc
  element_back (terms.Nullable t) w family.Nil h states = inr (refl, refl)
  element_back (terms.Nullable t) w (family.Num z) h states = inl (element_back t w (family.Num z) h states)
  element_back (terms.Nullable t) w (family.Bytes b) h states = inl (element_back t w (family.Bytes b) h states)
  element_back (terms.Nullable t) w (family.Items vs) h states = inl (element_back t w (family.Items vs) h states)
  element_back (terms.Nullable t) w (family.Pairs es) h states = inl (element_back t w (family.Pairs es) h states)
  element_back (terms.Nullable t) w (family.Cell tree) h states = inl (element_back t w (family.Cell tree) h states)
  element_back (terms.Arr t) w (family.Items vs) h states =
      let xs = family.values_list vs in
      (refl, (Ok xs, (map Ok xs, opened_back (ElementSays reads t) 93 (element_text writes t) xs (each_back (fits_value t) (States t) (λ v. ElementSays reads t (Ok v) (element_text writes t v)) (element_back t w) xs h states), all_ok xs), ap (λ us. Ok (family.Items us)) (sym (values_again vs))))
  element_back (terms.Arr t) w v h states = absurd cc
  element_back (terms.MapTy k t) w (family.Pairs es) h states =
      let xs = family.entries_list es in
      let key = element_back k w.0 in
      let item = element_back t w.1 in
      let fits : family.Value × family.Value → Bool = λ e. fits_plain k e.0 && fits_value t e.1 in (
        refl,
        (
          Ok xs,
          (
            map Ok xs,
            opened_back (EntrySays (ElementSays reads k) (ElementSays reads t)) 125 (entry_text (element_text writes k) (element_text writes t)) xs
                (each_back fits (λ e. States k e.0 × States t e.1) (λ e. EntrySays (ElementSays reads k) (ElementSays reads t) (Ok e) (entry_text (element_text writes k) (element_text writes t) e))
                (λ e both of.
                let b = and_parts (fits_plain k e.0) (fits_value t e.1) both in (
                  Ok e.0,
                  Ok e.1,
                  record {
                    front = element_text writes k e.0;
                    rest = 58 ∷ element_text writes t e.1;
                    first = key e.0 (plain_is_value k e.0 b.0) of.0;
                    second = record { front = 58 ∷ []; rest = element_text writes t e.1; first = token_back 58; second = spaced_back (ElementSays reads t) (Ok e.1) (element_text writes t e.1) (item e.1 b.1 of.1); whole = refl };
                    whole = refl;
                  },
                  refl,
                )) xs h states),
            all_ok xs,
          ),
          ap (λ us. Ok (family.Pairs us)) (sym (entries_again es)),
        ),
      )
  element_back (terms.MapTy k t) w v h states = absurd cc
