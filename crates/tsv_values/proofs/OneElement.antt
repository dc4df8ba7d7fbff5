-- What stands at the front of a text says one thing, and ends at one place.
use Rattle.std.proofs.Common.{◌≡◌, ℕ, ℤ, Bool, false, List, [], ◌∷◌, ◌++◌, codes, Some, Result, Ok, refl, sym, ap, subst, ◌∙◌, inl, inr}
use Rattle.std.proofs.lemmas.List.{append_cancel_right}
use Rattle.agg_terms.specs.Chains.{Ty, Whole, Signed, Str, Arr, MapTy, Nullable, StateOf}
use Rattle.agg_terms.specs.Fitting.{fits_bits, fits_width}
use Rattle.agg_terms.specs.Values as family
use Rattle.tsv_text.specs.Escapes.{IsUnescaped, pieces_then}
use Rattle.scalar_texts.specs.Answer.{state_answer}
use Rattle.scalar_texts.specs.Numbers.{number_value}
use Rattle.scalar_texts.specs.States.{ReadsStates}
use Rattle.scalar_texts.specs.declared.fault.FieldFault.{FieldFault}
use Rattle.tsv_values.specs.Elements.{ArraySays, Behind, ElementSays, EntrySays, ListSays, MapSays, MoreSay, NumberSays, OpenedSay, QuotedSays, Said, all_of, array_of, entry_of, map_of, ranged}
use Rattle.tsv_values.specs.proving.Reading.{IsAhead, behind_quote}
use Rattle.tsv_values.specs.proving.Steps.{Step, one_more, ends, neither, after_spaces, first_step, more_step}
use Rattle.tsv_values.proofs.Closing.{inside-append}
use Rattle.tsv_values.proofs.Beginnings.{element_begins, entry_begins}
use Rattle.tsv_values.proofs.ElementKinds.{behind_at, element_letter, letter_at}
use Rattle.tsv_values.proofs.Entries.{split}
use Rattle.tsv_values.proofs.Lists.{AllBegin, Goes, IsClosing, IsOneMore, Opens, To, brace, bracket, first_to, more_ends, more_to}
use Rattle.tsv_values.proofs.Numerals.{number_numeric, same_cut}
use Rattle.tsv_values.proofs.Quoted.{OneText, nothing_empty, ok_same, opened, some_same}

-- one thing, whatever else may be seen there
abbrev pub One : {A : Type 0} → (A → List ℕ → Type 0) → Type 0
One {A} says = (text : List ℕ) (a b : A) (r s : List ℕ) → IsAhead says text a r → IsAhead says text b s → (a ≡ b) × (r ≡ s)

-- ---- numbers

one_number : (fits : ℤ → Bool) → One (NumberSays fits)
one_number fits text a b r s x y =
    let same = same_cut x.front y.front r s (number_numeric x.front x.stands.0) (number_numeric y.front y.stands.0) x.ends y.ends (sym x.whole ∙ y.whole) in
    (x.stands.1 ∙ ap (λ t. ranged fits (number_value t)) same.0 ∙ sym y.stands.1, same.1)

-- ---- texts in quotes

module _ (one : OneText) (meaning : List ℕ → Said) where
  one_quoted : One (QuotedSays meaning)
  one_quoted [] a b r s x y = absurd (nothing_empty meaning [] a r refl x)
  one_quoted (c ∷ line) a b r s x y =
      let p = (opened meaning c line a r x).1 in
      let q = (opened meaning c line b s y).1 in
      let same : r ≡ s = some_same r s (sym p.quote ∙ q.quote) in
      let both : pieces_then p.pieces [] ++ 39 ∷ s ≡ pieces_then q.pieces [] ++ 39 ∷ s =
      inside-append p.pieces s ∙ ap (λ t. pieces_then p.pieces (39 ∷ t)) (sym same) ∙ sym p.text ∙ q.text ∙ sym (inside-append q.pieces s) in
      let cut = append_cancel_right (pieces_then p.pieces []) (pieces_then q.pieces []) (39 ∷ s) both in
      let bytes : p.bytes ≡ q.bytes = ok_same p.bytes q.bytes
      (one (pieces_then q.pieces []) (Ok p.bytes) (Ok q.bytes) (subst (λ t. IsUnescaped t (Ok p.bytes)) cut p.unescaped) q.unescaped) in
      (p.said ∙ ap meaning bytes ∙ sym q.said, same)

-- ---- lists

cons_same : {A : Type 0} (x y : A) (xs ys : List A) → x ∷ xs ≡ y ∷ ys → (x ≡ y) × (xs ≡ ys)
cons_same x y xs ys e = (cc, cc)

no_cons : {A : Type 0} (y : A) (ys : List A) → [] ≡ y ∷ ys → ⊥
no_cons y ys e = cc

module _ {X : Type 0} (says : Result X FieldFault → List ℕ → Type 0) (closing : ℕ) (close : IsClosing closing) (begin : AllBegin says) (one : One says) where
  abbrev Parts : Type 0
  Parts = List (Result X FieldFault)

  abbrev Same : Parts → Parts → List ℕ → List ℕ → Type 0
  Same xs ys r s = (xs ≡ ys) × (r ≡ s)

  -- behind the others the same stands
  abbrev Rest : Parts → Type 0
  Rest xs = (text : List ℕ) (ys : Parts) (r s : List ℕ) → Goes says closing close begin text xs r → Goes says closing close begin text ys s → Same xs ys r s

  one_more_same : (x : Result X FieldFault) (xs : Parts) → Rest xs → (text : List ℕ) (ys : Parts) (r s : List ℕ) →
      IsOneMore says closing close begin text (x ∷ xs) r → IsOneMore says closing close begin text ys s → Same (x ∷ xs) ys r s
  one_more_same x xs rest text ys r s g h =
      let heads = one text g.head h.head (g.rest ++ r) (h.rest ++ s)
      (record { front = g.front; stands = g.first; whole = g.whole; ends = more_ends says closing close begin g.others g.rest r g.second })
      (record { front = h.front; stands = h.first; whole = h.whole; ends = more_ends says closing close begin h.others h.rest s h.second }) in
      let is = cons_same x g.head xs g.others g.is in
      let tails = rest (g.rest ++ r) h.others r s
      (g.rest, subst (λ zs. MoreSay says closing zs g.rest) (sym is.1) g.second, refl) (h.rest, h.second, heads.1) in
      (ap (λ y. y ∷ xs) (is.0 ∙ heads.0) ∙ ap (λ zs. h.head ∷ zs) tails.0 ∙ sym h.is, tails.1)

  none_same : (step : Step) (ys : Parts) (r s : List ℕ) → To says closing close begin step [] r → To says closing close begin step ys s → Same [] ys r s
  none_same (one_more text) ys r s g h = absurd (no_cons g.head g.others g.is)
  none_same (ends text) ys r s g h = (sym h.0, g.1 ∙ sym h.1)
  none_same neither ys r s g h = absurd g

  some_same_parts : (step : Step) (x : Result X FieldFault) (xs : Parts) → Rest xs → (ys : Parts) (r s : List ℕ) →
      To says closing close begin step (x ∷ xs) r → To says closing close begin step ys s → Same (x ∷ xs) ys r s
  some_same_parts (one_more text) x xs rest ys r s g h = one_more_same x xs rest text ys r s g h
  some_same_parts (ends text) x xs rest ys r s g h = absurd (no_cons x xs (sym g.0))
  some_same_parts neither x xs rest ys r s g h = absurd g

  goes_same : (xs : Parts) → Rest xs
  goes_same [] text ys r s g h =
      none_same (more_step closing (after_spaces text)) ys r s (more_to says closing close begin text [] r g) (more_to says closing close begin text ys s h)
  goes_same (x ∷ xs) text ys r s g h =
      some_same_parts (more_step closing (after_spaces text)) x xs (goes_same xs) ys r s
      (more_to says closing close begin text (x ∷ xs) r g) (more_to says closing close begin text ys s h)

  opens_same : (xs : Parts) (text : List ℕ) (ys : Parts) (r s : List ℕ) → Opens says closing close begin text xs r → Opens says closing close begin text ys s → Same xs ys r s
  opens_same [] text ys r s g h =
      none_same (first_step closing (after_spaces text)) ys r s (first_to says closing close begin text [] r g) (first_to says closing close begin text ys s h)
  opens_same (x ∷ xs) text ys r s g h =
      some_same_parts (first_step closing (after_spaces text)) x xs (goes_same xs) ys r s
      (first_to says closing close begin text (x ∷ xs) r g) (first_to says closing close begin text ys s h)

  one_list : One (ListSays says closing)
  one_list text a b r s x y =
      let same = opens_same x.stands.0 text y.stands.0 r s (x.front, x.stands.1, x.whole) (y.front, y.stands.1, y.whole) in
      (x.stands.2 ∙ ap all_of same.0 ∙ sym y.stands.2, same.1)

-- ---- entries

one_entry : (key item : Said → List ℕ → Type 0) → AllBegin item → One key → One item → One (EntrySays key item)
one_entry key item begin keys items text a b r s x y =
    let p = split key item begin text a r x in
    let q = split key item begin text b s y in
    let k = keys text p.k q.k p.rest q.rest p.first q.first in
    let line = (cons_same 58 58 p.line q.line (sym p.colon ∙ ap after_spaces k.1 ∙ q.colon)).1 in
    let v = items (after_spaces q.line) p.v q.v r s (subst (λ l. IsAhead item (after_spaces l) p.v r) line p.second) q.second in
    (p.said ∙ ap (λ z. entry_of z p.v) k.0 ∙ ap (entry_of q.k) v.0 ∙ sym q.said, v.1)

-- ---- elements

module _ (of : Said → List ℕ → Type 0) (first : ℕ) (one : One of) where
  no_front : (front behind : List ℕ) (said : Said) → Behind first (of said) front → [] ≡ front ++ behind → ⊥
  no_front [] behind said h e = absurd h
  no_front (c ∷ front) behind said h e = no_cons c (front ++ behind) e

  one_behind : One (λ said text. Behind first (of said) text)
  one_behind [] a b r s x y = absurd (no_front x.front r a x.stands x.whole)
  one_behind (d ∷ inside) a b r s x y =
      let p = (behind_at first d of inside x.front a r x.stands x.whole).1 in
      let q = (behind_at first d of inside y.front b s y.stands y.whole).1 in
      one inside a b r s (record { front = p.0; stands = p.1; whole = p.2; ends = x.ends }) (record { front = q.0; stands = q.1; whole = q.2; ends = y.ends })

one_array : (item : Said → List ℕ → Type 0) → AllBegin item → One item → One (ArraySays item)
one_array item begin one text a b r s x y =
    let same = one_list item 93 bracket begin one text x.stands.0 y.stands.0 r s
    (record { front = x.front; stands = x.stands.1; whole = x.whole; ends = x.ends })
    (record { front = y.front; stands = y.stands.1; whole = y.whole; ends = y.ends }) in
    (x.stands.2 ∙ ap array_of same.0 ∙ sym y.stands.2, same.1)

one_map : (key item : Said → List ℕ → Type 0) → AllBegin key → AllBegin item → One key → One item → One (MapSays key item)
one_map key item key_begins item_begins keys items text a b r s x y =
    let same = one_list (EntrySays key item) 125 brace (entry_begins key item key_begins) (one_entry key item item_begins keys items) text x.stands.0 y.stands.0 r s
    (record { front = x.front; stands = x.stands.1; whole = x.whole; ends = x.ends })
    (record { front = y.front; stands = y.stands.1; whole = y.whole; ends = y.ends }) in
    (x.stands.2 ∙ ap map_of same.0 ∙ sym y.stands.2, same.1)

module _ (one : OneText) (reads : ReadsStates) where
  -- NULL, and what else begins as it does
  null_same : (t : Ty) (text : List ℕ) (a : Said) (r s : List ℕ) (front : List ℕ) → ElementSays reads t a front → text ≡ front ++ r → text ≡ codes "NULL" ++ s → (a ≡ Ok family.Nil) × (r ≡ s)
  null_same t text a r s front h e f =
      let is = letter_at front r (85 ∷ 76 ∷ 76 ∷ s) a (element_letter reads t a front h) (sym f ∙ e) in
      let both : 78 ∷ 85 ∷ 76 ∷ 76 ∷ r ≡ 78 ∷ 85 ∷ 76 ∷ 76 ∷ s = sym (ap (λ x. x ++ r) is.0) ∙ sym e ∙ f in
      let same : r ≡ s = cc in
      (is.1, same)

  one_nullable : (t : Ty) (text : List ℕ) (a b : Said) (r s front back : List ℕ) →
      ElementSays reads (Nullable t) a front → ElementSays reads (Nullable t) b back → (text ≡ front ++ r) → (text ≡ back ++ s) →
      (ElementSays reads t a front → ElementSays reads t b back → (a ≡ b) × (r ≡ s)) → (a ≡ b) × (r ≡ s)
  one_nullable t text a b r s front back (inl g) (inl h) e f both = both g h
  one_nullable t text a b r s front back (inl g) (inr h) e f both =
      let n = null_same t text a r s front g e (f ∙ ap (λ x. x ++ s) h.0) in (n.0 ∙ sym h.1, n.1)
  one_nullable t text a b r s front back (inr g) (inl h) e f both =
      let n = null_same t text b s r back h f (e ∙ ap (λ x. x ++ r) g.0) in (g.1 ∙ sym n.0, sym n.1)
  one_nullable t text a b r s front back (inr g) (inr h) e f both =
      let whole : 78 ∷ 85 ∷ 76 ∷ 76 ∷ r ≡ 78 ∷ 85 ∷ 76 ∷ 76 ∷ s = sym (ap (λ x. x ++ r) g.0) ∙ sym e ∙ f ∙ ap (λ x. x ++ s) h.0 in
      let same : r ≡ s = cc in
      (g.1 ∙ sym h.1, same)

  pub one_element : (t : Ty) → One (ElementSays reads t)
  one_element (Whole n) = one_number (fits_bits n)
  one_element (Signed w) = one_number (fits_width w)
  one_element Str = one_quoted one (λ bytes. Ok (family.Bytes bytes))
  one_element (StateOf c ts) = one_quoted one (state_answer reads (StateOf c ts))
  one_element (Nullable t) = λ text a b r s x y.
      one_nullable t text a b r s x.front y.front x.stands y.stands x.whole y.whole
      (λ g h. one_element t text a b r s (record { front = x.front; stands = g; whole = x.whole; ends = x.ends }) (record { front = y.front; stands = h; whole = y.whole; ends = y.ends }))
  one_element (Arr t) = one_behind (ArraySays (ElementSays reads t)) 91 (one_array (ElementSays reads t) (element_begins reads t) (one_element t))
  one_element (MapTy k t) =
      one_behind (MapSays (ElementSays reads k) (ElementSays reads t)) 123
      (one_map (ElementSays reads k) (ElementSays reads t) (element_begins reads k) (element_begins reads t) (one_element k) (one_element t))
