-- An array that is taken element by element.
use Rattle.std.proofs.Common.{◌≡◌, ℕ, ◌+◌, ◌≤◌, ◌<◌, Bool, true, false, not, ◌&&◌, List, [], ◌∷◌, ◌++◌, length, map, ap, sym, subst, ◌∙◌, refl, arith, eqb, length-append}
use Rattle.std.specs.Prelude.{Result, Ok, Err}
use Rattle.std.specs.List.{join_with_byte, list_all, slice_split}
use Rattle.std.proofs.lemmas.Bool.{and_parts, eqb-false}
use Rattle.std.proofs.lemmas.List.{append_assoc, append-nil, map-append}
use Rattle.std.proofs.lemmas.List.Folds.{list_all-append, list_all-map}
use Rattle.std.proofs.lemmas.List.Splits.{join_with_byte-slice_split}
use Rattle.std.specs.Cmp.Derive.{both_true}
use Rattle.value_lists.specs.declared.out_of_memory.OutOfMemory.{OutOfMemory}
use Rattle.agg_terms.specs.Chains as terms
use Rattle.agg_terms.specs.Fitting.{fits_value}
use Rattle.agg_terms.specs.Values as family
use Rattle.agg_terms.proofs.Lists.{values_back}
use Rattle.value_types.specs.Folds.{ty_of, value_of}
use Rattle.value_types.specs.declared.ty.Ty.{Ty}
use Rattle.value_types.specs.declared.ty.Ty.TheVariants as ty
use Rattle.value_types.specs.declared.value.Value.{Value}
use Rattle.value_types.specs.declared.value.Value.TheVariants as value
use Rattle.value_types.proofs.FoldLaws.{ty_of-Arr, ty_of-Str, value_of-Bytes, value_of-List}
use Rattle.tsv_text.specs.Lines.{is_tab}
use Rattle.tsv_text.specs.Escapes.{plain, pieces_bytes, pieces_then}
use Rattle.field_texts.specs.Syntax.{AllFitInQuotes, Token}
use Rattle.scalar_texts.specs.Answer.{is_null_text}
use Rattle.scalar_texts.specs.Numbers.{number_value}
use Rattle.scalar_texts.specs.States.{ReadsStates}
use Rattle.scalar_texts.specs.declared.fault.FieldFault.{FieldFault}
use Rattle.column_parts.specs.Cuts.{cuts, IsCut}
use Rattle.column_parts.specs.NumberLists.{NumberList}
use Rattle.column_parts.proofs.Cuts.{cuts_push}
use Rattle.typed_columns.specs.TypedValues.{TypedValues}
use Rattle.typed_columns.specs.Growth.{AllFit, Fits, with_value, with_values}
use Rattle.tsv_values.specs.Answer.{IsFilledAnswer}
use Rattle.tsv_values.specs.Elements.{ElementSays, OpenedSay, Spaced, all_of, onto}
use Rattle.quick_rows.specs.Taking.{AreElements, Fails, IsArrayText, SaysElement, SaysFilled, TakesElement, TakesElements, TakesField, TakesFilled, TakesFront, TakesNumber, TakesQuoted, is_quotable, lists_seen, numbers_seen, parts_of, texts_seen}
use Rattle.quick_rows.proofs.FieldLaws.{filled_field, text_fits}
use Rattle.quick_rows.proofs.Fronts.{Fails-append, IsPart, is_comma, kept_fails, split-front, split-whole}
use Rattle.quick_rows.proofs.Numbers.{number_element, number_fits}

-- elements of a number type, and strings in quotes
pub numbers_element : (old new : NumberList) (part : List ℕ) (r : Result Bool OutOfMemory) → TakesNumber old part new r →
    TakesElement (numbers_seen old) part (numbers_seen new) r
numbers_element old new part (Ok true) h = (
  value.Num (number_value part),
  number_fits old.kind (number_value part) h.1,
  number_element old.kind part h.0 h.1,
  ap numbers_seen h.2 ∙ (λ i. record { ty = (numbers_seen old).ty; values = map-append value.Num old.numbers (number_value part ∷ []) i }),
)
numbers_element old new part (Ok false) h = ap numbers_seen h
numbers_element old new part (Err fault) h = ap numbers_seen h

not_so : (b : Bool) → not b ≡ true → b ≡ false
not_so true h = cc
not_so false h = refl

pieces_quoted : (text : List ℕ) → is_quotable text ≡ true →
    AllFitInQuotes (map plain text) × (text ++ 39 ∷ [] ≡ pieces_then (map plain text) (39 ∷ [])) × (text ≡ pieces_bytes (map plain text))
pieces_quoted [] h = (tt, refl, refl)
pieces_quoted (b ∷ text) h =
    let parts = and_parts (not (eqb b 92) && not (eqb b 39)) (is_quotable text) h in
    let both = and_parts (not (eqb b 92)) (not (eqb b 39)) parts.0 in
    let rest = pieces_quoted text parts.1 in
    (((eqb-false b 39 (not_so (eqb b 39) both.1), eqb-false b 92 (not_so (eqb b 92) both.0)), rest.0), ap (λ t. b ∷ t) rest.1, ap (λ t. b ∷ t) rest.2)

quoted_says : (part text : List ℕ) → part ≡ 39 ∷ (text ++ 39 ∷ []) → is_quotable text ≡ true → SaysElement ty.Str part (value.Bytes text)
quoted_says part text is h reads =
    let p = pieces_quoted text h in
    subst (λ t. ElementSays reads t (Ok (value_of (value.Bytes text))) part) (sym ty_of-Str)
    (text, (map plain text, p.0, is ∙ ap (λ t. 39 ∷ t) p.1, p.2), ap Ok (value_of-Bytes text))

pub texts_element : (old new : List (List ℕ)) (part : List ℕ) (r : Result Bool OutOfMemory) → TakesQuoted old part new r →
    TakesElement (texts_seen old) part (texts_seen new) r
texts_element old new part (Ok true) h = (
  value.Bytes h.0,
  text_fits h.0 h.3,
  quoted_says part h.0 h.1 h.2,
  ap texts_seen h.4 ∙ (λ i. record { ty = ty.Str; values = map-append value.Bytes old (h.0 ∷ []) i }),
)
texts_element old new part (Ok false) h = ap texts_seen h
texts_element old new part (Err fault) h = ap texts_seen h

-- the text so far, and the values of its elements
pub record Listed (old now : TypedValues) (inside left : List ℕ) : Type 0 where
  pub front : List ℕ
  pub whole : inside ≡ front ++ left
  pub plain : Fails is_tab front
  pub values : List Value
  pub fit : AllFit old.ty values
  pub stand : now ≡ with_values old values
  pub rest : (text : List ℕ) (tail : List Value) → AreElements old.ty (slice_split is_comma text) tail → AreElements old.ty (slice_split is_comma (front ++ text)) (values ++ tail)

pub listed_none : (old : TypedValues) (inside : List ℕ) → Listed old old inside inside
listed_none old inside = record {
  front = [];
  whole = refl;
  plain = tt;
  values = [];
  fit = refl;
  stand = sym (λ i. record { ty = old.ty; values = append-nil old.values i });
  rest = λ text tail h. h;
}

-- one element more
fit_more : (old now next : TypedValues) (inside left part : List ℕ) (f : Listed old now inside left) (taken : TakesElement now part next (Ok true)) →
    AllFit old.ty (f.values ++ taken.0 ∷ []) × SaysElement old.ty part taken.0 × (next ≡ with_values old (f.values ++ taken.0 ∷ []))
fit_more old now next inside left part f taken =
    let v = taken.0 in
    let same : now.ty ≡ old.ty = ap (λ c. c.ty) f.stand in (
      list_all-append _ f.values (v ∷ []) ∙ both_true f.fit (both_true (subst (λ t. Fits t v) same taken.1) refl),
      subst (λ t. SaysElement t part v) same taken.2,
      taken.3 ∙ ap (λ c. with_value c v) f.stand ∙ (λ i. record { ty = old.ty; values = append_assoc old.values f.values (v ∷ []) i }),
    )

-- an element, and a comma
pub listed_more : (old now next : TypedValues) (inside left part behind after : List ℕ) → Listed old now inside left → IsPart left part behind → behind ≡ 44 ∷ after →
    TakesElement now part next (Ok true) → Listed old next inside after
listed_more old now next inside left part behind after f cut comma taken =
    let v = taken.0 in
    let more = fit_more old now next inside left part f taken in
    let plain = kept_fails part cut.2 in
    let bytes = part ++ 44 ∷ [] in record {
      front = f.front ++ bytes;
      whole = f.whole ∙ ap (λ t. f.front ++ t) (cut.0 ∙ ap (λ t. part ++ t) comma ∙ sym (append_assoc part (44 ∷ []) after)) ∙ sym (append_assoc f.front bytes after);
      plain = Fails-append is_tab f.front bytes f.plain (Fails-append is_tab part (44 ∷ []) plain.1 (refl, tt));
      values = f.values ++ v ∷ [];
      fit = more.0;
      stand = more.2;
      rest = λ text tail h.
          let here = append_assoc f.front bytes text ∙ ap (λ t. f.front ++ t) (append_assoc part (44 ∷ []) text) in
          subst (λ t. AreElements old.ty (slice_split is_comma t) ((f.values ++ v ∷ []) ++ tail)) (sym here)
          (subst (AreElements old.ty (slice_split is_comma (f.front ++ (part ++ 44 ∷ text)))) (sym (append_assoc f.values (v ∷ []) tail))
          (f.rest (part ++ 44 ∷ text) (v ∷ tail)
          (subst (λ ps. AreElements old.ty ps (v ∷ tail)) (sym (split-front is_comma part 44 text plain.0 refl)) (more.1, h))));
    }

some_parts : (text : List ℕ) → 0 < length text → slice_split is_comma text ≡ parts_of text
some_parts [] h = absurd (omega arith)
some_parts (b ∷ text) h = refl

-- the last element, and the closing bracket
pub listed_all : (old now next : TypedValues) (inside left part behind after : List ℕ) → Listed old now inside left → IsPart left part behind → behind ≡ 93 ∷ after →
    TakesElement now part next (Ok true) → TakesFront TakesElements old (91 ∷ inside) next after
listed_all old now next inside left part behind after f cut bracket taken =
    let v = taken.0 in
    let more = fit_more old now next inside left part f taken in
    let plain = kept_fails part cut.2 in
    let text = f.front ++ part in
    let field = 91 ∷ (text ++ 93 ∷ []) in
    let whole : 91 ∷ inside ≡ field ++ after =
    ap (λ t. 91 ∷ t)
    (f.whole ∙ ap (λ t. f.front ++ t) (cut.0 ∙ ap (λ t. part ++ t) bracket) ∙ sym (append_assoc f.front part (93 ∷ after)) ∙ sym (append_assoc text (93 ∷ []) after)) in
    let no_tab = Fails-append is_tab text (93 ∷ []) (Fails-append is_tab f.front part f.plain plain.1) (refl, tt) in
    let said = f.rest part (v ∷ []) (subst (λ ps. AreElements old.ty ps (v ∷ [])) (sym (split-whole is_comma part plain.0)) (more.1, tt)) in (
      field,
      (whole, (refl, no_tab)),
      (
        f.values ++ v ∷ [],
        more.0,
        (text, refl, subst (λ ps. AreElements old.ty ps (f.values ++ v ∷ [])) (some_parts text (omega (arith, cut.1, length-append f.front part))) said),
        more.2,
      ),
    )

-- an array without elements
pub listed_empty : (old : TypedValues) (text left : List ℕ) → text ≡ 91 ∷ 93 ∷ left → TakesFront TakesElements old text old left
listed_empty old text left is =
    (91 ∷ 93 ∷ [], (is, (refl, (refl, tt))), ([], refl, ([], refl, tt), sym (λ i. record { ty = old.ty; values = append-nil old.values i })))

-- what the text of an array says
token : (b : ℕ) → Token b (b ∷ [])
token b = record { front = []; rest = b ∷ []; first = tt; second = refl; whole = refl }

spaced : {A : Type 0} (says : A → List ℕ → Type 0) (x : A) (text : List ℕ) → says x text → Spaced says x text
spaced says x text h = record { front = []; rest = text; first = tt; second = h; whole = refl }

opened : (reads : ReadsStates) (t : Ty) (parts : List (List ℕ)) (vs : List Value) → AreElements t parts vs →
    OpenedSay (ElementSays reads (ty_of t)) 93 (map (λ v. Ok (value_of v)) vs) (join_with_byte 44 parts ++ 93 ∷ [])
opened reads t [] [] h = token 93
opened reads t [] (v ∷ vs) h = absurd h
opened reads t (p ∷ ps) [] h = absurd h
opened reads t (p ∷ []) (v ∷ []) h = record { front = p; rest = 93 ∷ []; first = spaced (ElementSays reads (ty_of t)) (Ok (value_of v)) p (h.0 reads); second = token 93; whole = refl }
opened reads t (p ∷ []) (v ∷ w ∷ vs) h = absurd h.1
opened reads t (p ∷ q ∷ ps) (v ∷ []) h = absurd h.1
opened reads t (p ∷ q ∷ ps) (v ∷ w ∷ vs) h = record {
  front = p;
  rest = 44 ∷ (join_with_byte 44 (q ∷ ps) ++ 93 ∷ []);
  first = spaced (ElementSays reads (ty_of t)) (Ok (value_of v)) p (h.0 reads);
  second = record { front = 44 ∷ []; rest = join_with_byte 44 (q ∷ ps) ++ 93 ∷ []; first = token 44; second = opened reads t (q ∷ ps) (w ∷ vs) h.1; whole = refl };
  whole = append_assoc p (44 ∷ join_with_byte 44 (q ∷ ps)) (93 ∷ []);
}

all_oks : (vs : List Value) → ◌≡◌ {A = Result (List family.Value) FieldFault} (Ok (map value_of vs)) (all_of (map (λ v. Ok (value_of v)) vs))
all_oks [] = refl
all_oks (v ∷ vs) = ap (onto (value_of v)) (all_oks vs)

join_parts : (inside : List ℕ) → join_with_byte 44 (parts_of inside) ≡ inside
join_parts [] = refl
join_parts (b ∷ inside) = join_with_byte-slice_split 44 (b ∷ inside)

pub array_says : (t : Ty) (field : List ℕ) (vs : List Value) → IsArrayText t field vs → SaysFilled (ty.Arr t) field (value.List vs)
array_says t field vs h reads =
    let inside = h.0 in
    let text = subst (λ x. OpenedSay (ElementSays reads (ty_of t)) 93 (map (λ v. Ok (value_of v)) vs) (x ++ 93 ∷ [])) (join_parts inside) (opened reads t (parts_of inside) vs h.2) in
    subst (λ u. IsFilledAnswer reads u field (Ok (value.List vs))) (sym (ty_of-Arr t)) (record {
      front = field;
      rest = [];
      first = spaced (ElementSays reads (terms.Arr (ty_of t))) (Ok (value_of (value.List vs))) field
          (subst (ElementSays reads (terms.Arr (ty_of t)) (Ok (value_of (value.List vs)))) (sym h.1)
          (refl, (Ok (map value_of vs), (map (λ v. Ok (value_of v)) vs, text, all_oks vs), ap Ok (value_of-List vs))));
      second = tt;
      whole = sym (append-nil field);
    })

pub array_fits : (t : Ty) (vs : List Value) → AllFit t vs → Fits (ty.Arr t) (value.List vs)
array_fits t vs h =
    ap (λ u. fits_value u (value_of (value.List vs))) (ty_of-Arr t) ∙ ap (fits_value (terms.Arr (ty_of t))) (value_of-List vs)
    ∙ ap (list_all (fits_value (ty_of t))) (values_back (map value_of vs)) ∙ list_all-map (fits_value (ty_of t)) value_of vs ∙ h

pub list_longer : (old new : TypedValues) (field : List ℕ) → TakesElements old field new (Ok true) → length old.values ≤ length new.values
list_longer old new field h = omega (arith, ap (λ c. length c.values) h.3, length-append old.values h.0)

list_filled : (starts after : List ℕ) (old new : TypedValues) (field : List ℕ) (e : ℕ) → IsCut starts (length old.values) → after ≡ starts ++ e ∷ [] → e ≡ length new.values →
    TakesElements old field new (Ok true) → TakesFilled (lists_seen starts old) field (lists_seen after new) (Ok true)
list_filled starts after old new field e cut marked end h =
    let vs = h.0 in
    let count : e ≡ length old.values + length vs = omega (arith, end, ap (λ c. length c.values) h.3, length-append old.values vs) in (
      value.List vs,
      array_fits old.ty vs h.1,
      array_says old.ty field vs h.2,
      (λ i. lists_seen (marked i) (h.3 i))
          ∙ (λ i. record { ty = ty.Arr old.ty; values = (ap (map value.List) (cuts_push starts old.values vs e cut count) ∙ map-append value.List (cuts starts old.values) (vs ∷ [])) i }),
    )

-- an array isn't `\N`
pub array_some : (field inside : List ℕ) → field ≡ 91 ∷ (inside ++ 93 ∷ []) → is_null_text field ≡ false
array_some field [] is = ap is_null_text is
array_some field (b ∷ []) is = ap is_null_text is
array_some field (b ∷ c ∷ inside) is = ap is_null_text is

pub list_taken : (starts after : List ℕ) (old new : TypedValues) (field : List ℕ) (e : ℕ) → IsCut starts (length old.values) → after ≡ starts ++ e ∷ [] → e ≡ length new.values →
    TakesElements old field new (Ok true) → TakesField (lists_seen starts old) field (lists_seen after new) (Ok true)
list_taken starts after old new field e cut marked end h =
    filled_field (lists_seen starts old) (lists_seen after new) field (Ok true) (array_some field h.2.0 h.2.1) (list_filled starts after old new field e cut marked end h)
