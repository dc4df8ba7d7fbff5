-- What the text in quotes at the front says.
use Rattle.std.proofs.Common.{◌≡◌, ℕ, Bool, true, false, List, [], ◌∷◌, ◌++◌, Option, Some, None, Result, Ok, Err, refl, sym, ap, subst, ◌∙◌, eqb}
use Rattle.std.specs.Bool.{MatchBool}
use Rattle.std.proofs.lemmas.Bool.{eqb-true, eqb-false}
use Rattle.std.proofs.lemmas.List.{append_cancel_right}
use Rattle.agg_terms.specs.Chains.{Ty}
use Rattle.agg_terms.specs.Values as family
use Rattle.value_types.specs.Folds.{value_of}
use Rattle.value_types.specs.declared.value.Value.{Value}
use Rattle.tsv_text.specs.Escapes.{Piece, pieces_then, IsUnescaped, IsSameUnescaped}
use Rattle.tsv_text.specs.declared.fault.TextFault.{TextFault}
use Rattle.tsv_text.specs.declared.fault.TextFault.TheVariants as text
use Rattle.field_texts.specs.Syntax.{closed_text}
use Rattle.scalar_texts.specs.Answer.{Agrees, IsTextAnswer, state_answer}
use Rattle.scalar_texts.specs.States.{ReadsStates}
use Rattle.scalar_texts.specs.declared.fault.FieldFault.{FieldFault}
use Rattle.scalar_texts.specs.declared.fault.FieldFault.TheVariants.{NotNumber, OutOfRange, Text, BadArray, BadMap, NotNullable, NotHex, BadState, OutOfMemory}
use Rattle.tsv_values.specs.declared.found.Missing.TheVariants.{Nothing, Refused}
use Rattle.tsv_values.specs.Elements.{QuotedSays, Said}
use Rattle.tsv_values.specs.proving.Reading.{IsAhead, IsFound, IsMissing, IsQuoteCut, IsQuotedCut, behind_quote, escape_missing, missing_of}
use Rattle.tsv_values.proofs.Closing.{behind_pieces, closed-append, fit_pieces, inside-append, pieces_fit}
use Rattle.tsv_values.proofs.Fronts.{refused_by}

abbrev pub OneText : Type 0
OneText = (field : List ℕ) (one other : Result (List ℕ) TextFault) → IsUnescaped field one → IsUnescaped field other → IsSameUnescaped one other

pub some_same : (a b : List ℕ) → (let o : Option (List ℕ) = Some a in o) ≡ Some b → a ≡ b
some_same a b e = cc

pub ok_same : (a b : List ℕ) → (let r : Result (List ℕ) TextFault = Ok a in r) ≡ Ok b → a ≡ b
ok_same a b e = cc

-- what may stand there: pieces and a quote
pub record IsClosed (meaning : List ℕ → Said) (inside : List ℕ) (other : Said) (behind : List ℕ) : Type 0 where
  pub bytes : List ℕ
  pub pieces : List Piece
  pub quote : behind_quote false inside ≡ Some behind
  pub text : inside ≡ pieces_then pieces (39 ∷ behind)
  pub unescaped : IsUnescaped (pieces_then pieces []) (Ok bytes)
  pub said : other ≡ meaning bytes

module _ (meaning : List ℕ → Said) where
  tail_of : (b : ℕ) (u v : List ℕ) (w : List ℕ) → b ∷ u ≡ w ++ v → (c : ℕ) (t : List ℕ) → w ≡ c ∷ t → (b ≡ c) × (u ≡ t ++ v)
  tail_of b u v w e c t f = let g : b ∷ u ≡ c ∷ (t ++ v) = e ∙ ap (λ x. x ++ v) f in (cc, cc)

  pub opened : (b : ℕ) (text : List ℕ) (other : Said) (behind : List ℕ) → IsAhead (QuotedSays meaning) (b ∷ text) other behind → (b ≡ 39) × IsClosed meaning text other behind
  opened b text other behind a =
      let bytes = a.stands.0 in
      let q = a.stands.1 in
      let parts = tail_of b text behind a.front a.whole 39 (closed_text q.0) q.2 in
      let whole : text ≡ pieces_then q.0 (39 ∷ behind) = parts.1 ∙ closed-append q.0 behind in (
        parts.0,
        record {
          bytes = bytes;
          pieces = q.0;
          quote = ap (behind_quote false) whole ∙ behind_pieces q.0 behind q.1;
          text = whole;
          unescaped = (q.0, fit_pieces q.0 q.1, refl, q.3);
          said = a.stands.2;
        },
      )

  pub nothing_empty : (text : List ℕ) (other : Said) (behind : List ℕ) → text ≡ [] → IsAhead (QuotedSays meaning) text other behind → ⊥
  nothing_empty text other behind e a = let f : [] ≡ 39 ∷ (closed_text a.stands.1.0 ++ behind) = sym e ∙ a.whole ∙ ap (λ x. x ++ behind) a.stands.1.2 in cc

  -- the text that was cut off, and the bytes that it stands for
  module _ (one : OneText) (line inside rest : List ℕ) (quote : behind_quote false line ≡ Some rest) (whole : line ≡ inside ++ 39 ∷ rest) where
    each : (other : Said) (behind : List ℕ) → IsAhead (QuotedSays meaning) (39 ∷ line) other behind → (bytes : List ℕ) × IsUnescaped inside (Ok bytes) × (other ≡ meaning bytes) × (behind ≡ rest)
    each other behind a =
        let o = (opened 39 line other behind a).1 in
        let same : behind ≡ rest = some_same behind rest (sym o.quote ∙ quote) in
        let both : pieces_then o.pieces [] ++ 39 ∷ rest ≡ inside ++ 39 ∷ rest = inside-append o.pieces rest ∙ ap (λ r. pieces_then o.pieces (39 ∷ r)) (sym same) ∙ sym o.text ∙ whole in
        let cut : pieces_then o.pieces [] ≡ inside = append_cancel_right (pieces_then o.pieces []) inside (39 ∷ rest) both in
        (o.bytes, subst (λ t. IsUnescaped t (Ok o.bytes)) cut o.unescaped, o.said, same)

    pub quoted_found : (bytes : List ℕ) → IsUnescaped inside (Ok bytes) → IsFound (QuotedSays meaning) (39 ∷ line) (meaning bytes) rest
    quoted_found bytes u =
        let text_is : line ≡ pieces_then u.0 (39 ∷ rest) = whole ∙ ap (λ t. t ++ 39 ∷ rest) u.2 ∙ inside-append u.0 rest in
        let fits = pieces_fit u.0 rest u.1 (ap (behind_quote false) (sym text_is) ∙ quote) in
        record {
          front = 39 ∷ closed_text u.0;
          stands = (bytes, (u.0, fits, refl, u.3), refl);
          whole = ap (λ t. 39 ∷ t) (text_is ∙ sym (closed-append u.0 rest));
          only = λ other behind a.
              let e = each other behind a in
              let same : bytes ≡ e.0 = ok_same bytes e.0 (one inside (Ok bytes) (Ok e.0) u e.1) in
              (e.2 ∙ ap meaning (sym same), e.3);
        }

    pub quoted_refused : (bytes : List ℕ) (fault : FieldFault) → IsUnescaped inside (Ok bytes) → meaning bytes ≡ Err fault → IsMissing (QuotedSays meaning) (39 ∷ line) (Refused fault)
    quoted_refused bytes fault u e = refused_by (QuotedSays meaning) (39 ∷ line) fault (λ other behind a.
        let x = each other behind a in
        let same : bytes ≡ x.0 = ok_same bytes x.0 (one inside (Ok bytes) (Ok x.0) u x.1) in
        x.2 ∙ ap meaning (sym same) ∙ e)

    no_lone : (at : ℕ) (bytes : List ℕ) → IsSameUnescaped (Err (text.LoneBackslash at)) (Ok bytes) → ⊥
    no_lone at bytes e = cc

    no_bad : (at : ℕ) (bytes : List ℕ) → IsSameUnescaped (Err (text.BadHex at)) (Ok bytes) → ⊥
    no_bad at bytes e = cc

    pub quoted_lone : (at : ℕ) → IsUnescaped inside (Err (text.LoneBackslash at)) → IsMissing (QuotedSays meaning) (39 ∷ line) Nothing
    quoted_lone at u = λ other behind a. let e = each other behind a in no_lone at e.0 (one inside (Err (text.LoneBackslash at)) (Ok e.0) u e.1)

    pub quoted_bad : (at : ℕ) → IsUnescaped inside (Err (text.BadHex at)) → IsMissing (QuotedSays meaning) (39 ∷ line) Nothing
    quoted_bad at u = λ other behind a. let e = each other behind a in no_bad at e.0 (one inside (Err (text.BadHex at)) (Ok e.0) u e.1)

-- ---- the cut at the opening quote

pub record IsCutAt (field inside rest : List ℕ) : Type 0 where
  pub line : List ℕ
  pub opens : field ≡ 39 ∷ line
  pub quote : behind_quote false line ≡ Some rest
  pub whole : line ≡ inside ++ 39 ∷ rest

cut_test : (t : Bool) (b : ℕ) (text inside rest : List ℕ) → eqb b 39 ≡ t → MatchBool t (IsQuoteCut text (Some (inside, rest))) ((let o : Option (List ℕ × List ℕ) = Some (inside, rest) in o) ≡ None) → IsCutAt (b ∷ text) inside rest
cut_test true b text inside rest t h = record { line = text; opens = ap (λ c. c ∷ text) (eqb-true b 39 t); quote = h.0; whole = h.1 }
cut_test false b text inside rest t h = absurd cc

pub cut_at : (field inside rest : List ℕ) → IsQuotedCut field (Some (inside, rest)) → IsCutAt field inside rest
cut_at [] inside rest h = absurd cc
cut_at (b ∷ text) inside rest h = cut_test (eqb b 39) b text inside rest refl h

no_some : (rest : List ℕ) → (let o : Option (List ℕ) = None in o) ≡ Some rest → ⊥
no_some rest e = cc

none_test : (meaning : List ℕ → Said) (t : Bool) (b : ℕ) (text : List ℕ) → eqb b 39 ≡ t → MatchBool t (IsQuoteCut text None) ((let o : Option (List ℕ × List ℕ) = None in o) ≡ None) → IsMissing (QuotedSays meaning) (b ∷ text) Nothing
none_test meaning true b text t h = λ other behind a. let o = (opened meaning b text other behind a).1 in no_some behind (sym h ∙ o.quote)
none_test meaning false b text t h = λ other behind a. eqb-false b 39 t (opened meaning b text other behind a).0

pub cut_none : (meaning : List ℕ → Said) (field : List ℕ) → IsQuotedCut field None → IsMissing (QuotedSays meaning) field Nothing
cut_none meaning [] h = λ other behind a. nothing_empty meaning [] other behind refl a
cut_none meaning (b ∷ text) h = none_test meaning (eqb b 39) b text refl h

-- ---- strings

abbrev pub bytes_said : List ℕ → Said
bytes_said bytes = Ok (family.Bytes bytes)

module _ (one : OneText) (field inside rest : List ℕ) (cut : IsQuotedCut field (Some (inside, rest))) where
  pub string_found : (v : Value) → IsTextAnswer inside (Ok v) → IsFound (QuotedSays bytes_said) field (Ok (value_of v)) rest
  string_found v h =
      let c = cut_at field inside rest cut in
      let said : bytes_said h.0 ≡ Ok (value_of v) = ap Ok (sym h.1) in
      subst (λ f. IsFound (QuotedSays bytes_said) f (Ok (value_of v)) rest) (sym c.opens)
      (subst (λ s. IsFound (QuotedSays bytes_said) (39 ∷ c.line) s rest) said (quoted_found bytes_said one c.line inside rest c.quote c.whole h.0 h.2))

  pub string_missing : (fault : FieldFault) → IsTextAnswer inside (Err fault) → IsMissing (QuotedSays bytes_said) field (missing_of fault)
  string_missing (Text (text.LoneBackslash at)) h =
      let c = cut_at field inside rest cut in
      subst (λ f. IsMissing (QuotedSays bytes_said) f Nothing) (sym c.opens) (quoted_lone bytes_said one c.line inside rest c.quote c.whole at h)
  string_missing (Text (text.BadHex at)) h =
      let c = cut_at field inside rest cut in
      subst (λ f. IsMissing (QuotedSays bytes_said) f Nothing) (sym c.opens) (quoted_bad bytes_said one c.line inside rest c.quote c.whole at h)
  string_missing OutOfMemory h = tt
  string_missing fault h = absurd h

  -- ---- states

  pub state_found : (reads : ReadsStates) (ty : Ty) (hex : List ℕ) (v : Value) → IsUnescaped inside (Ok hex) → Agrees (state_answer reads ty hex) (Ok v) → IsFound (QuotedSays (state_answer reads ty)) field (Ok (value_of v)) rest
  state_found reads ty hex v u h =
      let c = cut_at field inside rest cut in
      subst (λ f. IsFound (QuotedSays (state_answer reads ty)) f (Ok (value_of v)) rest) (sym c.opens)
      (subst (λ s. IsFound (QuotedSays (state_answer reads ty)) (39 ∷ c.line) s rest) h (quoted_found (state_answer reads ty) one c.line inside rest c.quote c.whole hex u))

  told : (reads : ReadsStates) (ty : Ty) (hex : List ℕ) (fault : FieldFault) → IsUnescaped inside (Ok hex) → state_answer reads ty hex ≡ Err fault → IsMissing (QuotedSays (state_answer reads ty)) field (Refused fault)
  told reads ty hex fault u h =
      let c = cut_at field inside rest cut in
      subst (λ f. IsMissing (QuotedSays (state_answer reads ty)) f (Refused fault)) (sym c.opens) (quoted_refused (state_answer reads ty) one c.line inside rest c.quote c.whole hex fault u h)

  pub state_refused : (reads : ReadsStates) (ty : Ty) (hex : List ℕ) (fault : FieldFault) → IsUnescaped inside (Ok hex) → Agrees (state_answer reads ty hex) (Err fault) → IsMissing (QuotedSays (state_answer reads ty)) field (Refused fault)
  state_refused reads ty hex OutOfMemory u h = tt
  state_refused reads ty hex NotNumber u h = told reads ty hex NotNumber u h
  state_refused reads ty hex OutOfRange u h = told reads ty hex OutOfRange u h
  state_refused reads ty hex (Text t) u h = told reads ty hex (Text t) u h
  state_refused reads ty hex (BadArray at) u h = told reads ty hex (BadArray at) u h
  state_refused reads ty hex (BadMap at) u h = told reads ty hex (BadMap at) u h
  state_refused reads ty hex NotNullable u h = told reads ty hex NotNullable u h
  state_refused reads ty hex (NotHex at) u h = told reads ty hex (NotHex at) u h
  state_refused reads ty hex (BadState b) u h = told reads ty hex (BadState b) u h

  pub escape_nothing : (meaning : List ℕ → Said) (fault : TextFault) → IsUnescaped inside (Err fault) → IsMissing (QuotedSays meaning) field (escape_missing fault)
  escape_nothing meaning (text.LoneBackslash at) h =
      let c = cut_at field inside rest cut in
      subst (λ f. IsMissing (QuotedSays meaning) f Nothing) (sym c.opens) (quoted_lone meaning one c.line inside rest c.quote c.whole at h)
  escape_nothing meaning (text.BadHex at) h =
      let c = cut_at field inside rest cut in
      subst (λ f. IsMissing (QuotedSays meaning) f Nothing) (sym c.opens) (quoted_bad meaning one c.line inside rest c.quote c.whole at h)
  escape_nothing meaning text.OutOfMemory h = tt
