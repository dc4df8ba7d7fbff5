-- Elements by their type's kind, for the code's matches.
use Rattle.std.proofs.Common.{◌≡◌, ℕ, Bool, true, false, cond, List, [], ◌∷◌, ◌++◌, codes, map, Option, Some, None, Result, Ok, Err, refl, sym, ap, subst, ◌∙◌, arith, inl, inr, eqb, ◌&&◌}
use Rattle.std.proofs.lemmas.Bool.{and_parts, eqb-true, eqb-false}
use Rattle.agg_terms.specs.Chains as terms
use Rattle.agg_terms.specs.Values as family
use Rattle.value_types.specs.declared.chain.Chain.{Chain}
use Rattle.value_types.specs.declared.ty.Ty.{Ty}
use Rattle.value_types.specs.declared.ty.Ty.TheVariants as ty
use Rattle.value_types.specs.declared.value.Value.{Value}
use Rattle.value_types.specs.declared.value.Value.TheVariants as value
use Rattle.value_types.specs.Folds.{chain_of, ty_of, value_of}
use Rattle.value_types.proofs.FoldLaws.{ty_of-Str, ty_of-Arr, ty_of-Map, ty_of-Nullable, ty_of-State, value_of-List, value_of-Nil, value_of-Pairs}
use Rattle.field_texts.specs.Syntax.{IsNumber, closed_text}
use Rattle.scalar_texts.specs.Answer.{state_answer}
use Rattle.scalar_texts.specs.Numbers.{HasRange, in_range}
use Rattle.scalar_texts.specs.States.{ReadsStates}
use Rattle.tsv_values.specs.declared.found.Found.{Found}
use Rattle.tsv_values.specs.declared.found.Missing.{Missing}
use Rattle.tsv_values.specs.declared.found.Missing.TheVariants.{Nothing}
use Rattle.tsv_values.specs.Elements.{ArraySays, Behind, ElementSays, EntrySays, ListSays, MapSays, NumberSays, QuotedSays, Said, array_of, map_of}
use Rattle.tsv_values.specs.proving.Reading.{IsAhead, IsElementRead, IsFound, IsMissing, null_ahead}
use Rattle.tsv_values.specs.proving.Steps.{behind_byte}
use Rattle.tsv_values.proofs.Fronts.{missing_by}

-- ---- a byte before it

pub behind_at : (b d : ℕ) (says : Said → List ℕ → Type 0) (inside front : List ℕ) (other : Said) (behind : List ℕ) → Behind b (says other) front → d ∷ inside ≡ front ++ behind
    → (d ≡ b) × ((t : List ℕ) × says other t × (inside ≡ t ++ behind))
behind_at b d says inside [] other behind h e = absurd h
behind_at b d says inside (c ∷ t) other behind h e = let head : d ≡ c = cc in let tail : inside ≡ t ++ behind = cc in (head ∙ h.0, (t, h.1, tail))

module _ (b : ℕ) (says : Said → List ℕ → Type 0) where
  abbrev After : Said → List ℕ → Type 0
  After said = Behind b (says said)

  behind_ahead : (d : ℕ) (inside : List ℕ) (other : Said) (behind : List ℕ) → IsAhead After (d ∷ inside) other behind → (d ≡ b) × IsAhead says inside other behind
  behind_ahead d inside other behind a =
      let p = behind_at b d says inside a.front other behind a.stands a.whole in
      (p.0, record { front = p.1.0; stands = p.1.1; whole = p.1.2; ends = a.ends })

  behind_empty : (other : Said) (behind : List ℕ) → IsAhead After [] other behind → ⊥
  behind_empty other behind a = empty_at a.front a.stands a.whole
    where
      empty_at : (front : List ℕ) → Behind b (says other) front → [] ≡ front ++ behind → ⊥
      empty_at [] h e = h
      empty_at (c ∷ t) h e = cc

  behind_read : (inside : List ℕ) (r : Result Found Missing) → IsElementRead says inside r → IsElementRead After (b ∷ inside) r
  behind_read inside (Ok found) f = record {
    front = b ∷ f.front;
    stands = (refl, f.stands);
    whole = ap (λ t. b ∷ t) f.whole;
    only = λ other behind a. f.only other behind (behind_ahead b inside other behind a).1;
  }
  behind_read inside (Err missing) h =
      missing_by says inside After (b ∷ inside) (λ other behind a. (other, behind, (behind_ahead b inside other behind a).1, λ fault e. e)) missing h

  some_is : (t : Bool) (c : ℕ) (text inside : List ℕ) → eqb c b ≡ t → (let o : Option (List ℕ) = cond t (Some text) None in o) ≡ Some inside → c ∷ text ≡ b ∷ inside
  some_is true c text inside t e = let same : text ≡ inside = cc in ap (λ d. d ∷ text) (eqb-true c b t) ∙ ap (λ u. b ∷ u) same
  some_is false c text inside t e = absurd cc

  behind_some : (text inside : List ℕ) → behind_byte b text ≡ Some inside → text ≡ b ∷ inside
  behind_some [] inside e = absurd cc
  behind_some (c ∷ text) inside e = some_is (eqb c b) c text inside refl e

  none_is : (t : Bool) (c : ℕ) (text : List ℕ) → eqb c b ≡ t → (let o : Option (List ℕ) = cond t (Some text) None in o) ≡ None → c ≡ b → ⊥
  none_is true c text t e = absurd cc
  none_is false c text t e = eqb-false c b t

  behind_none : (text : List ℕ) → behind_byte b text ≡ None → IsMissing After text Nothing
  behind_none [] e = λ other behind a. behind_empty other behind a
  behind_none (c ∷ text) e = λ other behind a. none_is (eqb c b) c text refl e (behind_ahead c text other behind a).0

-- ---- lists as values

module _ (item : Said → List ℕ → Type 0) (text : List ℕ) where
  pub array_found : (xs : List Value) (rest : List ℕ) → IsFound (ListSays item 93) text (Ok (map value_of xs)) rest → IsFound (ArraySays item) text (Ok (value_of (value.List xs))) rest
  array_found xs rest f =
      let is : array_of (Ok (map value_of xs)) ≡ Ok (value_of (value.List xs)) = ap Ok (sym (value_of-List xs)) in
      record {
        front = f.front;
        stands = (Ok (map value_of xs), f.stands, sym is);
        whole = f.whole;
        only = λ other behind a.
            let same = f.only a.stands.0 behind (record { front = a.front; stands = a.stands.1; whole = a.whole; ends = a.ends }) in
            (a.stands.2 ∙ ap array_of same.0 ∙ is, same.1);
      }

  pub array_missing : (missing : Missing) → IsMissing (ListSays item 93) text missing → IsMissing (ArraySays item) text missing
  array_missing missing h =
      missing_by (ListSays item 93) text (ArraySays item) text
      (λ other behind a. (a.stands.0, behind, record { front = a.front; stands = a.stands.1; whole = a.whole; ends = a.ends }, λ fault e. a.stands.2 ∙ ap array_of e)) missing h

abbrev pub pair_of : Value × Value → family.Value × family.Value
pair_of e = (value_of e.0, value_of e.1)

module _ (key item : Said → List ℕ → Type 0) (text : List ℕ) where
  pub map_found : (es : List (Value × Value)) (rest : List ℕ) → IsFound (ListSays (EntrySays key item) 125) text (Ok (map pair_of es)) rest → IsFound (MapSays key item) text (Ok (value_of (value.Pairs es))) rest
  map_found es rest f =
      let is : map_of (Ok (map pair_of es)) ≡ Ok (value_of (value.Pairs es)) = ap Ok (sym (value_of-Pairs es)) in
      record {
        front = f.front;
        stands = (Ok (map pair_of es), f.stands, sym is);
        whole = f.whole;
        only = λ other behind a.
            let same = f.only a.stands.0 behind (record { front = a.front; stands = a.stands.1; whole = a.whole; ends = a.ends }) in
            (a.stands.2 ∙ ap map_of same.0 ∙ is, same.1);
      }

  pub map_missing : (missing : Missing) → IsMissing (ListSays (EntrySays key item) 125) text missing → IsMissing (MapSays key item) text missing
  map_missing missing h =
      missing_by (ListSays (EntrySays key item) 125) text (MapSays key item) text
      (λ other behind a. (a.stands.0, behind, record { front = a.front; stands = a.stands.1; whole = a.whole; ends = a.ends }, λ fault e. a.stands.2 ∙ ap map_of e)) missing h

-- ---- NULL

record IsNull (text rest : List ℕ) : Type 0 where
  whole : text ≡ 78 ∷ 85 ∷ 76 ∷ 76 ∷ rest

null_test : (a b c d : ℕ) (u rest : List ℕ) (t : Bool) → (eqb a 78 && eqb b 85 && eqb c 76 && eqb d 76) ≡ t → (let o : Option (List ℕ) = cond t (Some u) None in o) ≡ Some rest → a ∷ b ∷ c ∷ d ∷ u ≡ 78 ∷ 85 ∷ 76 ∷ 76 ∷ rest
null_test a b c d u rest true t e =
    let p = and_parts (eqb a 78 && eqb b 85 && eqb c 76) (eqb d 76) t in
    let q = and_parts (eqb a 78 && eqb b 85) (eqb c 76) p.0 in
    let r = and_parts (eqb a 78) (eqb b 85) q.0 in
    let same : u ≡ rest = cc in
    rw (eqb-true a 78 r.0, eqb-true b 85 r.1, eqb-true c 76 q.1, eqb-true d 76 p.1, same) refl
null_test a b c d u rest false t e = absurd cc

null_there : (text rest : List ℕ) → null_ahead text ≡ Some rest → text ≡ 78 ∷ 85 ∷ 76 ∷ 76 ∷ rest
null_there [] rest e = absurd cc
null_there (a ∷ []) rest e = absurd cc
null_there (a ∷ b ∷ []) rest e = absurd cc
null_there (a ∷ b ∷ c ∷ []) rest e = absurd cc
null_there (a ∷ b ∷ c ∷ d ∷ u) rest e = null_test a b c d u rest (eqb a 78 && eqb b 85 && eqb c 76 && eqb d 76) refl e

-- what begins with an N is NULL
abbrev pub Lettered : List ℕ → Said → Type 0
Lettered [] said = ⊥
Lettered (b ∷ text) said = b ≡ 78 → (b ∷ text ≡ codes "NULL") × (said ≡ Ok family.Nil)

number_letter : (text : List ℕ) (said : Said) → IsNumber text → Lettered text said
number_letter [] said h = absurd h
number_letter (b ∷ text) said (inl h) = λ e. absurd (omega (arith, h.0, e))
number_letter (b ∷ text) said (inr (inl f, d)) = λ e. absurd (omega (arith, e, f))
number_letter (b ∷ text) said (inr (inr f, d)) = λ e. absurd (omega (arith, e, f))

other_letter : (c : ℕ) (tail text : List ℕ) (said : Said) → text ≡ c ∷ tail → (c ≡ 78 → ⊥) → Lettered text said
other_letter c tail [] said e n = absurd cc
other_letter c tail (b ∷ text) said e n = let head : b ≡ c = cc in λ f. absurd (n (sym head ∙ f))

behind_letter : (c : ℕ) (of : List ℕ → Type 0) (text : List ℕ) (said : Said) → Behind c of text → (c ≡ 78 → ⊥) → Lettered text said
behind_letter c of [] said h n = absurd h
behind_letter c of (b ∷ text) said h n = λ e. absurd (n (sym h.0 ∙ e))

null_letter : (text : List ℕ) (said : Said) → text ≡ codes "NULL" → said ≡ Ok family.Nil → Lettered text said
null_letter [] said e s = absurd cc
null_letter (b ∷ text) said e s = λ f. (e, s)

pub element_letter : (reads : ReadsStates) (t : terms.Ty) (said : Said) (text : List ℕ) → ElementSays reads t said text → Lettered text said
element_letter reads (terms.Whole n) said text h = number_letter text said h.0
element_letter reads (terms.Signed w) said text h = number_letter text said h.0
element_letter reads terms.Str said text h = other_letter 39 (closed_text h.1.0) text said h.1.2 (λ e. absurd (omega (arith, e)))
element_letter reads (terms.StateOf c ts) said text h = other_letter 39 (closed_text h.1.0) text said h.1.2 (λ e. absurd (omega (arith, e)))
element_letter reads (terms.Nullable t) said text (inl h) = element_letter reads t said text h
element_letter reads (terms.Nullable t) said text (inr h) = null_letter text said h.0 h.1
element_letter reads (terms.Arr t) said text h = behind_letter 91 _ text said h (λ e. absurd (omega (arith, e)))
element_letter reads (terms.MapTy k t) said text h = behind_letter 123 _ text said h (λ e. absurd (omega (arith, e)))

pub letter_at : (front behind u : List ℕ) (said : Said) → Lettered front said → 78 ∷ u ≡ front ++ behind → (front ≡ codes "NULL") × (said ≡ Ok family.Nil)
letter_at [] behind u said h e = absurd h
letter_at (b ∷ front) behind u said h e = let head : 78 ≡ b = cc in h (sym head)

null_found : (reads : ReadsStates) (t : terms.Ty) (text rest : List ℕ) → null_ahead text ≡ Some rest → IsFound (ElementSays reads (terms.Nullable t)) text (Ok family.Nil) rest
null_found reads t text rest e =
    let whole = null_there text rest e in
    record {
      front = codes "NULL";
      stands = inr (refl, refl);
      whole = whole;
      only = λ other behind a.
          let at : 78 ∷ 85 ∷ 76 ∷ 76 ∷ rest ≡ a.front ++ behind = sym whole ∙ a.whole in
          let is = letter_at a.front behind (85 ∷ 76 ∷ 76 ∷ rest) other (element_letter reads (terms.Nullable t) other a.front a.stands) at in
          let both : 78 ∷ 85 ∷ 76 ∷ 76 ∷ rest ≡ 78 ∷ 85 ∷ 76 ∷ 76 ∷ behind = at ∙ ap (λ f. f ++ behind) is.0 in
          let same : behind ≡ rest = cc in
          (is.1, same);
    }

not_null : (reads : ReadsStates) (t : terms.Ty) (text : List ℕ) (other : Said) (behind : List ℕ) → null_ahead text ≡ None → IsAhead (ElementSays reads (terms.Nullable t)) text other behind → IsAhead (ElementSays reads t) text other behind
not_null reads t text other behind e a = record { front = a.front; stands = plain a.stands; whole = a.whole; ends = a.ends }
  where
    none_some : (let o : Option (List ℕ) = None in o) ≡ Some behind → ⊥
    none_some e = cc

    plain : ElementSays reads (terms.Nullable t) other a.front → ElementSays reads t other a.front
    plain (inl h) = h
    plain (inr h) =
        let text_is : text ≡ codes "NULL" ++ behind = a.whole ∙ ap (λ f. f ++ behind) h.0 in
        absurd (none_some (sym e ∙ ap null_ahead text_is))

filled_read : (reads : ReadsStates) (t : terms.Ty) (text : List ℕ) (r : Result Found Missing) → null_ahead text ≡ None → IsElementRead (ElementSays reads t) text r → IsElementRead (ElementSays reads (terms.Nullable t)) text r
filled_read reads t text (Ok found) e f = record {
  front = f.front;
  stands = inl f.stands;
  whole = f.whole;
  only = λ other behind a. f.only other behind (not_null reads t text other behind e a);
}
filled_read reads t text (Err missing) e h =
    missing_by (ElementSays reads t) text (ElementSays reads (terms.Nullable t)) text (λ other behind a. (other, behind, not_null reads t text other behind e a, λ fault f. f)) missing h

-- ---- each kind

pub found_number : (reads : ReadsStates) (u : terms.Ty) (text : List ℕ) (said : Said) (rest : List ℕ) → HasRange u → IsFound (NumberSays (in_range u)) text said rest → IsFound (ElementSays reads u) text said rest
found_number reads (terms.Whole n) text said rest is h = h
found_number reads (terms.Signed w) text said rest is h = h
found_number reads u text said rest is h = absurd is

pub missing_number : (reads : ReadsStates) (u : terms.Ty) (text : List ℕ) (missing : Missing) → HasRange u → IsMissing (NumberSays (in_range u)) text missing → IsMissing (ElementSays reads u) text missing
missing_number reads (terms.Whole n) text missing is h = h
missing_number reads (terms.Signed w) text missing is h = h
missing_number reads u text missing is h = absurd is

module _ (reads : ReadsStates) (t : Ty) (text : List ℕ) where
  abbrev At : Result Found Missing → terms.Ty → Type 0
  At r u = IsElementRead (ElementSays reads u) text r

  pub at_Str : (r : Result Found Missing) → t ≡ ty.Str → IsElementRead (QuotedSays (λ bytes. Ok (family.Bytes bytes))) text r → At r (ty_of t)
  at_Str r e h = subst (At r) (sym (ap ty_of e ∙ ty_of-Str)) h

  pub at_State : (r : Result Found Missing) (c : Chain) (ts : List Ty) → t ≡ ty.State c ts → IsElementRead (QuotedSays (state_answer reads (ty_of t))) text r → At r (ty_of t)
  at_State r c ts e h =
      let is : ty_of t ≡ terms.StateOf (chain_of c) (terms.tys (map ty_of ts)) = ap ty_of e ∙ ty_of-State c ts in
      subst (At r) (sym is) (subst (λ u. IsElementRead (QuotedSays (state_answer reads u)) text r) is h)

  pub at_null : (of : Ty) (rest : List ℕ) → t ≡ ty.Nullable of → null_ahead text ≡ Some rest → IsFound (ElementSays reads (ty_of t)) text (Ok (value_of value.Nil)) rest
  at_null of rest e n =
      subst (λ u. IsFound (ElementSays reads u) text (Ok (value_of value.Nil)) rest) (sym (ap ty_of e ∙ ty_of-Nullable of))
      (subst (λ v. IsFound (ElementSays reads (terms.Nullable (ty_of of))) text (Ok v) rest) (sym value_of-Nil) (null_found reads (ty_of of) text rest n))

  pub at_filled : (r : Result Found Missing) (of : Ty) → t ≡ ty.Nullable of → null_ahead text ≡ None → IsElementRead (ElementSays reads (ty_of of)) text r → At r (ty_of t)
  at_filled r of e n h = subst (At r) (sym (ap ty_of e ∙ ty_of-Nullable of)) (filled_read reads (ty_of of) text r n h)

  pub at_Arr : (r : Result Found Missing) (item : Ty) (inside : List ℕ) → t ≡ ty.Arr item → behind_byte 91 text ≡ Some inside → IsElementRead (ArraySays (ElementSays reads (ty_of item))) inside r → At r (ty_of t)
  at_Arr r item inside e b h =
      subst (At r) (sym (ap ty_of e ∙ ty_of-Arr item))
      (subst (λ x. IsElementRead (ElementSays reads (terms.Arr (ty_of item))) x r) (sym (behind_some 91 (ArraySays (ElementSays reads (ty_of item))) text inside b))
      (behind_read 91 (ArraySays (ElementSays reads (ty_of item))) inside r h))

  pub no_Arr : (item : Ty) → t ≡ ty.Arr item → behind_byte 91 text ≡ None → IsMissing (ElementSays reads (ty_of t)) text Nothing
  no_Arr item e b = subst (λ u. IsMissing (ElementSays reads u) text Nothing) (sym (ap ty_of e ∙ ty_of-Arr item)) (behind_none 91 (ArraySays (ElementSays reads (ty_of item))) text b)

  pub at_Map : (r : Result Found Missing) (k item : Ty) (inside : List ℕ) → t ≡ ty.Map k item → behind_byte 123 text ≡ Some inside
      → IsElementRead (MapSays (ElementSays reads (ty_of k)) (ElementSays reads (ty_of item))) inside r → At r (ty_of t)
  at_Map r k item inside e b h =
      let says = MapSays (ElementSays reads (ty_of k)) (ElementSays reads (ty_of item)) in
      subst (At r) (sym (ap ty_of e ∙ ty_of-Map k item))
      (subst (λ x. IsElementRead (ElementSays reads (terms.MapTy (ty_of k) (ty_of item))) x r) (sym (behind_some 123 says text inside b)) (behind_read 123 says inside r h))

  pub no_Map : (k item : Ty) → t ≡ ty.Map k item → behind_byte 123 text ≡ None → IsMissing (ElementSays reads (ty_of t)) text Nothing
  no_Map k item e b =
      subst (λ u. IsMissing (ElementSays reads u) text Nothing) (sym (ap ty_of e ∙ ty_of-Map k item)) (behind_none 123 (MapSays (ElementSays reads (ty_of k)) (ElementSays reads (ty_of item))) text b)
