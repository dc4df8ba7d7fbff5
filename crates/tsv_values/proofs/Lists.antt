-- Lists of elements, read one by one.
use Rattle.std.proofs.Common.{◌≡◌, ℕ, Bool, true, false, cond, List, [], ◌∷◌, ◌++◌, map, append_assoc, Result, Ok, Err, refl, sym, ap, subst, ◌∙◌, arith, eqb}
use Rattle.std.proofs.lemmas.Bool.{eqb-true}
use Rattle.first_fault.specs.Grammar.{Then}
use Rattle.field_texts.specs.Syntax.{IsSpaces, Token}
use Rattle.scalar_texts.specs.declared.fault.FieldFault.{FieldFault}
use Rattle.tsv_values.specs.declared.found.Missing.{Missing}
use Rattle.tsv_values.specs.declared.found.Missing.TheVariants.{Nothing}
use Rattle.tsv_values.specs.Elements.{ListSays, MoreSay, OpenedSay, Spaced, all_of}
use Rattle.tsv_values.specs.proving.Reading.{Ends, IsFound, IsMissing}
use Rattle.tsv_values.specs.proving.Steps.{Step, one_more, ends, neither, after_spaces, first_step, more_step}
use Rattle.tsv_values.proofs.Fronts.{missing_by}
use Rattle.tsv_values.proofs.Spaces.{Starts, ahead_spaced, ahead_token, spaced_ahead, then_ahead, token_ahead}

-- the first byte of an element
abbrev pub Begins : List ℕ → Type 0
Begins [] = ⊥
Begins (b ∷ text) = (eqb b 32 ≡ false) × (eqb b 93 ≡ false) × (eqb b 125 ≡ false)

abbrev pub AllBegin : {A : Type 0} → (A → List ℕ → Type 0) → Type 0
AllBegin {A} says = (x : A) (text : List ℕ) → says x text → Begins text

-- the byte at the end of a list
pub record IsClosing (closing : ℕ) : Type 0 where
  pub no_space : eqb closing 32 ≡ false
  pub no_comma : eqb closing 44 ≡ false
  pub quiet : (behind : List ℕ) → Ends (closing ∷ behind)
  pub no_first : (b : ℕ) (text : List ℕ) → Begins (b ∷ text) → eqb b closing ≡ false

pub bracket : IsClosing 93
bracket = record { no_space = refl; no_comma = refl; quiet = λ b. refl; no_first = λ b text h. h.1 }

pub brace : IsClosing 125
brace = record { no_space = refl; no_comma = refl; quiet = λ b. refl; no_first = λ b text h. h.2 }

pub begins_starts : (m behind : List ℕ) → Begins m → Starts (m ++ behind)
begins_starts [] behind h = absurd h
begins_starts (b ∷ m) behind h = h.0

-- nothing goes on with a number's byte
space_ends : (s u : List ℕ) → IsSpaces s → Ends u → Ends (s ++ u)
space_ends [] u sp e = e
space_ends (b ∷ s) u sp e = subst (λ b. Ends (b ∷ (s ++ u))) (sym sp.0) refl

pub token_ends : (b : ℕ) (front behind : List ℕ) → Ends (b ∷ behind) → Token b front → Ends (front ++ behind)
token_ends b front behind e r =
    subst Ends (sym (ap (λ x. x ++ behind) r.whole ∙ append_assoc r.front r.rest behind))
    (space_ends r.front (r.rest ++ behind) r.first (subst (λ t. Ends (t ++ behind)) (sym r.second) e))

module _ {X : Type 0} (says : Result X FieldFault → List ℕ → Type 0) (closing : ℕ) (close : IsClosing closing) (begin : AllBegin says) where
  -- one element and then others
  pub record IsOneMore (text : List ℕ) (xs : List (Result X FieldFault)) (behind : List ℕ) : Type 0 where
    pub head : Result X FieldFault
    pub others : List (Result X FieldFault)
    pub is : xs ≡ head ∷ others
    pub front : List ℕ
    pub rest : List ℕ
    pub first : says head front
    pub second : MoreSay says closing others rest
    pub whole : text ≡ front ++ (rest ++ behind)

  -- what a step leads to
  abbrev pub To : Step → List (Result X FieldFault) → List ℕ → Type 0
  To (one_more text) xs behind = IsOneMore text xs behind
  To (ends text) xs behind = (xs ≡ []) × (behind ≡ text)
  To neither xs behind = ⊥

  abbrev pub Opens : List ℕ → List (Result X FieldFault) → List ℕ → Type 0
  Opens text xs behind = (front : List ℕ) × OpenedSay says closing xs front × (text ≡ front ++ behind)

  abbrev pub Goes : List ℕ → List (Result X FieldFault) → List ℕ → Type 0
  Goes text xs behind = (front : List ℕ) × MoreSay says closing xs front × (text ≡ front ++ behind)

  pub more_ends : (xs : List (Result X FieldFault)) (rest behind : List ℕ) → MoreSay says closing xs rest → Ends (rest ++ behind)
  more_ends [] rest behind h = token_ends closing rest behind (close.quiet behind) h
  more_ends (x ∷ xs) rest behind h = subst Ends (sym (then_ahead (Token 44) (Then (Spaced says x) (MoreSay says closing xs)) (rest ++ behind) rest behind h refl)) (token_ends 44 h.front (h.rest ++ behind) refl h.first)

  at_one : (x : Result X FieldFault) (xs : List (Result X FieldFault)) (text front behind : List ℕ) → Then (Spaced says x) (MoreSay says closing xs) front → text ≡ front ++ behind → IsOneMore (after_spaces text) (x ∷ xs) behind
  at_one x xs text front behind h e =
      let s = spaced_ahead (says x) text h.front (h.rest ++ behind) h.first (λ m is. begins_starts m (h.rest ++ behind) (begin x m is)) (then_ahead (Spaced says x) (MoreSay says closing xs) text front behind h e) in
      record { head = x; others = xs; is = refl; front = s.0; rest = h.rest; first = s.1; second = h.second; whole = s.2 }

  one_at : (text : List ℕ) (xs : List (Result X FieldFault)) (behind : List ℕ) → (o : IsOneMore (after_spaces text) xs behind) → (front : List ℕ) × Then (Spaced says o.head) (MoreSay says closing o.others) front × (text ≡ front ++ behind)
  one_at text xs behind o =
      let s = ahead_spaced (says o.head) text o.front (o.rest ++ behind) o.first o.whole in
      (s.0 ++ o.rest, record { front = s.0; rest = o.rest; first = s.1; second = o.second; whole = refl }, s.2 ∙ sym (append_assoc s.0 o.rest behind))

  first_is_one : (u : List ℕ) (xs : List (Result X FieldFault)) (behind : List ℕ) → IsOneMore u xs behind → To (first_step closing u) xs behind
  first_is_one [] xs behind o = o
  first_is_one (b ∷ u) xs behind o = rw (not_closing b u o.front (o.rest ++ behind) (begin o.head o.front o.first) o.whole) o
    where
      not_closing : (b : ℕ) (u front more : List ℕ) → Begins front → b ∷ u ≡ front ++ more → eqb b closing ≡ false
      not_closing b u [] more h e = absurd h
      not_closing b u (c ∷ front) more h e = let same : b ≡ c = cc in subst (λ d. eqb d closing ≡ false) (sym same) (close.no_first c front h)

  same_byte : (b : ℕ) → eqb b b ≡ true
  same_byte b = grind arith

  pub first_to : (text : List ℕ) (xs : List (Result X FieldFault)) (behind : List ℕ) → Opens text xs behind → To (first_step closing (after_spaces text)) xs behind
  first_to text [] behind h = rw (token_ahead closing text h.0 behind close.no_space h.1 h.2, same_byte closing) (refl, refl)
  first_to text (x ∷ xs) behind h = first_is_one (after_spaces text) (x ∷ xs) behind (at_one x xs text h.0 behind h.1 h.2)

  opens_one : (text : List ℕ) (xs : List (Result X FieldFault)) (behind : List ℕ) → IsOneMore (after_spaces text) xs behind → Opens text xs behind
  opens_one text xs behind o = subst (λ xs. Opens text xs behind) (sym o.is) (one_at text xs behind o)

  end_test : (t : Bool) (b : ℕ) (u : List ℕ) (text : List ℕ) (xs : List (Result X FieldFault)) (behind : List ℕ) → eqb b closing ≡ t → after_spaces text ≡ b ∷ u
      → To (cond t (ends u) (one_more (b ∷ u))) xs behind → Opens text xs behind
  end_test true b u text xs behind t e h =
      let close_is : after_spaces text ≡ closing ∷ behind = e ∙ ap (λ c. c ∷ u) (eqb-true b closing t) ∙ ap (λ u. closing ∷ u) (sym h.1) in
      subst (λ xs. Opens text xs behind) (sym h.0) (ahead_token closing text behind close_is)
  end_test false b u text xs behind t e h = opens_one text xs behind (subst (λ u. IsOneMore u xs behind) (sym e) h)

  to_first_at : (u text : List ℕ) (xs : List (Result X FieldFault)) (behind : List ℕ) → after_spaces text ≡ u → To (first_step closing u) xs behind → Opens text xs behind
  to_first_at [] text xs behind e h = opens_one text xs behind (subst (λ u. IsOneMore u xs behind) (sym e) h)
  to_first_at (b ∷ u) text xs behind e h = end_test (eqb b closing) b u text xs behind refl e h

  pub to_first : (text : List ℕ) (xs : List (Result X FieldFault)) (behind : List ℕ) → To (first_step closing (after_spaces text)) xs behind → Opens text xs behind
  to_first text xs behind h = to_first_at (after_spaces text) text xs behind refl h

  pub more_to : (text : List ℕ) (xs : List (Result X FieldFault)) (behind : List ℕ) → Goes text xs behind → To (more_step closing (after_spaces text)) xs behind
  more_to text [] behind h = rw (token_ahead closing text h.0 behind close.no_space h.1 h.2, close.no_comma, same_byte closing) (refl, refl)
  more_to text (x ∷ xs) behind h =
      let whole = then_ahead (Token 44) (Then (Spaced says x) (MoreSay says closing xs)) text h.0 behind h.1 h.2 in
      rw (token_ahead 44 text h.1.front (h.1.rest ++ behind) refl h.1.first whole) (at_one x xs (h.1.rest ++ behind) h.1.rest behind h.1.second refl)

  behind_comma : (text u : List ℕ) (xs : List (Result X FieldFault)) (behind : List ℕ) → after_spaces text ≡ 44 ∷ u → IsOneMore (after_spaces u) xs behind → Goes text xs behind
  behind_comma text u xs behind e o =
      let r = one_at u xs behind o in
      let c = ahead_token 44 text u e in
      subst (λ xs. Goes text xs behind) (sym o.is) (
        c.0 ++ r.0,
        record { front = c.0; rest = r.0; first = c.1; second = r.1; whole = refl },
        c.2 ∙ ap (λ x. c.0 ++ x) r.2 ∙ sym (append_assoc c.0 r.0 behind),
      )

  stop_test : (t : Bool) (b : ℕ) (u : List ℕ) (text : List ℕ) (xs : List (Result X FieldFault)) (behind : List ℕ) → eqb b closing ≡ t → after_spaces text ≡ b ∷ u → To (cond t (ends u) neither) xs behind → Goes text xs behind
  stop_test true b u text xs behind t e h =
      let close_is : after_spaces text ≡ closing ∷ behind = e ∙ ap (λ c. c ∷ u) (eqb-true b closing t) ∙ ap (λ u. closing ∷ u) (sym h.1) in
      subst (λ xs. Goes text xs behind) (sym h.0) (ahead_token closing text behind close_is)
  stop_test false b u text xs behind t e h = absurd h

  comma_test : (t : Bool) (b : ℕ) (u : List ℕ) (text : List ℕ) (xs : List (Result X FieldFault)) (behind : List ℕ) → eqb b 44 ≡ t → after_spaces text ≡ b ∷ u
      → To (cond t (one_more (after_spaces u)) (cond (eqb b closing) (ends u) neither)) xs behind → Goes text xs behind
  comma_test true b u text xs behind t e h = behind_comma text u xs behind (e ∙ ap (λ c. c ∷ u) (eqb-true b 44 t)) h
  comma_test false b u text xs behind t e h = stop_test (eqb b closing) b u text xs behind refl e h

  to_more_at : (u text : List ℕ) (xs : List (Result X FieldFault)) (behind : List ℕ) → after_spaces text ≡ u → To (more_step closing u) xs behind → Goes text xs behind
  to_more_at [] text xs behind e h = absurd h
  to_more_at (b ∷ u) text xs behind e h = comma_test (eqb b 44) b u text xs behind refl e h

  pub to_more : (text : List ℕ) (xs : List (Result X FieldFault)) (behind : List ℕ) → To (more_step closing (after_spaces text)) xs behind → Goes text xs behind
  to_more text xs behind h = to_more_at (after_spaces text) text xs behind refl h

  -- ---- the loop: these were found so far

  pub record IsSoFar (text : List ℕ) (step : Step) (xs : List X) : Type 0 where
    pub only : (parts : List (Result X FieldFault)) (behind : List ℕ) → Opens text parts behind → (ys : List (Result X FieldFault)) × (parts ≡ map Ok xs ++ ys) × To step ys behind
    pub found : (ys : List (Result X FieldFault)) (behind : List ℕ) → To step ys behind → Opens text (map Ok xs ++ ys) behind

  pub begun : (text : List ℕ) → IsSoFar text (first_step closing (after_spaces text)) []
  begun text = record {
    only = λ parts behind h. (parts, refl, first_to text parts behind h);
    found = λ ys behind h. to_first text ys behind h;
  }

  one_on : (xs : List X) (x : X) (ys : List (Result X FieldFault)) → map Ok xs ++ (Ok x ∷ ys) ≡ map Ok (xs ++ x ∷ []) ++ ys
  one_on [] x ys = refl
  one_on (y ∷ xs) x ys = ap (λ t. Ok y ∷ t) (one_on xs x ys)

  pub gone_on : (text at rest : List ℕ) (xs : List X) (x : X) → IsSoFar text (one_more at) xs → IsFound says at (Ok x) rest → IsSoFar text (more_step closing (after_spaces rest)) (xs ++ x ∷ [])
  gone_on text at rest xs x so f = record {
    only = λ parts behind h.
        let p = so.only parts behind h in
        let o : IsOneMore at p.0 behind = p.2 in
        let one = f.only o.head (o.rest ++ behind) (record { front = o.front; stands = o.first; whole = o.whole; ends = more_ends o.others o.rest behind o.second }) in (
          o.others,
          p.1 ∙ ap (λ ys. map Ok xs ++ ys) (o.is ∙ ap (λ y. y ∷ o.others) one.0) ∙ one_on xs x o.others,
          more_to rest o.others behind (o.rest, o.second, sym one.1),
        );
    found = λ ys behind h.
        let g = to_more rest ys behind h in
        let opens = so.found (Ok x ∷ ys) behind (record { head = Ok x; others = ys; is = refl; front = f.front; rest = g.0; first = f.stands; second = g.1; whole = f.whole ∙ ap (λ t. f.front ++ t) g.2 }) in
        subst (λ parts. Opens text parts behind) (one_on xs x ys) opens;
  }

  all_oks : (xs : List X) → all_of (map Ok xs ++ []) ≡ Ok xs
  all_oks [] = refl
  all_oks (x ∷ xs) = rw (all_oks xs) refl

  oks_err : (xs : List X) (fault : FieldFault) (ys : List (Result X FieldFault)) → all_of (map Ok xs ++ (Err fault ∷ ys)) ≡ Err fault
  oks_err [] fault ys = refl
  oks_err (x ∷ xs) fault ys = rw (oks_err xs fault ys) refl

  pub ended : (text rest : List ℕ) (xs : List X) → IsSoFar text (ends rest) xs → IsFound (ListSays says closing) text (Ok xs) rest
  ended text rest xs so =
      let o = so.found [] rest (refl, refl) in
      record {
        front = o.0;
        stands = (map Ok xs ++ [], o.1, sym (all_oks xs));
        whole = o.2;
        only = λ other behind h.
            let p = so.only h.stands.0 behind (h.front, h.stands.1, h.whole) in
            (h.stands.2 ∙ ap all_of (p.1 ∙ ap (λ ys. map Ok xs ++ ys) p.2.0) ∙ all_oks xs, p.2.1);
      }

  pub not_ended : (text : List ℕ) (xs : List X) → IsSoFar text neither xs → IsMissing (ListSays says closing) text Nothing
  not_ended text xs so = λ other behind h. (so.only h.stands.0 behind (h.front, h.stands.1, h.whole)).2

  pub stopped : (text at : List ℕ) (xs : List X) (missing : Missing) → IsSoFar text (one_more at) xs → IsMissing says at missing → IsMissing (ListSays says closing) text missing
  stopped text at xs missing so h =
      missing_by says at (ListSays says closing) text
      (λ other behind a.
      let p = so.only a.stands.0 behind (a.front, a.stands.1, a.whole) in
      let o : IsOneMore at p.0 behind = p.2 in (
        o.head,
        o.rest ++ behind,
        record { front = o.front; stands = o.first; whole = o.whole; ends = more_ends o.others o.rest behind o.second },
        λ fault e. a.stands.2 ∙ ap all_of (p.1 ∙ ap (λ ys. map Ok xs ++ ys) (o.is ∙ ap (λ y. y ∷ o.others) e)) ∙ oks_err xs fault o.others,
      )) missing h
