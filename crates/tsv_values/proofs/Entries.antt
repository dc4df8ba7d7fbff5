-- Entries of a map, read part by part.
use Rattle.std.proofs.Common.{◌≡◌, ℕ, Bool, true, false, cond, List, [], ◌∷◌, ◌++◌, append_assoc, Option, Some, None, Result, Ok, refl, sym, ap, subst, ◌∙◌, eqb}
use Rattle.std.proofs.lemmas.Bool.{eqb-true}
use Rattle.first_fault.specs.Grammar.{Then}
use Rattle.agg_terms.specs.Values as family
use Rattle.field_texts.specs.Syntax.{Token}
use Rattle.scalar_texts.specs.declared.fault.FieldFault.{FieldFault}
use Rattle.tsv_values.specs.declared.found.Missing.{Missing}
use Rattle.tsv_values.specs.declared.found.Missing.TheVariants.{Nothing}
use Rattle.tsv_values.specs.Elements.{EntrySays, Said, Spaced, entry_of}
use Rattle.tsv_values.specs.proving.Reading.{Ends, IsAhead, IsFound, IsMissing}
use Rattle.tsv_values.specs.proving.Steps.{after_spaces, colon_step}
use Rattle.tsv_values.proofs.Fronts.{missing_by}
use Rattle.tsv_values.proofs.Lists.{AllBegin, begins_starts, token_ends}
use Rattle.tsv_values.proofs.Spaces.{ahead_spaced, ahead_token, spaced_ahead, then_ahead, token_ahead}

-- the colon
colon_test : (t : Bool) (b : ℕ) (u line : List ℕ) → eqb b 58 ≡ t → (let o : Option (List ℕ) = cond t (Some (after_spaces u)) None in o) ≡ Some line → (b ≡ 58) × (after_spaces u ≡ line)
colon_test true b u line t e = (eqb-true b 58 t, cc)
colon_test false b u line t e = absurd cc

record IsColon (text line : List ℕ) : Type 0 where
  behind : List ℕ
  colon : after_spaces text ≡ 58 ∷ behind
  line_is : after_spaces behind ≡ line

colon_at : (u text line : List ℕ) → after_spaces text ≡ u → colon_step u ≡ Some line → IsColon text line
colon_at [] text line e s = absurd cc
colon_at (b ∷ u) text line e s = let t = colon_test (eqb b 58) b u line refl s in record { behind = u; colon = e ∙ ap (λ c. c ∷ u) t.0; line_is = t.1 }

module _ (key item : Said → List ℕ → Type 0) (item_begins : AllBegin item) where
  -- what an entry at the front is made of
  pub record IsSplit (text : List ℕ) (other : Result (family.Value × family.Value) FieldFault) (behind : List ℕ) : Type 0 where
    pub k : Said
    pub v : Said
    pub said : other ≡ entry_of k v
    pub rest : List ℕ
    pub first : IsAhead key text k rest
    pub line : List ℕ
    pub colon : after_spaces rest ≡ 58 ∷ line
    pub second : IsAhead item (after_spaces line) v behind

  pub split : (text : List ℕ) (other : Result (family.Value × family.Value) FieldFault) (behind : List ℕ) → IsAhead (EntrySays key item) text other behind → IsSplit text other behind
  split text other behind a =
      let k = a.stands.0 in
      let v = a.stands.1 in
      let t = a.stands.2 in
      let whole : text ≡ t.front ++ (t.rest ++ behind) = then_ahead (key k) (Then (Token 58) (Spaced item v)) text a.front behind t a.whole in
      let u = t.second in
      let tail : t.rest ++ behind ≡ u.front ++ (u.rest ++ behind) = then_ahead (Token 58) (Spaced item v) (t.rest ++ behind) t.rest behind u refl in
      let s = spaced_ahead (item v) (u.rest ++ behind) u.rest behind u.second (λ m is. begins_starts m behind (item_begins v m is)) refl in
      record {
        k = k;
        v = v;
        said = a.stands.3;
        rest = t.rest ++ behind;
        first = record { front = t.front; stands = t.first; whole = whole; ends = subst Ends (sym tail) (token_ends 58 u.front (u.rest ++ behind) refl u.first) };
        line = u.rest ++ behind;
        colon = token_ahead 58 (t.rest ++ behind) u.front (u.rest ++ behind) refl u.first tail;
        second = record { front = s.0; stands = s.1; whole = s.2; ends = a.ends };
      }

  pub no_key : (text : List ℕ) (missing : Missing) → IsMissing key text missing → IsMissing (EntrySays key item) text missing
  no_key text missing h =
      missing_by key text (EntrySays key item) text
      (λ other behind a. let s = split text other behind a in (s.k, s.rest, s.first, λ fault e. s.said ∙ ap (λ k. entry_of k s.v) e)) missing h

  some_colon : (text behind line : List ℕ) (o : Option (List ℕ)) → o ≡ colon_step (after_spaces text) → after_spaces text ≡ 58 ∷ behind → o ≡ Some (after_spaces behind)
  some_colon text behind line o e c = e ∙ ap colon_step c

  module _ (text rest : List ℕ) (k : family.Value) (found : IsFound key text (Ok k) rest) where
    pub no_colon : colon_step (after_spaces rest) ≡ None → IsMissing (EntrySays key item) text Nothing
    no_colon e = λ other behind a.
        let s = split text other behind a in
        let same = found.only s.k s.rest s.first in
        none_is (after_spaces s.line) (sym e ∙ ap (λ r. colon_step (after_spaces r)) (sym same.1) ∙ ap colon_step s.colon)
      where
        none_is : (x : List ℕ) → (let o : Option (List ℕ) = None in o) ≡ Some x → ⊥
        none_is x e = cc

    -- behind the colon of what was found
    second_at : (line : List ℕ) → colon_step (after_spaces rest) ≡ Some line → (other : Result (family.Value × family.Value) FieldFault) (behind : List ℕ) → IsAhead (EntrySays key item) text other behind
        → (v : Said) × IsAhead item line v behind × (other ≡ entry_of (Ok k) v)
    second_at line e other behind a =
        let s = split text other behind a in
        let same = found.only s.k s.rest s.first in
        let c = colon_at (after_spaces rest) rest line refl e in
        let both : 58 ∷ s.line ≡ 58 ∷ c.behind = sym s.colon ∙ ap after_spaces same.1 ∙ c.colon in
        let line_is : after_spaces s.line ≡ line = ap after_spaces (tail_same s.line c.behind both) ∙ c.line_is in
        (s.v, subst (λ l. IsAhead item l s.v behind) line_is s.second, s.said ∙ ap (λ k. entry_of k s.v) same.0)
      where
        tail_same : (a b : List ℕ) → 58 ∷ a ≡ 58 ∷ b → a ≡ b
        tail_same a b e = cc

    pub no_value : (line : List ℕ) (missing : Missing) → colon_step (after_spaces rest) ≡ Some line → IsMissing item line missing → IsMissing (EntrySays key item) text missing
    no_value line missing e h =
        missing_by item line (EntrySays key item) text
        (λ other behind a. let s = second_at line e other behind a in (s.0, behind, s.1, λ fault f. s.2 ∙ ap (entry_of (Ok k)) f)) missing h

    pub entry_found : (line left : List ℕ) (v : family.Value) → colon_step (after_spaces rest) ≡ Some line → IsFound item line (Ok v) left → IsFound (EntrySays key item) text (Ok (k, v)) left
    entry_found line left v e f =
        let c = colon_at (after_spaces rest) rest line refl e in
        let t = ahead_token 58 rest c.behind c.colon in
        let s = ahead_spaced (item (Ok v)) c.behind f.front left f.stands (c.line_is ∙ f.whole) in
        record {
          front = found.front ++ (t.0 ++ s.0);
          stands = (
            Ok k,
            Ok v,
            record { front = found.front; rest = t.0 ++ s.0; first = found.stands; second = record { front = t.0; rest = s.0; first = t.1; second = s.1; whole = refl }; whole = refl },
            refl,
          );
          whole = found.whole ∙ ap (λ x. found.front ++ x) (t.2 ∙ ap (λ x. t.0 ++ x) s.2 ∙ sym (append_assoc t.0 s.0 left)) ∙ sym (append_assoc found.front (t.0 ++ s.0) left);
          only = λ other behind a.
              let o = second_at line e other behind a in
              let same = f.only o.0 behind o.1 in
              (o.2 ∙ ap (entry_of (Ok k)) same.0, same.1);
        }
