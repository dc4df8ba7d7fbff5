-- A text spells one type at most.
use Rattle.std.proofs.Common.{◌≡◌, ℕ, List, [], ◌∷◌, ◌++◌, codes, true, false, refl, sym, ap, ◌∙◌, append_assoc, append-nil}
use Rattle.std.specs.Str.{bytes_eq}
use Rattle.std.proofs.lemmas.Slice.Eq.{bytes_eq-Decides}
use Rattle.line_tokens.specs.Tokens.{Token, word, open_bracket, close_bracket, comma}
use Rattle.type_names.specs.TypeTexts.{WrittenType, plain, array, map_of, nullable, state, WrittenTypes, none, and_one, is_plain_name, literals_tokens, brackets, tokens_of, tokens_of_all, ShapeFits, ShapesFit, IsType}

not_plain : (w k : List ℕ) → is_plain_name k ≡ false → is_plain_name w ≡ true → w ≡ k → ⊥
not_plain w k unlike like e = let h : is_plain_name k ≡ true = sym (ap is_plain_name e) ∙ like in absurd cc

other_name : (j k : List ℕ) → bytes_eq j k ≡ false → j ≡ k → ⊥
other_name j k unlike e = let h : bytes_eq j k ≡ true = (bytes_eq-Decides j k).1 e in absurd cc

names : (w v : List ℕ) (r s : List Token) → word w ∷ r ≡ word v ∷ s → (w ≡ v) × (r ≡ s)
names w v r s e = (cc, cc)

-- behind a letter that is the same
behind : (x : Token) (r s : List Token) → x ∷ r ≡ x ∷ s → r ≡ s
behind x r s e = cc

same_literals : (ls ks r s : List Token) → literals_tokens ls ++ r ≡ literals_tokens ks ++ s → (ls ≡ ks) × (r ≡ s)
same_literals [] [] r s e = (refl, behind close_bracket r s e)
same_literals [] (k ∷ ks) r s e = absurd cc
same_literals (l ∷ ls) [] r s e = absurd cc
same_literals (l ∷ ls) (k ∷ ks) r s e =
    let p : (l ∷ (literals_tokens ls ++ r)) ≡ (k ∷ (literals_tokens ks ++ s)) = behind comma _ _ e in
    let one : l ≡ k = cc in
    let rest : literals_tokens ls ++ r ≡ literals_tokens ks ++ s = cc in
    let q = same_literals ls ks r s rest in
    (ap (λ x. x ∷ ls) one ∙ ap (λ x. k ∷ x) q.0, q.1)

no_bracket : (us : WrittenTypes) (r s : List Token) → open_bracket ∷ r ≡ tokens_of_all us ++ s → ⊥
no_bracket none r s e = absurd cc
no_bracket (and_one u us) r s e = absurd cc

same_brackets : (ls ks : List Token) (ts us : WrittenTypes) (r s : List Token) → brackets ls ++ (tokens_of_all ts ++ r) ≡ brackets ks ++ (tokens_of_all us ++ s) → (ls ≡ ks) × (tokens_of_all ts ++ r ≡ tokens_of_all us ++ s)
same_brackets [] [] ts us r s e = (refl, e)
same_brackets [] (k ∷ ks) ts us r s e = absurd (no_bracket ts _ r (sym e))
same_brackets (l ∷ ls) [] ts us r s e = absurd (no_bracket us _ s e)
same_brackets (l ∷ ls) (k ∷ ks) ts us r s e =
    let p : (l ∷ (literals_tokens ls ++ (tokens_of_all ts ++ r))) ≡ (k ∷ (literals_tokens ks ++ (tokens_of_all us ++ s))) = behind open_bracket _ _ e in
    let one : l ≡ k = cc in
    let rest : literals_tokens ls ++ (tokens_of_all ts ++ r) ≡ literals_tokens ks ++ (tokens_of_all us ++ s) = cc in
    let q = same_literals ls ks _ _ rest in
    (ap (λ x. x ∷ ls) one ∙ ap (λ x. k ∷ x) q.0, q.1)

regrouped : (x y z u v w : List Token) → (x ++ y) ++ z ≡ (u ++ v) ++ w → x ++ (y ++ z) ≡ u ++ (v ++ w)
regrouped x y z u v w e = sym (append_assoc x y z) ∙ e ∙ append_assoc u v w

mutual
  pub same_type : (x y : WrittenType) (r s : List Token) → ShapeFits x → ShapeFits y → tokens_of x ++ r ≡ tokens_of y ++ s → (x ≡ y) × (r ≡ s)
  same_type (plain w) (array b) r s f g e = absurd (not_plain w (codes "Array") refl f (names _ _ _ _ e).0)
  same_type (plain w) (map_of j b) r s f g e = absurd (not_plain w (codes "Map") refl f (names _ _ _ _ e).0)
  same_type (plain w) (nullable b) r s f g e = absurd (not_plain w (codes "Nullable") refl f (names _ _ _ _ e).0)
  same_type (plain w) (state m ks us) r s f g e = absurd (not_plain w (codes "AggregateFunction") refl f (names _ _ _ _ e).0)
  same_type (array a) (plain v) r s f g e = absurd (not_plain v (codes "Array") refl g (sym (names _ _ _ _ e).0))
  same_type (array a) (map_of j b) r s f g e = absurd (other_name (codes "Array") (codes "Map") refl (names _ _ _ _ e).0)
  same_type (array a) (nullable b) r s f g e = absurd (other_name (codes "Array") (codes "Nullable") refl (names _ _ _ _ e).0)
  same_type (array a) (state m ks us) r s f g e = absurd (other_name (codes "Array") (codes "AggregateFunction") refl (names _ _ _ _ e).0)
  same_type (map_of k a) (plain v) r s f g e = absurd (not_plain v (codes "Map") refl g (sym (names _ _ _ _ e).0))
  same_type (map_of k a) (array b) r s f g e = absurd (other_name (codes "Map") (codes "Array") refl (names _ _ _ _ e).0)
  same_type (map_of k a) (nullable b) r s f g e = absurd (other_name (codes "Map") (codes "Nullable") refl (names _ _ _ _ e).0)
  same_type (map_of k a) (state m ks us) r s f g e = absurd (other_name (codes "Map") (codes "AggregateFunction") refl (names _ _ _ _ e).0)
  same_type (nullable a) (plain v) r s f g e = absurd (not_plain v (codes "Nullable") refl g (sym (names _ _ _ _ e).0))
  same_type (nullable a) (array b) r s f g e = absurd (other_name (codes "Nullable") (codes "Array") refl (names _ _ _ _ e).0)
  same_type (nullable a) (map_of j b) r s f g e = absurd (other_name (codes "Nullable") (codes "Map") refl (names _ _ _ _ e).0)
  same_type (nullable a) (state m ks us) r s f g e = absurd (other_name (codes "Nullable") (codes "AggregateFunction") refl (names _ _ _ _ e).0)
  same_type (state n ls ts) (plain v) r s f g e = absurd (not_plain v (codes "AggregateFunction") refl g (sym (names _ _ _ _ e).0))
  same_type (state n ls ts) (array b) r s f g e = absurd (other_name (codes "AggregateFunction") (codes "Array") refl (names _ _ _ _ e).0)
  same_type (state n ls ts) (map_of j b) r s f g e = absurd (other_name (codes "AggregateFunction") (codes "Map") refl (names _ _ _ _ e).0)
  same_type (state n ls ts) (nullable b) r s f g e = absurd (other_name (codes "AggregateFunction") (codes "Nullable") refl (names _ _ _ _ e).0)
  same_type (plain w) (plain v) r s f g e = let p = names w v r s e in (ap plain p.0, p.1)
  same_type (array a) (array b) r s f g e =
      let inner = behind open_bracket _ _ (names _ _ _ _ e).1 in
      let p = same_type a b (close_bracket ∷ r) (close_bracket ∷ s) f g (regrouped (tokens_of a) (close_bracket ∷ []) r (tokens_of b) (close_bracket ∷ []) s inner) in
      (ap array p.0, behind close_bracket r s p.1)
  same_type (nullable a) (nullable b) r s f g e =
      let inner = behind open_bracket _ _ (names _ _ _ _ e).1 in
      let p = same_type a b (close_bracket ∷ r) (close_bracket ∷ s) f.1 g.1 (regrouped (tokens_of a) (close_bracket ∷ []) r (tokens_of b) (close_bracket ∷ []) s inner) in
      (ap nullable p.0, behind close_bracket r s p.1)
  same_type (map_of k a) (map_of j b) r s f g e =
      let inner = behind open_bracket _ _ (names _ _ _ _ e).1 in
      let key = same_type k j _ _ f.1 g.1 (regrouped (tokens_of k) (comma ∷ (tokens_of a ++ (close_bracket ∷ []))) r (tokens_of j) (comma ∷ (tokens_of b ++ (close_bracket ∷ []))) s inner) in
      let value = behind comma _ _ key.1 in
      let p = same_type a b (close_bracket ∷ r) (close_bracket ∷ s) f.2 g.2 (regrouped (tokens_of a) (close_bracket ∷ []) r (tokens_of b) (close_bracket ∷ []) s value) in
      (ap (λ x. map_of x a) key.0 ∙ ap (λ x. map_of j x) p.0, behind close_bracket r s p.1)
  same_type (state n ls ts) (state m ks us) r s f g e =
      let inner = behind open_bracket _ _ (names _ _ _ _ e).1 in
      let name = names n m _ _ inner in
      let literals = same_brackets ls ks ts us r s (regrouped (brackets ls) (tokens_of_all ts) r (brackets ks) (tokens_of_all us) s name.1) in
      let p = same_types ts us r s f.1 g.1 literals.1 in
      (ap (λ x. state x ls ts) name.0 ∙ ap (λ x. state m x ts) literals.0 ∙ ap (λ x. state m ks x) p.0, p.1)

  same_types : (x y : WrittenTypes) (r s : List Token) → ShapesFit x → ShapesFit y → tokens_of_all x ++ r ≡ tokens_of_all y ++ s → (x ≡ y) × (r ≡ s)
  same_types none none r s f g e = (refl, behind close_bracket r s e)
  same_types none (and_one b us) r s f g e = absurd cc
  same_types (and_one a ts) none r s f g e = absurd cc
  same_types (and_one a ts) (and_one b us) r s f g e =
      let inner = behind comma _ _ e in
      let p = same_type a b _ _ f.0 g.0 (regrouped (tokens_of a) (tokens_of_all ts) r (tokens_of b) (tokens_of_all us) s inner) in
      let q = same_types ts us r s f.1 g.1 p.1 in
      (ap (λ x. and_one x ts) p.0 ∙ ap (λ x. and_one b x) q.0, q.1)

pub one_type : (tokens : List Token) (x y : WrittenType) → IsType tokens x → IsType tokens y → x ≡ y
one_type tokens x y f g = (same_type x y [] [] f.0 g.0 (append-nil (tokens_of x) ∙ sym f.1 ∙ g.1 ∙ sym (append-nil (tokens_of y)))).0
