-- Calls at the items of a list, by their places.
use Rattle.std.proofs.Common.{◌≡◌, ℕ, ◌+◌, ◌-◌, ◌<◌, ◌≤◌, List, ◌++◌, length, get_or, set, refl, sym, ap, ◌∙◌, arith, subst, length-append}
use mathlib.Core.Logic.{inl, inr}
use denote.Ref.{MutBor}
use denote.Param.Members.{Shared}
use Rattle.std.proofs.lemmas.Bool.{cases_lt}
use Rattle.std.proofs.lemmas.List.{get_or_append_left, get_or-append_right, get_or_default, get_or-set_other, get_or-set_same}
use Rattle.std.specs.Fork.{AcceptsAt, ChangesAt}
use Rattle.batch_reader.specs.proving.Apart.{AcceptsFrom, ChangesFrom}

-- one call more, of calls one after another
pub turn-more : {X : Type 0} (R : ℕ → X → X → Type 0) (xs ys : List X) (k : ℕ) (e y : X) → k < length ys → ((j : ℕ) (d : X) → k ≤ j → get_or ys j d ≡ get_or xs j d)
    → ((j : ℕ) (d : X) → j < k → R j (get_or xs j d) (get_or ys j d)) → R k (get_or ys k e) y → (j : ℕ) (d : X) → j < k + 1 → R j (get_or xs j d) (get_or (set ys k y) j d)
turn-more R xs ys k e y within ahead done here j d below =
    elim (cases_lt j k) [
      | inl before ↦ subst (R j (get_or xs j d)) (sym (get_or-set_other ys k j y d (λ same. omega (arith, before, same)))) (done j d before)
      | inr past ↦ (let same : k ≡ j = omega (arith, past, below) in
          subst (λ (n : ℕ). R n (get_or xs n d) (get_or (set ys k y) n d)) same
          (subst (R k (get_or xs k d)) (sym (get_or-set_same ys k y d within)) (subst (λ x. R k x y) (get_or_default ys k e d within ∙ ahead k d (omega arith)) here)))
    ]

-- an item behind the first part
behind : {X : Type 0} (xs first rest : List X) (len k : ℕ) (d : X) → xs ≡ first ++ rest → length first ≡ len → get_or xs (len + k) d ≡ get_or rest k d
behind xs first rest len k d cut long =
    let place : (len + k) - len ≡ k = omega arith in
    ap (λ l. get_or l (len + k) d) cut ∙ get_or-append_right first rest len (len + k) d long (omega arith) ∙ ap (λ n. get_or rest n d) place

module _ {F T : Type 0} (g : Shared F (ℕ × (MutBor T × Unit {0})) ((Unit {0}) × (MutBor T × Unit {0}))) (f : F) (base len : ℕ) where
  pub accepts-rest : (xs first rest : List T) → xs ≡ first ++ rest → length first ≡ len → AcceptsFrom g f base xs → AcceptsFrom g f (base + len) rest
  accepts-rest xs first rest cut long accepts = record {
    each = λ k d within.
        let place : base + (len + k) ≡ (base + len) + k = omega arith in
        subst (λ n. AcceptsAt g f n (get_or rest k d)) place
        (subst (AcceptsAt g f (base + (len + k))) (behind xs first rest len k d cut long) (accepts.each (len + k) d (omega (arith, within, long, ap length cut, length-append first rest))));
  }

  pub changes-both : (xs first rest after behind_it : List T) → xs ≡ first ++ rest → length first ≡ len → length after ≡ length first → ChangesFrom g f base first after → ChangesFrom g f (base + len) rest behind_it
      → ChangesFrom g f base xs (after ++ behind_it)
  changes-both xs first rest after behind_it cut long same a b = record {
    each = λ k d within. elim (cases_lt k len) [
      | inl before ↦
          (let old : get_or first k d ≡ get_or xs k d = sym (ap (λ l. get_or l k d) cut ∙ get_or_append_left first rest d k (omega (arith, before, long))) in
          let new : get_or after k d ≡ get_or (after ++ behind_it) k d = sym (get_or_append_left after behind_it d k (omega (arith, before, long, same))) in
          subst (ChangesAt g f (base + k) (get_or xs k d)) new (subst (λ x. ChangesAt g f (base + k) x (get_or after k d)) old (a.each k d (omega (arith, before, long)))))
      | inr past ↦
          (let i = k - len in
          let at : len + i ≡ k = omega (arith, past) in
          let place : (base + len) + i ≡ base + k = omega (arith, at) in
          let old : get_or rest i d ≡ get_or xs k d = sym (behind xs first rest len i d cut long) ∙ ap (λ n. get_or xs n d) at in
          let new : get_or behind_it i d ≡ get_or (after ++ behind_it) k d = sym (behind (after ++ behind_it) after behind_it len i d refl (same ∙ long)) ∙ ap (λ n. get_or (after ++ behind_it) n d) at in
          subst (λ n. ChangesAt g f n (get_or xs k d) (get_or (after ++ behind_it) k d)) place
          (subst (ChangesAt g f ((base + len) + i) (get_or xs k d)) new (subst (λ x. ChangesAt g f ((base + len) + i) x (get_or behind_it i d)) old
          (b.each i d (omega (arith, within, at, long, ap length cut, length-append first rest))))))
    ];
  }
