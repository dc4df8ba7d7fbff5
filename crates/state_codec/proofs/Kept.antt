-- Lists whose items were tested against those before them.
use Rattle.std.proofs.Common.{◌≡◌, ◌≢◌, Bool, true, false, not, cond, List, [], ◌∷◌, refl, sym, ap, ◌∙◌, true≢false, Ordering, Less, Equal, Greater}
use Rattle.std.specs.Ordering.{is_lt, is_le, is_eq}
use Rattle.agg_terms.proofs.Sorting.{IsOrder, itself}
use Rattle.agg_terms.specs.Lists.{some, Each, Apart, Stepwise, Rising, NotFalling}
use Rattle.state_codec.specs.Reading.{rises, holds_up, is_new}
use Rattle.state_codec.proofs.Exact.{AllAfter}

-- ---- no test

pub each_to : {X : Type 0} (P : X → Type 0) (earlier xs : List X) → AllAfter (λ e. P) earlier xs → Each P xs
each_to P earlier [] k = tt
each_to P earlier (x ∷ xs) k = (k.0, each_to P (x ∷ earlier) xs k.1)

pub each_from : {X : Type 0} (P : X → Type 0) (earlier xs : List X) → Each P xs → AllAfter (λ e. P) earlier xs
each_from P earlier [] k = tt
each_from P earlier (x ∷ xs) k = (k.0, each_from P (x ∷ earlier) xs k.1)

pub after_weaker : {X : Type 0} (A B : List X → X → Type 0) → ((e : List X) (x : X) → A e x → B e x) → (earlier xs : List X) → AllAfter A earlier xs → AllAfter B earlier xs
after_weaker A B h earlier [] k = tt
after_weaker A B h earlier (x ∷ xs) k = (h earlier x k.0, after_weaker A B h (x ∷ earlier) xs k.1)

-- ---- each in order with the one before it

pub lt_is : (o : Ordering) → is_lt o ≡ true → o ≡ Less
lt_is Less e = refl
lt_is Equal e = absurd (true≢false (sym e))
lt_is Greater e = absurd (true≢false (sym e))

module _ {X : Type 0} (P : X → Type 0) (test : List X → X → Bool) (R : X → X → Type 0) (to : (y : X) (ys : List X) (x : X) → test (y ∷ ys) x ≡ true → R y x) (from : (y : X) (ys : List X) (x : X) → R y x → test (y ∷ ys) x ≡ true) where
  abbrev Tested : List X → X → Type 0
  Tested earlier x = P x × (test earlier x ≡ true)

  steps_to : (y : X) (ys xs : List X) → AllAfter Tested (y ∷ ys) xs → Each P xs × Stepwise R (y ∷ xs)
  steps_to y ys [] k = (tt, tt)
  steps_to y ys (x ∷ xs) k = let r = steps_to x (y ∷ ys) xs k.1 in ((k.0.0, r.0), (to y ys x k.0.1, r.1))

  steps_from : (y : X) (ys xs : List X) → Each P xs → Stepwise R (y ∷ xs) → AllAfter Tested (y ∷ ys) xs
  steps_from y ys [] k s = tt
  steps_from y ys (x ∷ xs) k s = ((k.0, from y ys x s.0), steps_from x (y ∷ ys) xs k.1 s.1)

  pub stepwise_to : (xs : List X) → AllAfter Tested [] xs → Each P xs × Stepwise R xs
  stepwise_to [] k = (tt, tt)
  stepwise_to (x ∷ xs) k = let r = steps_to x [] xs k.1 in ((k.0.0, r.0), r.1)

  pub stepwise_from : (xs : List X) → ((x : X) → test [] x ≡ true) → Each P xs → Stepwise R xs → AllAfter Tested [] xs
  stepwise_from [] h k s = tt
  stepwise_from (x ∷ xs) h k s = ((k.0, h x), steps_from x [] xs k.1 s)

module _ {X : Type 0} (P : X → Type 0) (cmp : X → X → Ordering) where
  pub rising_to : (xs : List X) → AllAfter (λ e x. P x × (rises cmp e x ≡ true)) [] xs → Each P xs × Rising cmp xs
  rising_to xs k = stepwise_to P (rises cmp) (λ x y. cmp x y ≡ Less) (λ y ys x e. lt_is (cmp y x) e) (λ y ys x e. ap is_lt e) xs k

  pub rising_from : (xs : List X) → Each P xs → Rising cmp xs → AllAfter (λ e x. P x × (rises cmp e x ≡ true)) [] xs
  rising_from xs k s = stepwise_from P (rises cmp) (λ x y. cmp x y ≡ Less) (λ y ys x e. lt_is (cmp y x) e) (λ y ys x e. ap is_lt e) xs (λ x. refl) k s

  pub holding_to : (xs : List X) → AllAfter (λ e x. P x × (holds_up cmp e x ≡ true)) [] xs → Each P xs × NotFalling cmp xs
  holding_to xs k = stepwise_to P (holds_up cmp) (λ x y. is_le (cmp x y) ≡ true) (λ y ys x e. e) (λ y ys x e. e) xs k

  pub holding_from : (xs : List X) → Each P xs → NotFalling cmp xs → AllAfter (λ e x. P x × (holds_up cmp e x ≡ true)) [] xs
  holding_from xs k s = stepwise_from P (holds_up cmp) (λ x y. is_le (cmp x y) ≡ true) (λ y ys x e. e) (λ y ys x e. e) xs (λ x. refl) k s

-- ---- none of those before it

module _ {X : Type 0} (cmp : X → X → Ordering) (laws : IsOrder cmp) where
  eq_apart : (x y : X) → is_eq (cmp x y) ≡ false → x ≢ y
  eq_apart x y e = λ same. true≢false (sym (ap is_eq (itself cmp laws x)) ∙ ap (λ z. is_eq (cmp x z)) same ∙ e)

  apart_eq : (x y : X) → x ≢ y → is_eq (cmp x y) ≡ false
  apart_eq x y h = go (cmp x y) refl
    where
      go : (o : Ordering) → cmp x y ≡ o → is_eq (cmp x y) ≡ false
      go Less e = ap is_eq e
      go Equal e = absurd (h (laws.same x y e))
      go Greater e = ap is_eq e

  new_to : (ys : List X) (x : X) → is_new cmp ys x ≡ true → Each (λ y. y ≢ x) ys
  new_to [] x e = tt
  new_to (y ∷ ys) x e = go (is_eq (cmp y x)) refl e (new_to ys x)
    where
      go : (b : Bool) → is_eq (cmp y x) ≡ b → not (cond b true (some (λ z. is_eq (cmp z x)) ys)) ≡ true → (is_new cmp ys x ≡ true → Each (λ z. z ≢ x) ys) → Each (λ z. z ≢ x) (y ∷ ys)
      go true f g h = absurd (true≢false (sym g))
      go false f g h = (eq_apart y x f, h g)

  new_from : (ys : List X) (x : X) → Each (λ y. y ≢ x) ys → is_new cmp ys x ≡ true
  new_from [] x k = refl
  new_from (y ∷ ys) x k = ap (λ b. not (cond b true (some (λ z. is_eq (cmp z x)) ys))) (apart_eq y x k.0) ∙ new_from ys x k.1

  -- none of these stands among those
  abbrev AreNew : List X → List X → Type 0
  AreNew ys xs = Each (λ x. Each (λ y. y ≢ x) ys) xs

  news_rest : (y : X) (ys xs : List X) → AreNew (y ∷ ys) xs → Each (λ x. y ≢ x) xs × AreNew ys xs
  news_rest y ys [] k = (tt, tt)
  news_rest y ys (x ∷ xs) k = let r = news_rest y ys xs k.1 in ((k.0.0, r.0), (k.0.1, r.1))

  news_more : (y : X) (ys xs : List X) → Each (λ x. y ≢ x) xs → AreNew ys xs → AreNew (y ∷ ys) xs
  news_more y ys [] h k = tt
  news_more y ys (x ∷ xs) h k = ((h.0, k.0), news_more y ys xs h.1 k.1)

  abbrev Fresh : (X → Type 0) → List X → X → Type 0
  Fresh P e x = P x × (is_new cmp e x ≡ true)

  news_to : (P : X → Type 0) (earlier xs : List X) → AllAfter (Fresh P) earlier xs → Each P xs × Apart xs × AreNew earlier xs
  news_to P earlier [] k = (tt, tt, tt)
  news_to P earlier (x ∷ xs) k =
      let r = news_to P (x ∷ earlier) xs k.1 in
      let s = news_rest x earlier xs r.2 in
      ((k.0.0, r.0), (s.0, r.1), (new_to earlier x k.0.1, s.1))

  news_from : (P : X → Type 0) (earlier xs : List X) → Each P xs → Apart xs → AreNew earlier xs → AllAfter (Fresh P) earlier xs
  news_from P earlier [] k a n = tt
  news_from P earlier (x ∷ xs) k a n = ((k.0, new_from earlier x n.0), news_from P (x ∷ earlier) xs k.1 a.1 (news_more x earlier xs a.0 n.1))

  news_all : (xs : List X) → AreNew [] xs
  news_all [] = tt
  news_all (x ∷ xs) = (tt, news_all xs)

  pub apart_to : (P : X → Type 0) (xs : List X) → AllAfter (λ e x. P x × (is_new cmp e x ≡ true)) [] xs → Each P xs × Apart xs
  apart_to P xs k = let r = news_to P [] xs k in (r.0, r.1)

  pub apart_from : (P : X → Type 0) (xs : List X) → Each P xs → Apart xs → AllAfter (λ e x. P x × (is_new cmp e x ≡ true)) [] xs
  apart_from P xs k a = news_from P [] xs k a (news_all xs)
