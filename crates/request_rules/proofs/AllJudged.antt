-- What each part's meaning passes, all of them pass.
use Rattle.std.proofs.Common.{◌≡◌, refl, ap, ◌∙◌, subst, Bool, true, false, ◌&&◌, List, [], ◌∷◌, ◌++◌, Result, Ok, Err}
use Rattle.std.specs.List.{list_all}
use Rattle.line_forms.specs.Letters.{Every}
use Rattle.refusals.specs.declared.why.Why.{Why}
use Rattle.request_rules.specs.Turns.{and_then, in_turn}

abbrev pub met : {X : Type 0} → X → Result X Why
met x = Ok x

pub same_value : {X : Type 0} (a b : X) → met a ≡ met b → a ≡ b
same_value a b e = cc

-- a rule that was met leaves the rest
pub past : {X : Type 0} (r : Result (Unit {0}) Why) (next : Result X Why) (x : X) → and_then r (λ (_ : Unit {0}). next) ≡ Ok x → next ≡ Ok x
past (Ok u) next x e = e
past (Err why) next x e = absurd cc

pub both : (a b : Bool) → a ≡ true → b ≡ true → (a && b) ≡ true
both a b h g = ap (λ c. c && b) h ∙ g

pub first : (a b : Bool) → (a && b) ≡ true → a ≡ true
first true b h = refl
first false b h = absurd cc

pub second : (a b : Bool) → (a && b) ≡ true → b ≡ true
second true b h = h
second false b h = absurd cc

pass_push : {X : Type 0} (test : X → Bool) (xs : List X) (x : X) → list_all test xs ≡ true → test x ≡ true → list_all test (xs ++ x ∷ []) ≡ true
pass_push test [] x h g = both (test x) true g refl
pass_push test (y ∷ ys) x h g =
    both (test y) (list_all test (ys ++ x ∷ [])) (first (test y) (list_all test ys) h) (pass_push test ys x (second (test y) (list_all test ys) h) g)

module _ {A X : Type 0} (judge : List X → A → Result X Why) (test : X → Bool) (Good : A → Type 0)
    (gives : (before : List X) (part : A) (x : X) → Good part → judge before part ≡ Ok x → test x ≡ true) where
  next : (r : Result X Why) (before : List X) (parts : List A) (all : List X) → ((x : X) → r ≡ Ok x → test x ≡ true) →
      ((x : X) → test x ≡ true → in_turn judge (before ++ x ∷ []) parts ≡ Ok all → list_all test all ≡ true) →
      and_then r (λ (x : X). in_turn judge (before ++ x ∷ []) parts) ≡ Ok all → list_all test all ≡ true
  next (Ok x) before parts all h more e = more x (h x refl) e
  next (Err why) before parts all h more e = absurd cc

  pub all_judged : (parts : List A) (before all : List X) → Every Good parts → list_all test before ≡ true → in_turn judge before parts ≡ Ok all → list_all test all ≡ true
  all_judged [] before all good here e = subst (λ xs. list_all test xs ≡ true) (same_value before all e) here
  all_judged (part ∷ parts) before all good here e =
      next (judge before part) before parts all (λ x. gives before part x good.0)
      (λ x g. all_judged parts (before ++ x ∷ []) all good.1 (pass_push test before x here g)) e
