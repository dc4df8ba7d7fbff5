-- One turn of the loop over elements or entries.
use Rattle.std.proofs.Common.{◌≡◌, ℕ, suc, ◌+◌, ◌<◌, ◌≤◌, Bool, true, false, cond, ◌&&◌, List, [], ◌∷◌, ◌++◌, length, map, length-append, Result, Ok, refl, sym, ap, subst, ◌∙◌, arith, eqb}
use Rattle.std.specs.List.{list_all}
use Rattle.std.proofs.Common.{Bor}
use Rattle.scalar_texts.specs.declared.fault.FieldFault.{FieldFault}
use Rattle.tsv_values.specs.declared.found.Missing.{Missing}
use Rattle.tsv_values.specs.declared.found.Missing.TheVariants.{Nothing}
use Rattle.tsv_values.specs.declared.next.Next.{Next}
use Rattle.tsv_values.specs.declared.next.Next.TheVariants as next
use Rattle.tsv_values.specs.Elements.{ListSays}
use Rattle.tsv_values.specs.proving.Reading.{IsFound, IsMissing}
use Rattle.tsv_values.specs.proving.Steps.{Step, one_more, ends, neither, after_spaces, first_step, more_step, step_of}
use Rattle.tsv_values.proofs.Lists.{AllBegin, IsClosing, IsSoFar, begun, ended, gone_on, not_ended, stopped}
use Rattle.tsv_values.proofs.Spaces.{skipped}

-- what is left to read
abbrev pub size : Step → ℕ
size (one_more text) = suc (length text)
size (ends text) = 0
size neither = 0

more_size : (closing : ℕ) (u : List ℕ) → size (more_step closing u) ≤ length u
more_size closing [] = omega arith
more_size closing (b ∷ u) = comma (eqb b 44) (eqb b closing)
  where
    comma : (t s : Bool) → size (cond t (one_more (after_spaces u)) (cond s (ends u) neither)) ≤ suc (length u)
    comma true s = omega (arith, skipped u)
    comma false true = omega arith
    comma false false = omega arith

pub less : {A : Type 0} (says : A → List ℕ → Type 0) (closing : ℕ) (at rest : List ℕ) (x : A) (step : Step) → IsFound says at x rest → step ≡ more_step closing (after_spaces rest) → size step < size (one_more at)
less says closing at rest x step f e =
    let a = more_size closing (after_spaces rest) in
    let b = skipped rest in
    let c : length at ≡ length f.front + length rest = ap length f.whole ∙ length-append f.front rest in
    rw e (omega (arith, a, b, c))

pub less_at : {A : Type 0} (says : A → List ℕ → Type 0) (closing : ℕ) (at rest : List ℕ) (x : A) (before step : Step) → before ≡ one_more at → IsFound says at x rest → step ≡ more_step closing (after_spaces rest) → size step < size before
less_at says closing at rest x before step b f e = subst (λ s. size step < size s) (sym b) (less says closing at rest x step f e)

pushed : {X Y : Type 0} (f : X → Y) (xs : List X) (x : X) → map f (xs ++ x ∷ []) ≡ map f xs ++ f x ∷ []
pushed f [] x = refl
pushed f (y ∷ xs) x = ap (λ t. f y ∷ t) (pushed f xs x)

pub map_more : {X Y : Type 0} (f : X → Y) (xs ys : List X) (x : X) → ys ≡ xs ++ x ∷ [] → map f ys ≡ map f xs ++ f x ∷ []
map_more f xs ys x e = ap (map f) e ∙ pushed f xs x

pub neither_is : (n : Next) → ((text : Bor (List ℕ)) → n ≡ next.OneMore text → ⊥) → ((text : Bor (List ℕ)) → n ≡ next.End text → ⊥) → step_of n ≡ neither
neither_is (next.OneMore text) a b = absurd (a text refl)
neither_is (next.End text) a b = absurd (b text refl)
neither_is next.Neither a b = refl

pub all_more : {X : Type 0} (p : X → Bool) (xs : List X) (x : X) → list_all p xs ≡ true → p x ≡ true → list_all p (xs ++ x ∷ []) ≡ true
all_more p [] x h k = rw k refl
all_more p (y ∷ xs) x h k = both (p y) (list_all p xs) (list_all p (xs ++ x ∷ [])) h (all_more p xs x)
  where
    both : (a b c : Bool) → (a && b) ≡ true → (b ≡ true → p x ≡ true → c ≡ true) → (a && c) ≡ true
    both true b c h f = f h k
    both false b c h f = absurd cc

-- ---- the loop's first state, and the next one

module _ {X : Type 0} (says : Result X FieldFault → List ℕ → Type 0) (closing : ℕ) (close : IsClosing closing) (begin : AllBegin says) (text : List ℕ) where
  abbrev So : Step → List X → Type 0
  So step xs = IsSoFar says closing close begin text step xs

  pub begun_at : (step : Step) (xs : List X) → step ≡ first_step closing (after_spaces text) → xs ≡ [] → So step xs
  begun_at step xs e f = subst (λ s. So s xs) (sym e) (subst (λ xs. So (first_step closing (after_spaces text)) xs) (sym f) (begun says closing close begin text))

  pub turn : (step next : Step) (xs ys : List X) (at rest : List ℕ) (x : X) → So step xs → step ≡ one_more at → IsFound says at (Ok x) rest → next ≡ more_step closing (after_spaces rest) → ys ≡ xs ++ x ∷ [] → So next ys
  turn step next xs ys at rest x so e f n m =
      subst (λ s. So s ys) (sym n) (subst (λ ys. So (more_step closing (after_spaces rest)) ys) (sym m)
      (gone_on says closing close begin text at rest xs x (subst (λ s. So s xs) e so) f))

  pub stop_at : (step : Step) (xs : List X) (at : List ℕ) (missing : Missing) → So step xs → step ≡ one_more at → IsMissing says at missing → IsMissing (ListSays says closing) text missing
  stop_at step xs at missing so e h = stopped says closing close begin text at xs missing (subst (λ s. So s xs) e so) h

  pub end_at : (step : Step) (xs : List X) (rest : List ℕ) → So step xs → step ≡ ends rest → IsFound (ListSays says closing) text (Ok xs) rest
  end_at step xs rest so e = ended says closing close begin text rest xs (subst (λ s. So s xs) e so)

  pub neither_at : (step : Step) (xs : List X) → So step xs → step ≡ neither → IsMissing (ListSays says closing) text Nothing
  neither_at step xs so e = not_ended says closing close begin text xs (subst (λ s. So s xs) e so)
