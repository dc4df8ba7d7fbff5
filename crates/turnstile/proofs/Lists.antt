-- Lists, sums and functions that change at one place.
use Rattle.std.proofs.Common.{◌≡◌, ◌≢◌, ℕ, zero, suc, ◌+◌, ◌<◌, ◌≤◌, eqb, Bool, true, false, List, [], ◌∷◌, ◌++◌, length, set, refl, sym, ap, ◌∙◌, subst, arith, append_assoc, length-append, ⊎_elim, ◌⊎◌, inl, inr, eq-eqb, ne_eqb}
use mathlib.Core.Option.{some, some-ne-none, some-injective}
use mathlib.Core.List.{IsPrefix}
use native.Mathlib.Decide.{ℕ_discrete}
use lib.ListN.{get_elem?}
use Rattle.atomic_table.proofs.Lists.{at_set}
use Rattle.agg_terms.specs.Lists.{Among, Apart, Each}
use Rattle.history_core.specs.declared.entry.Entry.{Entry}
use Rattle.history_core.specs.History.{entries_of}
use Rattle.std.proofs.lemmas.Bool.Decides.{nat_tests}
use Rattle.std.specs.Prelude.{nat_lt}
use Rattle.turnstile.specs.Known.{choose, longer, shorter, numbers}
use Rattle.turnstile.specs.proving.Rules.{total}

abbrev pick : {P : Type 0} → Dec P → ℕ → ℕ → ℕ
pick (yes _) a b = a
pick (no _) a b = b

pub put : (ℕ → ℕ) → ℕ → ℕ → ℕ → ℕ
put f i c j = pick (ℕ_discrete j i) c (f j)

pub put_here : (f : ℕ → ℕ) (i c : ℕ) → put f i c i ≡ c
unfolding put
put_here f i c = go (ℕ_discrete i i)
  where
    go : (d : Dec (i ≡ i)) → pick d c (f i) ≡ c
    go (yes _) = refl
    go (no n) = absurd (n refl)

pub put_else : (f : ℕ → ℕ) (i c j : ℕ) → j ≢ i → put f i c j ≡ f j
unfolding put
put_else f i c j other = go (ℕ_discrete j i)
  where
    go : (d : Dec (j ≡ i)) → pick d c (f j) ≡ f j
    go (yes e) = absurd (other e)
    go (no _) = refl

pub total_set : {A : Type 0} (f : A → ℕ) (l : List A) (i : ℕ) (v w : A) → get_elem? l i ≡ some v → total f (set l i w) + f v ≡ total f l + f w
total_set f [] i v w at = absurd (some-ne-none v (sym at))
total_set f (x ∷ xs) zero v w at = let same : f x ≡ f v = ap f (some-injective x v at) in omega arith
total_set f (x ∷ xs) (suc i) v w at = let rest = total_set f xs i v w at in omega arith

-- what holds of each element, once one is set
pub each_set : {A : Type 0} (K : ℕ → A → Type 0) (l : List A) (i : ℕ) (w : A) → K i w → ((j : ℕ) (a : A) → j ≢ i → get_elem? l j ≡ some a → K j a)
    → (j : ℕ) (a : A) → get_elem? (set l i w) j ≡ some a → K j a
each_set {A} K l i w mine others j a e = ⊎_elim (λ (t : (j ≡ i) × (w ≡ a)). subst (λ (x : ℕ × A). K x.0 x.1) (λ k. (sym t.0 k, t.1 k)) mine)
    (λ (t : (j ≢ i) × (get_elem? l j ≡ some a)). others j a t.0 t.1) (at_set l i j w a e)

pub prefix_self : {A : Type 0} (xs : List A) → IsPrefix xs xs
prefix_self [] = ([], refl)
prefix_self (x ∷ xs) = (let r = prefix_self xs in r.0, ap (λ ys. x ∷ ys) (prefix_self xs).1)

pub prefix_more : {A : Type 0} (xs ys zs : List A) → IsPrefix xs ys → IsPrefix xs (ys ++ zs)
prefix_more xs ys zs p = (p.0 ++ zs, sym (append_assoc xs p.0 zs) ∙ ap (λ w. w ++ zs) p.1)

pub total_at : {A : Type 0} (f : A → ℕ) (l : List A) (i : ℕ) (v : A) → get_elem? l i ≡ some v → f v ≤ total f l
total_at f [] i v at = absurd (some-ne-none v (sym at))
total_at f (x ∷ xs) zero v at = let same : f x ≡ f v = ap f (some-injective x v at) in omega arith
total_at f (x ∷ xs) (suc i) v at = let rest = total_at f xs i v at in omega arith

pub entries_of-own : (n : ℕ) (es : List Entry) (e : Entry) → e.session ≡ n → entries_of n (es ++ e ∷ []) ≡ entries_of n es ++ e ∷ []
entries_of-own n [] e own = rw (eq-eqb e.session n own) refl
entries_of-own n (x ∷ xs) e own = go (entries_of-own n xs e own) (eqb x.session n) refl
  where
    go : entries_of n (xs ++ e ∷ []) ≡ entries_of n xs ++ e ∷ [] → (b : Bool) → eqb x.session n ≡ b → entries_of n (x ∷ xs ++ e ∷ []) ≡ entries_of n (x ∷ xs) ++ e ∷ []
    go ih true is = rw (is, ih) refl
    go ih false is = rw (is, ih) refl

pub entries_of-other : (n : ℕ) (es : List Entry) (e : Entry) → e.session ≢ n → entries_of n (es ++ e ∷ []) ≡ entries_of n es
entries_of-other n [] e other = rw (ne_eqb e.session n other) refl
entries_of-other n (x ∷ xs) e other = go (entries_of-other n xs e other) (eqb x.session n) refl
  where
    go : entries_of n (xs ++ e ∷ []) ≡ entries_of n xs → (b : Bool) → eqb x.session n ≡ b → entries_of n (x ∷ xs ++ e ∷ []) ≡ entries_of n (x ∷ xs)
    go ih true is = rw (is, ih) refl
    go ih false is = rw (is, ih) refl

pub set_at : {A : Type 0} (l : List A) (i : ℕ) (v w : A) → get_elem? l i ≡ some v → get_elem? (set l i w) i ≡ some w
set_at [] i v w at = absurd (some-ne-none v (sym at))
set_at (x ∷ xs) zero v w at = refl
set_at (x ∷ xs) (suc i) v w at = set_at xs i v w at

pub prefix_trans : {A : Type 0} (xs ys zs : List A) → IsPrefix xs ys → IsPrefix ys zs → IsPrefix xs zs
prefix_trans xs ys zs p q = (p.0 ++ q.0, sym (append_assoc xs p.0 q.0) ∙ (ap (λ w. w ++ q.0) p.1 ∙ q.1))

pub prefix_shorter : {A : Type 0} (xs ys zs : List A) → IsPrefix xs zs → IsPrefix ys zs → length xs ≤ length ys → IsPrefix xs ys
prefix_shorter [] ys zs p q le = (ys, refl)
prefix_shorter (x ∷ xs) [] zs p q le = absurd (omega arith)
prefix_shorter (x ∷ xs) (y ∷ ys) [] p q le = absurd (cc (p.1))
prefix_shorter (x ∷ xs) (y ∷ ys) (z ∷ zs) p q le =
    let heads : x ≡ y = cc (p.1, q.1) in
    let rest = prefix_shorter xs ys zs (p.0, cc (p.1)) (q.0, cc (q.1)) (omega arith) in
    (rest.0, cc (heads, rest.1))

pub prefix_whole : {A : Type 0} (xs ys : List A) → IsPrefix xs ys → length ys ≤ length xs → xs ≡ ys
prefix_whole [] [] p le = refl
prefix_whole [] (y ∷ ys) p le = absurd (omega arith)
prefix_whole (x ∷ xs) [] p le = absurd (cc (p.1))
prefix_whole (x ∷ xs) (y ∷ ys) p le =
    let rest = prefix_whole xs ys (p.0, cc (p.1)) (omega arith) in cc (p.1, rest)

pub prefix_length : {A : Type 0} (xs ys : List A) → IsPrefix xs ys → length xs ≤ length ys
prefix_length xs ys p = omega (arith, sym (ap length p.1) ∙ length-append xs p.0)

pub total_two : {A : Type 0} (f : A → ℕ) (l : List A) (i j : ℕ) (v w : A) → i ≢ j → get_elem? l i ≡ some v → get_elem? l j ≡ some w → f v + f w ≤ total f l
total_two f [] i j v w apart at there = absurd (some-ne-none v (sym at))
total_two f (x ∷ xs) zero zero v w apart at there = absurd (apart refl)
total_two f (x ∷ xs) zero (suc j) v w apart at there = let same : f x ≡ f v = ap f (some-injective x v at) in let rest = total_at f xs j w there in omega arith
total_two f (x ∷ xs) (suc i) zero v w apart at there = let same : f x ≡ f w = ap f (some-injective x w there) in let rest = total_at f xs i v at in omega arith
total_two f (x ∷ xs) (suc i) (suc j) v w apart at there = let rest = total_two f xs i j v w (λ e. apart (ap suc e)) at there in omega arith

pub total_snoc : {A : Type 0} (f : A → ℕ) (l : List A) (w : A) → total f (l ++ w ∷ []) ≡ total f l + f w
total_snoc f [] w = omega arith
total_snoc f (x ∷ xs) w = let rest = total_snoc f xs w in omega arith

-- an element of a list with one more is of the list, or the last
pub at_end : {A : Type 0} (l : List A) (a b : A) (j : ℕ) → get_elem? (l ++ a ∷ []) j ≡ some b → (get_elem? l j ≡ some b) ⊎ ((j ≡ length l) × (a ≡ b))
at_end [] a b zero e = inr (refl, some-injective a b e)
at_end [] a b (suc j) e = absurd (some-ne-none b (sym e))
at_end (x ∷ xs) a b zero e = inl e
at_end (x ∷ xs) a b (suc j) e = ⊎_elim (λ h. inl h) (λ h. inr (ap suc h.0, h.1)) (at_end xs a b j e)

chosen : (xs ys front : List Entry) (b : Bool) → nat_lt (length xs) (length ys) ≡ b → IsPrefix xs front → IsPrefix ys front
    → IsPrefix (choose b ys xs) front × IsPrefix (choose b xs ys) (choose b ys xs) × ((xs ≡ front) ⊎ (ys ≡ front) → choose b ys xs ≡ front)
chosen xs ys front true is p q =
    let lt : length xs < length ys = grind (arith, nat_tests) in
    let l = prefix_length ys front q in
    (q, prefix_shorter xs ys front p q (omega arith), ⊎_elim (λ e. let same : length xs ≡ length front = ap length e in absurd (omega arith)) (λ e. e))
chosen xs ys front false is p q =
    let le : length ys ≤ length xs = grind (arith, nat_tests) in
    (p, prefix_shorter ys xs front q p le, ⊎_elim (λ e. e) (λ e. prefix_whole xs front p (let same : length ys ≡ length front = ap length e in omega arith)))

-- of two beginnings of the front, the longer
pub longer_is : (xs ys front : List Entry) → IsPrefix xs front → IsPrefix ys front
    → IsPrefix (longer xs ys) front × IsPrefix (shorter xs ys) (longer xs ys) × ((xs ≡ front) ⊎ (ys ≡ front) → longer xs ys ≡ front)
longer_is xs ys front p q = chosen xs ys front (nat_lt (length xs) (length ys)) refl p q

-- # members of lists, and the numbers that the root keeps

pub among_end : {X : Type 0} (x y : X) (xs : List X) → Among x (xs ++ y ∷ []) → Among x xs ⊎ (x ≡ y)
among_end x y [] (inl same) = inr same
among_end x y [] (inr none) = absurd none
among_end x y (z ∷ zs) (inl same) = inl (inl same)
among_end x y (z ∷ zs) (inr later) = ⊎_elim (λ there. inl (inr there)) (λ same. inr same) (among_end x y zs later)

pub among_last : {X : Type 0} (x : X) (xs : List X) → Among x (xs ++ x ∷ [])
among_last x [] = inl refl
among_last x (y ∷ ys) = inr (among_last x ys)

pub among_longer : {X : Type 0} (x : X) (xs ys : List X) → Among x xs → Among x (xs ++ ys)
among_longer x [] ys none = absurd none
among_longer x (z ∷ zs) ys (inl same) = inl same
among_longer x (z ∷ zs) ys (inr later) = inr (among_longer x zs ys later)

each_end : {X : Type 0} (P : X → Type 0) (xs : List X) (y : X) → Each P xs → P y → Each P (xs ++ y ∷ [])
each_end P [] y all last = (last, tt)
each_end P (x ∷ xs) y all last = (all.0, each_end P xs y all.1 last)

pub apart_end : {X : Type 0} (xs : List X) (y : X) → Apart xs → (Among y xs → ⊥) → Apart (xs ++ y ∷ [])
apart_end [] y apart new = (tt, tt)
apart_end (x ∷ xs) y apart new = (each_end (λ z. x ≢ z) xs y apart.0 (λ same. new (inl (sym same))), apart_end xs y apart.1 (λ there. new (inr there)))

pub numbers_end : (kept : List (ℕ × List Entry)) (p : ℕ × List Entry) → numbers (kept ++ p ∷ []) ≡ numbers kept ++ p.0 ∷ []
numbers_end [] p = refl
numbers_end (q ∷ qs) p = ap (λ l. q.0 ∷ l) (numbers_end qs p)

-- a number that is kept is kept with some entries, and the other way round
pub kept_with : (n : ℕ) (kept : List (ℕ × List Entry)) → Among n (numbers kept) → (p : ℕ × List Entry) × Among p kept × (n ≡ p.0)
kept_with n [] none = absurd none
kept_with n (q ∷ qs) (inl same) = (q, inl refl, same)
kept_with n (q ∷ qs) (inr later) = let rest = kept_with n qs later in (rest.0, inr rest.1, rest.2)

pub among_number : (p : ℕ × List Entry) (kept : List (ℕ × List Entry)) → Among p kept → Among p.0 (numbers kept)
among_number p [] none = absurd none
among_number p (q ∷ qs) (inl same) = inl (ap (λ (x : ℕ × List Entry). x.0) same)
among_number p (q ∷ qs) (inr later) = inr (among_number p qs later)
