-- The columns that a view names are marked.
use Rattle.std.proofs.Common.{◌≡◌, add-one, ◌++◌, drop, ℕ, zero, suc, ◌+◌, ◌<◌, Bool, true, false, ◌||◌, List, [], ◌∷◌, length, map, get_or, inl, inr, ⊎_elim, eqb, eq-eqb, ap, sym, ◌∙◌, refl, arith}
use Rattle.std.specs.List.{list_any}
use Rattle.agg_terms.specs.Lists.{Among, Each, places}
use Rattle.agg_meaning.specs.Views.{Call, View}
use Rattle.agg_defs.specs.Plans.{call_in}
use Rattle.agg_defs.specs.declared.plan.Call as rust
use Rattle.needed_columns.specs.Columns.{is_argument, is_named, marks_of}

-- what holds of each element of a list that is among those of a list
each_among : {X : Type 0} (P : X → Type 0) (xs : List X) → ((x : X) → Among x xs → P x) → Each P xs
each_among P [] h = tt
each_among P (x ∷ xs) h = (h x (inl refl), each_among P xs (λ y a. h y (inr a)))

any_or : (a b : Bool) → b ≡ true → (a || b) ≡ true
any_or true b h = refl
any_or false b h = h

or_any : (a b : Bool) → a ≡ true → (a || b) ≡ true
or_any true b h = refl
or_any false b h = absurd (cc)

any_among : {X : Type 0} (p : X → Bool) (x : X) (xs : List X) → Among x xs → p x ≡ true → list_any p xs ≡ true
any_among p x [] a h = absurd a
any_among p x (y ∷ ys) a h =
    ⊎_elim (λ same. or_any (p y) (list_any p ys) (ap p (sym same) ∙ h)) (λ later. any_or (p y) (list_any p ys) (any_among p x ys later h)) a

pub keys_named : (v : View) → Each (λ i. is_named v i ≡ true) v.keys
keys_named v =
    each_among (λ i. is_named v i ≡ true) v.keys
    (λ i a. or_any (list_any (λ j. eqb j i) v.keys) (list_any (is_argument i) v.calls) (any_among (λ j. eqb j i) i v.keys a (eq-eqb i i refl)))

pub arguments_named : (v : View) → Each (λ (c : Call). Each (λ i. is_named v i ≡ true) c.columns) v.calls
arguments_named v =
    each_among (λ (c : Call). Each (λ i. is_named v i ≡ true) c.columns) v.calls
    (λ c here. each_among (λ i. is_named v i ≡ true) c.columns
    (λ i a. any_or (list_any (λ j. eqb j i) v.keys) (list_any (is_argument i) v.calls)
    (any_among (is_argument i) c v.calls here (any_among (λ j. eqb j i) i c.columns a (eq-eqb i i refl)))))

pub long_places : {X : Type 0} (f : ℕ → X) (s n : ℕ) → length (map f (places s n)) ≡ n
long_places f s zero = refl
long_places f s (suc n) = omega (arith, long_places f (suc s) n)

pub place_at : (f : ℕ → Bool) (s n i : ℕ) → i < n → get_or (map f (places s n)) i false ≡ f (s + i)
place_at f s zero i h = absurd (omega arith)
place_at f s (suc n) zero h = let here : s ≡ s + 0 = omega arith in ap f here
place_at f s (suc n) (suc i) h = let there : suc s + i ≡ s + suc i = omega arith in place_at f (suc s) n i (omega (arith, h)) ∙ ap f there

-- a mark is what was asked
pub marked : (v : View) (n i : ℕ) → i < n → is_named v i ≡ true → get_or (marks_of n v) i false ≡ true
marked v n i h named = let here : 0 + i ≡ i = omega arith in place_at (is_named v) 0 n i h ∙ ap (is_named v) here ∙ named

-- a call that names the column
pub argument_here : (calls : List rust.Call) (i : ℕ) (call : rust.Call) (column : ℕ) → i < length calls → call ≡ get_or calls i call → list_any (λ j. eqb j column) call.columns ≡ true
    → true ≡ list_any (is_argument column) (map call_in calls)
argument_here [] i call column h is so = absurd (omega arith)
argument_here (c ∷ calls) zero call column h is so =
    sym (or_any (list_any (λ j. eqb j column) c.columns) (list_any (is_argument column) (map call_in calls)) (ap (λ (d : rust.Call). list_any (λ j. eqb j column) d.columns) (sym is) ∙ so))
argument_here (c ∷ calls) (suc i) call column h is so =
    sym (any_or (list_any (λ j. eqb j column) c.columns) (list_any (is_argument column) (map call_in calls)) (sym (argument_here calls i call column (omega (arith, h)) is so)))

-- none of the calls so far names it, and the next one doesn't
pub argument_past : (calls : List rust.Call) (i : ℕ) (call : rust.Call) (column : ℕ) → i < length calls → call ≡ get_or calls i call → list_any (λ j. eqb j column) call.columns ≡ false
    → list_any (is_argument column) (map call_in (drop i calls)) ≡ list_any (is_argument column) (map call_in calls)
    → list_any (is_argument column) (map call_in (drop (i + 1) calls)) ≡ list_any (is_argument column) (map call_in calls)
argument_past calls i call column h is other so = sym (past calls i call column h is other) ∙ so
  where
    past : (calls : List rust.Call) (i : ℕ) (call : rust.Call) (column : ℕ) → i < length calls → call ≡ get_or calls i call → list_any (λ j. eqb j column) call.columns ≡ false
        → list_any (is_argument column) (map call_in (drop i calls)) ≡ list_any (is_argument column) (map call_in (drop (i + 1) calls))
    past [] i call column h is other = absurd (omega arith)
    past (c ∷ calls) zero call column h is other = ap (λ b. b || list_any (is_argument column) (map call_in calls)) (ap (λ (d : rust.Call). list_any (λ j. eqb j column) d.columns) (sym is) ∙ other)
    past (c ∷ calls) (suc i) call column h is other =
        past calls i call column (omega (arith, h)) is other ∙ ap (λ n. list_any (is_argument column) (map call_in (drop n (c ∷ calls)))) (one_more i)
      where
        one_more : (i : ℕ) → suc (i + 1) ≡ suc i + 1
        one_more i = omega arith

-- marks are made one by one
pub mark_more : (f : ℕ → Bool) (marks : List Bool) (i : ℕ) (b : Bool) → marks ≡ map f (places 0 i) → b ≡ f i → marks ++ b ∷ [] ≡ map f (places 0 (i + 1))
mark_more f marks i b so is =
    let here : i ≡ 0 + i = omega arith in
    ap (λ c. marks ++ c ∷ []) is ∙ ap (λ front. front ++ f i ∷ []) so ∙ ap (λ n. map f (places 0 i) ++ f n ∷ []) here ∙ sym (next 0 i) ∙ ap (λ n. map f (places 0 n)) (sym (add-one i))
  where
    next : (s n : ℕ) → map f (places s (suc n)) ≡ map f (places s n) ++ f (s + n) ∷ []
    next s zero = let here : s ≡ s + 0 = omega arith in ap (λ m. f m ∷ []) here
    next s (suc n) = let there : suc s + n ≡ s + suc n = omega arith in ap (◌∷◌ (f s)) (next (suc s) n ∙ ap (λ m. map f (places (suc s) n) ++ f m ∷ []) there)

pub ruleset mark_laws = (argument_here, argument_past, mark_more)
