-- Rows that are handed inward, a row at a time.
use Rattle.std.proofs.Common.{◌≡◌, ℕ, ◌+◌, ◌<◌, ◌≤◌, nat_eq, not, Bool, true, false, cond, List, [], ◌∷◌, ◌++◌, get_or, length, map, take, zero, suc, refl, sym, ap, ap₂, ◌∙◌, append-nil, append_assoc, add-one, arith}
use Rattle.std.specs.Prelude.{flat_map, Option, Some, None}
use Rattle.agg_terms.specs.Lists.{front}
use Rattle.agg_terms.specs.Values as family
use Rattle.agg_terms.proofs.Lists.{entries_back, values_back}
use Rattle.std.proofs.lemmas.List.{length-map, map-append}
use Rattle.agg_meaning.specs.Feeds.{as_condition, entries_of, items_of, last, tuples}
use Rattle.agg_meaning.specs.Picks.{at_place, when_met}
use Rattle.value_types.specs.declared.value.Value.{Value}
use Rattle.value_types.specs.declared.value.Value.TheVariants as value
use Rattle.value_types.specs.Folds.{value_of}
use Rattle.value_types.proofs.FoldLaws.{value_of-List, value_of-Pairs}
use Rattle.plain_meaning.specs.Inward.{is_above, met_row, row_at}

when_above : {X : Type 0} (x : X) (o : Option ℕ) → when_met (x, o) ≡ cond (is_above o) (x ∷ []) []
when_above x None = refl
when_above x (Some n) = go (nat_eq n 0)
  where
    go : (b : Bool) → cond b [] (x ∷ []) ≡ cond (not b) (x ∷ []) []
    go true = refl
    go false = refl

pub met_kept : (r : List family.Value) → is_above (as_condition (last family.Nil r)) ≡ true → met_row r ≡ front r ∷ []
met_kept r h = when_above (front r) (as_condition (last family.Nil r)) ∙ ap (λ b. cond b (front r ∷ []) []) h

pub met_left : (r : List family.Value) → is_above (as_condition (last family.Nil r)) ≡ false → met_row r ≡ []
met_left r h = when_above (front r) (as_condition (last family.Nil r)) ∙ ap (λ b. cond b (front r ∷ []) []) h

pub ruleset met_laws = (met_kept, met_left, append-nil)

pub items_at : (v : Value) (xs : List Value) → v ≡ value.List xs → items_of (value_of v) ≡ map value_of xs
items_at v xs e = ap items_of (ap value_of e ∙ value_of-List xs) ∙ values_back (map value_of xs)

pub entries_at : (v : Value) (es : List (Value × Value)) → v ≡ value.Pairs es → entries_of (value_of v) ≡ map (λ e. (value_of e.0, value_of e.1)) es
entries_at v es e = ap entries_of (ap value_of e ∙ value_of-Pairs es) ∙ entries_back (map (λ x. (value_of x.0, value_of x.1)) es)

-- one more row
flat_next : {X Y Z : Type 0} (f : Y → List Z) (g : X → Y) (i : ℕ) (xs : List X) (d : X) → i < length xs →
    flat_map f (map g (take (suc i) xs)) ≡ flat_map f (map g (take i xs)) ++ f (g (get_or xs i d))
flat_next f g i [] d h = absurd (omega arith)
flat_next f g zero (x ∷ xs) d h = append-nil (f (g x))
flat_next f g (suc i) (x ∷ xs) d h =
    ap (λ l. f (g x) ++ l) (flat_next f g i xs d (omega arith)) ∙ sym (append_assoc (f (g x)) (flat_map f (map g (take i xs))) (f (g (get_or xs i d))))

pub flat_more : {X Y Z : Type 0} (f : Y → List Z) (g : X → Y) (i : ℕ) (xs : List X) (d : X) → i < length xs →
    flat_map f (map g (take (i + 1) xs)) ≡ flat_map f (map g (take i xs)) ++ f (g (get_or xs i d))
flat_more f g i xs d h = ap (λ k. flat_map f (map g (take k xs))) (add-one i) ∙ flat_next f g i xs d h

pub ruleset more_laws = (flat_more)

-- what stands at a place
there_at : {X : Type 0} (i : ℕ) (xs : List X) (d : X) → i < length xs → at_place i (map Some xs) ≡ get_or xs i d ∷ []
there_at i [] d h = absurd (omega arith)
there_at zero (x ∷ xs) d h = refl
there_at (suc i) (x ∷ xs) d h = there_at i xs d (omega arith)

past_at : {X : Type 0} (i : ℕ) (xs : List X) → length xs ≤ i → at_place i (map Some xs) ≡ []
past_at i [] h = refl
past_at zero (x ∷ xs) h = absurd (omega arith)
past_at (suc i) (x ∷ xs) h = past_at i xs (omega arith)

get_or-map : {X Y : Type 0} (f : X → Y) (xs : List X) (i : ℕ) (d : X) → get_or (map f xs) i (f d) ≡ f (get_or xs i d)
get_or-map f [] i d = refl
get_or-map f (x ∷ xs) zero d = refl
get_or-map f (x ∷ xs) (suc i) d = get_or-map f xs i d

pub place_there : (i : ℕ) (xs : List (List Value)) (d : List Value) (r : List family.Value) → map (map value_of) xs ≡ tuples r → i < length xs →
    row_at i r ≡ map value_of (get_or xs i d) ∷ []
place_there i xs d r e h =
    ap (λ l. at_place i (map Some l)) (sym e)
    ∙ there_at i (map (map value_of) xs) (map value_of d) (let k : length (map (map value_of) xs) ≡ length xs = length-map xs (map value_of) in omega arith)
    ∙ ap (λ v. v ∷ []) (get_or-map (map value_of) xs i d)

pub place_past : (i : ℕ) (xs : List (List Value)) (r : List family.Value) → map (map value_of) xs ≡ tuples r → length xs ≤ i → row_at i r ≡ []
place_past i xs r e h =
    ap (λ l. at_place i (map Some l)) (sym e)
    ∙ past_at i (map (map value_of) xs) (let k : length (map (map value_of) xs) ≡ length xs = length-map xs (map value_of) in omega arith)

pub ruleset place_laws = (place_there, place_past, append-nil)

-- the rows so far with what stands at a place
pub pushed_there : (i : ℕ) (xs into after : List (List Value)) (x d : List Value) (r : List family.Value) → map (map value_of) xs ≡ tuples r → i < length xs → x ≡ get_or xs i d →
    after ≡ into ++ x ∷ [] → map (map value_of) after ≡ map (map value_of) into ++ row_at i r
pushed_there i xs into after x d r e h k a =
    ap (map (map value_of)) a ∙ map-append (map value_of) into (x ∷ [])
    ∙ ap (λ l. map (map value_of) into ++ l) (ap (λ y. map value_of y ∷ []) k ∙ sym (place_there i xs d r e h))

pub pushed_past : (i : ℕ) (xs into : List (List Value)) (r : List family.Value) → map (map value_of) xs ≡ tuples r → length xs ≤ i →
    map (map value_of) into ≡ map (map value_of) into ++ row_at i r
pushed_past i xs into r e h = sym (ap (λ l. map (map value_of) into ++ l) (place_past i xs r e h) ∙ append-nil (map (map value_of) into))

pub rows-length : (xs : List (List Value)) (r : List family.Value) → map (map value_of) xs ≡ tuples r → length (tuples r) ≡ length xs
rows-length xs r e = ap length (sym e) ∙ length-map xs (map value_of)

pub ruleset length_laws = (rows-length)
