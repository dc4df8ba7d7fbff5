-- The groups of contributions: where each stands, and what they are of two lists joined.
use Rattle.std.proofs.Common.{◌≡◌, ◌≢◌, Bool, true, false, cond, List, [], ◌∷◌, ◌++◌, map, ◌⊎◌, inl, inr, refl, sym, ap, ◌∙◌, Ordering, Less, Equal, Greater}
use Rattle.std.specs.Prelude.{flat_map}
use Rattle.std.specs.Ordering.{is_eq}
use Rattle.std.proofs.lemmas.List.{map-append}
use Rattle.agg_terms.specs.Values.{Value}
use Rattle.agg_terms.specs.Lists.{Each, Rising, built, is_empty}
use Rattle.agg_terms.specs.Order.{compare_rows, different, into_set}
use Rattle.agg_meaning.specs.Views.{Contribution, View, first_groups, groups}
use Rattle.agg_terms.proofs.Generic.{Among, built-append}
use Rattle.agg_terms.proofs.Sorting.{set_steady, set_swap, set_twice}
use Rattle.agg_terms.proofs.Comparing.{rows_order}
use Rattle.agg_meaning.proofs.Kept.{different_order}
use Rattle.agg_meaning.proofs.Links.{among_append_right, among_different}

abbrev pub key_of : {X : Type 0} → List Value × X → List Value
key_of c = c.0

abbrev step : List Value → List (List Value) → List (List Value)
step = into_set compare_rows

-- one put first is one put last
put_through : (e : List Value) (S A : List (List Value)) → built step (step e S) A ≡ step e (built step S A)
put_through e S [] = refl
put_through e S (a ∷ A) = ap (step a) (put_through e S A) ∙ set_swap compare_rows rows_order a e (built step S A)

-- the groups that a view always has, put in once
abbrev pub firsts_put : Bool → List (List Value) → List (List Value)
firsts_put b S = built step S (cond b ([] ∷ []) [])

put_once : (b : Bool) (S : List (List Value)) → firsts_put b (firsts_put b S) ≡ firsts_put b S
put_once true S = set_twice compare_rows rows_order [] S
put_once false S = refl

put_past : (b : Bool) (S A : List (List Value)) → built step (firsts_put b S) A ≡ firsts_put b (built step S A)
put_past true S A = put_through [] S A
put_past false S A = refl

pub groups_are : (v : View) (C : List (Contribution v)) → groups v C ≡ firsts_put (is_empty v.keys) (different compare_rows (map key_of C))
groups_are v C = built-append step [] (first_groups v) (map key_of C)

-- putting a list of groups before others is putting their contributions before them
groups_first : (v : View) (S : List (List Value)) (A : List (Contribution v)) → built step S (groups v A) ≡ firsts_put (is_empty v.keys) (built step S (map key_of A))
groups_first v S A = set_steady compare_rows rows_order S (first_groups v ++ map key_of A) ∙ built-append step S (first_groups v) (map key_of A)

pub groups_joined : (v : View) (A B : List (Contribution v)) → groups v (A ++ B) ≡ different compare_rows (groups v A ++ groups v B)
groups_joined v A B =
    groups_are v (A ++ B)
    ∙ ap (firsts_put f) (ap (different compare_rows) (map-append key_of A B) ∙ built-append step [] (map key_of A) (map key_of B))
    ∙ sym (ap (firsts_put f) (put_past f (built step [] (map key_of B)) (map key_of A)) ∙ put_once f (built step (built step [] (map key_of B)) (map key_of A)))
    ∙ sym (groups_first v (firsts_put f (built step [] (map key_of B))) A)
    ∙ ap (λ S. built step S (groups v A)) (sym (groups_first v [] B))
    ∙ sym (built-append step [] (groups v A) (groups v B))
  where
    f : Bool
    f = is_empty v.keys

pub groups_ascend : (v : View) (C : List (Contribution v)) → Rising compare_rows (groups v C)
groups_ascend v C = different_order compare_rows rows_order (first_groups v ++ map key_of C)

-- what a group picks
abbrev pub of_group : {X : Type 0} → List Value → List Value × X → List X
of_group g c = cond (is_eq (compare_rows g c.0)) (c.1 ∷ []) []

key_covered : {X : Type 0} (g : List Value) (C : List (List Value × X)) → Among g (map key_of C) ⊎ (flat_map (of_group g) C ≡ [])
key_covered g [] = inr refl
key_covered g (c ∷ C) = go (compare_rows g c.0) refl (key_covered g C)
  where
    later : is_eq (compare_rows g c.0) ≡ false → Among g (map key_of C) ⊎ (flat_map (of_group g) C ≡ []) → Among g (map key_of (c ∷ C)) ⊎ (flat_map (of_group g) (c ∷ C) ≡ [])
    later h (inl a) = inl (inr a)
    later h (inr n) = inr (rw h n)

    go : (o : Ordering) → compare_rows g c.0 ≡ o → Among g (map key_of C) ⊎ (flat_map (of_group g) C ≡ []) → Among g (map key_of (c ∷ C)) ⊎ (flat_map (of_group g) (c ∷ C) ≡ [])
    go Less h r = later (ap is_eq h) r
    go Equal h r = inl (inl (rows_order.same g c.0 h))
    go Greater h r = later (ap is_eq h) r

pub group_covered : (v : View) (C : List (Contribution v)) (g : List Value) → Among g (groups v C) ⊎ (flat_map (of_group g) C ≡ [])
group_covered v C g = go (key_covered g C)
  where
    go : Among g (map key_of C) ⊎ (flat_map (of_group g) C ≡ []) → Among g (groups v C) ⊎ (flat_map (of_group g) C ≡ [])
    go (inl a) = inl (among_different compare_rows rows_order g (first_groups v ++ map key_of C) (among_append_right g (first_groups v) (map key_of C) a))
    go (inr n) = inr n

pub among_apart : {X : Type 0} (x : X) (xs : List X) → Each (λ y. x ≢ y) xs → Among x xs → ⊥
among_apart x [] k a = a
among_apart x (y ∷ ys) k (inl e) = k.0 e
among_apart x (y ∷ ys) k (inr a) = among_apart x ys k.1 a

-- groups put again are the same groups
pub put_groups : (v : View) (C : List (Contribution v)) → firsts_put (is_empty v.keys) (different compare_rows (groups v C)) ≡ groups v C
put_groups v C =
    ap (firsts_put (is_empty v.keys)) (groups_first v [] C)
    ∙ put_once (is_empty v.keys) (built step [] (map key_of C))
    ∙ sym (groups_are v C)
