-- Slots, one more place at a time, and the arms of -ForEach.
use Rattle.std.proofs.Common.{◌≡◌, ℕ, zero, suc, ◌+◌, ◌<◌, ◌≤◌, max, List, [], ◌∷◌, ◌++◌, map, length, get_or, refl, sym, ap, ◌∙◌, subst, arith, Result, Ok, Err, Vec, Global}
use Rattle.std.specs.Result.{OnOk}
use Rattle.std.proofs.Math.ListN.{set}
use Rattle.std.proofs.lemmas.List.{length-map, length-set, length-append, map-append}
use Rattle.agg_terms.specs.Chains.{Chain, ForEach, Ty}
use Rattle.agg_terms.specs.Lists.{Each}
use Rattle.agg_terms.specs.Types.{inward}
use Rattle.agg_terms.specs.Values.{Tree, Value, slots_tree}
use Rattle.agg_meaning.specs.Feeds.{tuples}
use Rattle.agg_meaning.specs.Results.{blank}
use Rattle.agg_meaning.specs.States.{Joins, Takes}
use Rattle.agg_meaning.proofs.Places.{get_or-past}
use Rattle.running_states.specs.declared.running.Running.{Running}
use Rattle.running_states.specs.declared.running.Running.TheVariants.{Slots}
use Rattle.running_states.specs.declared.running.Running.TheViews.{out-Running}
use Rattle.link_types.specs.Links.{inner_types}
use Rattle.running_states.specs.Shapes.{AreSlots, IsState}
use Rattle.running_states.specs.Trees.{tree_in}
use Rattle.running_states.specs.Words.{Feeds, JoinsAll, Over}
use Rattle.chain_links.specs.proving.Words.{FeedsPlaces, HasRoom, IsWalked, JoinsPlaces}
use Rattle.running_states.proofs.Layers.{out_Slots, tree_Slots}
use Rattle.running_states.proofs.Outcomes.{on_ok}
use Rattle.chain_links.proofs.Walked.{walk_more, walk_none, walked_joins, walked_takes}

-- one element written
pub map_set : {X Y : Type 0} (f : X → Y) (xs : List X) (i : ℕ) (x : X) → map f (set xs i x) ≡ set (map f xs) i (f x)
map_set f [] i x = refl
map_set f (y ∷ xs) zero x = refl
map_set f (y ∷ xs) (suc i) x = ap (◌∷◌ (f y)) (map_set f xs i x)

pub map_own : {X Y : Type 0} (f : X → Y) (b : Y) (xs : List X) (i : ℕ) (x : X) → i < length xs → x ≡ get_or xs i x → get_or (map f xs) i b ≡ f x
map_own f b [] i x l e = absurd (omega arith)
map_own f b (y ∷ xs) zero x l e = ap f (sym e)
map_own f b (y ∷ xs) (suc i) x l e = map_own f b xs i x (omega arith) e

pub each_set : {X : Type 0} (P : X → Type 0) (xs : List X) (i : ℕ) (x : X) → Each P xs → P x → Each P (set xs i x)
each_set P [] i x k p = tt
each_set P (y ∷ xs) zero x k p = (p, k.1)
each_set P (y ∷ xs) (suc i) x k p = (k.0, each_set P xs i x k.1 p)

pub each_get : {X : Type 0} (P : X → Type 0) (xs : List X) (i : ℕ) (x : X) → Each P xs → i < length xs → x ≡ get_or xs i x → P x
each_get P [] i x k l e = absurd (omega arith)
each_get P (y ∷ xs) zero x k l e = subst P (sym e) k.0
each_get P (y ∷ xs) (suc i) x k l e = each_get P xs i x k.1 (omega arith) e

pub each_more : {X : Type 0} (P : X → Type 0) (xs : List X) (x : X) → Each P xs → P x → Each P (xs ++ x ∷ [])
each_more P [] x k p = (p, tt)
each_more P (y ∷ xs) x k p = (k.0, each_more P xs x k.1 p)

-- room for a place: there, or made
pub room_there : (c : Chain) (us : List Ty) (ss : List Running) (i : ℕ) → i < length ss → HasRoom c us ss i ss
room_there c us ss i l = record { shape = λ k. k; long = omega arith; same = λ j. refl }

get_or-last : (b : Tree) (tt : List Tree) (j : ℕ) → get_or (tt ++ b ∷ []) j b ≡ get_or tt j b
get_or-last b [] zero = refl
get_or-last b [] (suc j) = get_or-past [] b j (omega arith)
get_or-last b (t ∷ tt) zero = refl
get_or-last b (t ∷ tt) (suc j) = get_or-last b tt j

pub room_made : (c : Chain) (us : List Ty) (ss : List Running) (i : ℕ) (s : Running) → i ≤ length ss → length ss ≤ i → IsState c us s → tree_in s ≡ blank c → HasRoom c us ss i (ss ++ s ∷ [])
room_made c us ss i s l k h e = record {
  shape = λ a. each_more (IsState c us) ss s a h;
  long = length-append ss (s ∷ []) ∙ omega arith;
  same = λ j. ap (λ tt. get_or tt j (blank c)) (map-append tree_in ss (s ∷ []) ∙ ap (λ t. map tree_in ss ++ t ∷ []) e) ∙ get_or-last (blank c) (map tree_in ss) j;
}

module _ (c : Chain) (us : List Ty) (ss vv rr : List Running) (i : ℕ) (x w : Running) (room : HasRoom c us vv i rr) (there : x ≡ get_or rr i x) where
  inside : i < length rr
  inside = omega (arith, room.long)

  walked : (R : List Ty → ℕ → Tree → Tree → Type 0) → ((ts : List Ty) → inner_types c ts ≡ us → R ts i (tree_in x) (tree_in w)) → Over c us (λ ts. IsWalked (R ts) (blank c) (map tree_in ss) i (map tree_in vv)) →
      Over c us (λ ts. IsWalked (R ts) (blank c) (map tree_in ss) (i + 1) (map tree_in (set rr i w)))
  walked R a h = λ ts e.
      let n : suc i ≡ i + 1 = omega arith in
      subst (λ k. IsWalked (R ts) (blank c) (map tree_in ss) k (map tree_in (set rr i w))) n
      (subst (IsWalked (R ts) (blank c) (map tree_in ss) (suc i)) (sym (map_set tree_in rr i w))
      (walk_more (R ts) (blank c) (map tree_in ss) (map tree_in vv) (map tree_in rr) i (tree_in w) (h ts e)
      (omega (arith, length-map rr tree_in, length-map vv tree_in, room.long)) room.same
      (subst (λ t. R ts i t (tree_in w)) (sym (map_own tree_in (blank c) rr i x inside there)) (a ts e))))

  pub joined_place : (uu : List Running) (y : Running) → i < length uu → y ≡ get_or uu i y → JoinsPlaces c us ss uu i vv → JoinsAll c us x y w → JoinsPlaces c us ss uu (i + 1) (set rr i w)
  joined_place uu y l g h a = record {
    long = omega (arith, length-set rr i w, room.long, h.long);
    over = walked (λ ts j t v. Joins c ts t (get_or (map tree_in uu) j (blank c)) v)
        (λ ts e. subst (λ t. Joins c ts (tree_in x) t (tree_in w)) (sym (map_own tree_in (blank c) uu i y l g)) (a.over ts e)) h.over;
  }

  pub fed_place : (rs : List (List Value)) (r : List Value) → get_or rs i [] ≡ r → FeedsPlaces c us rs i ss vv → Feeds c us r x w → FeedsPlaces c us rs (i + 1) ss (set rr i w)
  fed_place rs r g h a = record {
    over = walked (λ ts j t v. Takes c ts (get_or rs j []) t v) (λ ts e. subst (λ y. Takes c ts y (tree_in x) (tree_in w)) (sym g) (a.over ts e)) h.over;
  }

  pub kept_place : Each (IsState c us) vv → IsState c us w → Each (IsState c us) (set rr i w)
  kept_place k a = each_set (IsState c us) rr i w (room.shape k) a

  pub own_place : Each (IsState c us) vv → IsState c us x
  own_place k = each_get (IsState c us) rr i x (room.shape k) inside there

  pub room_kept : i + 1 ≤ length (set rr i w)
  room_kept = omega (arith, length-set rr i w, room.long)

-- no slot yet
pub joined_none : (c : Chain) (us : List Ty) (ss uu : List Running) → JoinsPlaces c us ss uu 0 ss
joined_none c us ss uu = record { long = omega arith; over = λ ts e. walk_none _ _ _ }

pub fed_none : (c : Chain) (us : List Ty) (rs : List (List Value)) (ss : List Running) → FeedsPlaces c us rs 0 ss ss
fed_none c us rs ss = record { over = λ ts e. walk_none _ _ _ }

-- the whole
slots_join : (c : Chain) (us : List Ty) (p q w : Vec Running Global) → JoinsPlaces c us p.items q.items (length q.items) w.items → JoinsAll (ForEach c) us (Slots p) (Slots q) (Slots w)
slots_join c us p q w h = record {
  over = λ ts k.
      subst (λ t. Joins (ForEach c) ts t (tree_in (Slots q)) (tree_in (Slots w))) (sym (tree_Slots p))
      (subst (λ t. Joins (ForEach c) ts (slots_tree (map tree_in p.items)) t (tree_in (Slots w))) (sym (tree_Slots q))
      (subst (λ t. Joins (ForEach c) ts (slots_tree (map tree_in p.items)) (slots_tree (map tree_in q.items)) t) (sym (tree_Slots w))
      (walked_joins c ts (map tree_in p.items) (map tree_in q.items) (map tree_in w.items)
      (subst (λ n. IsWalked (λ j t y. Joins c (inward (ForEach c) ts) t (get_or (map tree_in q.items) j (blank c)) y) (blank c) (map tree_in p.items) n (map tree_in w.items))
      (sym (length-map q.items tree_in)) (h.over (inward (ForEach c) ts) k)))));
}

slots_take : (c : Chain) (us : List Ty) (r : List Value) (p w : Vec Running Global) → FeedsPlaces c us (tuples r) (length (tuples r)) p.items w.items → Feeds (ForEach c) us r (Slots p) (Slots w)
slots_take c us r p w h = record {
  over = λ ts k.
      subst (λ t. Takes (ForEach c) ts r t (tree_in (Slots w))) (sym (tree_Slots p))
      (subst (λ t. Takes (ForEach c) ts r (slots_tree (map tree_in p.items)) t) (sym (tree_Slots w))
      (walked_takes c ts r (map tree_in p.items) (map tree_in w.items) (h.over (inward (ForEach c) ts) k)));
}

-- the arms of -ForEach
module _ (c : Chain) (us : List Ty) where
  pub slots_are_states : (s : Running) (v : Vec Running Global) → s ≡ Slots v → IsState (ForEach c) us s → Each (IsState c us) v.items
  slots_are_states s v e k = subst (AreSlots (IsState c us)) (ap out-Running e ∙ out_Slots v) k

  pub states_are_slots : (s : Running) (v : Vec Running Global) → s ≡ Slots v → Each (IsState c us) v.items → IsState (ForEach c) us s
  states_are_slots s v e k = subst (AreSlots (IsState c us)) (sym (ap out-Running e ∙ out_Slots v)) k

  module _ {A E : Type 0} (x : Result A E) where
    pub slots_kept : (v : Running) (w : Vec Running Global) → v ≡ Slots w → OnOk x (Each (IsState c us) w.items) → OnOk x (IsState (ForEach c) us v)
    slots_kept v w e h = on_ok x (states_are_slots v w e) h

    pub slots_joined : (s u v : Running) (p q w : Vec Running Global) → s ≡ Slots p → u ≡ Slots q → v ≡ Slots w → OnOk x (JoinsPlaces c us p.items q.items (length q.items) w.items) → OnOk x (JoinsAll (ForEach c) us s u v)
    slots_joined s u v p q w e g i h = on_ok x (λ a.
        subst (λ s. JoinsAll (ForEach c) us s u v) (sym e) (subst (λ u. JoinsAll (ForEach c) us (Slots p) u v) (sym g) (subst (JoinsAll (ForEach c) us (Slots p) (Slots q)) (sym i) (slots_join c us p q w a)))) h

    pub slots_fed : (r : List Value) (rs : List (List Value)) (n : ℕ) (s v : Running) (p w : Vec Running Global) → tuples r ≡ rs → length rs ≡ n → s ≡ Slots p → v ≡ Slots w → OnOk x (FeedsPlaces c us rs n p.items w.items) → OnOk x (Feeds (ForEach c) us r s v)
    slots_fed r rs n s v p w m l e g h = on_ok x (λ a.
        subst (λ s. Feeds (ForEach c) us r s v) (sym e) (subst (Feeds (ForEach c) us r (Slots p)) (sym g)
        (slots_take c us r p w (subst (λ k. FeedsPlaces c us (tuples r) k p.items w.items) (sym (ap length m ∙ l)) (subst (λ qs. FeedsPlaces c us qs n p.items w.items) (sym m) a))))) h

-- what stands at a place, whatever is said to stand past the last
pub own_at : {X : Type 0} (xs : List X) (i : ℕ) (x d : X) → i < length xs → x ≡ get_or xs i x → x ≡ get_or xs i d
own_at [] i x d l e = absurd (omega arith)
own_at (y ∷ xs) zero x d l e = e
own_at (y ∷ xs) (suc i) x d l e = own_at xs i x d (omega arith) e
