-- From the words of an inner chain's state to those of its chain, for each suffix that adds nothing to the state: -If,
-- -Array, -Merge; -OrNull, -OrDefault and -State take and join as their inner chain does, by computing. And functions.
use Rattle.std.proofs.Common.{◌≡◌, ℕ, nat_eq, Bool, true, false, cond, List, [], ◌∷◌, ◌++◌, map, Some, refl, sym, ap, ap₂, ◌∙◌, subst, append-nil, append_assoc}
use Rattle.std.specs.Prelude.{filter, flat_map}
use Rattle.std.proofs.lemmas.List.Concat.{flat_map-append}
use Rattle.std.proofs.lemmas.List.Elements.{filter-append}
use Rattle.agg_terms.specs.Values.{Tree, Value, Nil, Cell}
use Rattle.agg_terms.specs.Chains.{Array, Chain, If, Leaf, Merge, Of, OrDefault, OrNull, State, Ty}
use Rattle.agg_terms.specs.Lists.{Each, front}
use Rattle.agg_terms.specs.Types.{inward}
use Rattle.agg_meaning.specs.Feeds.{Feed, IsFeed, as_tree, last, no_null, opened, tuples}
use Rattle.agg_meaning.specs.Functions.{leaf_normal}
use Rattle.agg_meaning.specs.Picks.{when_met}
use Rattle.agg_meaning.specs.Results.{can_be_null, default, result}
use Rattle.agg_meaning.specs.Laws.{AreFeeds, IsLegal}
use Rattle.agg_meaning.specs.States.{Held, IsFedBy, IsFedChain, Joins, Means, MeansChain, StandsFor, Takes, TakesFeeds, TakesRow, TakesState, made_for}
use Rattle.agg_meaning.specs.Suffixes.{unfolded}
use Rattle.agg_meaning.proofs.Formed.{met_here, unfolds}
use Rattle.agg_meaning.proofs.Kept.{each_flat_map}
use Rattle.agg_meaning.proofs.States.{stands_unfolded}

each_left : {X : Type 0} (P : X → Type 0) (A B : List X) → Each P (A ++ B) → Each P A
each_left P [] B k = tt
each_left P (x ∷ A) B k = (k.0, each_left P A B k.1)

each_right : {X : Type 0} (P : X → Type 0) (A B : List X) → Each P (A ++ B) → Each P B
each_right P [] B k = k
each_right P (x ∷ A) B k = each_right P A B k.1

-- no feeds, and feeds after feeds
pub takes_none : (c : Chain) (ts : List Ty) (t : Tree) → TakesFeeds c ts [] t t
takes_none c ts t = λ L l k h. subst (λ M. StandsFor c ts M t) (sym (append-nil L)) h

pub takes_then : (c : Chain) (ts : List Ty) (A B : List (Feed c)) (t u v : Tree) → TakesFeeds c ts A t u → TakesFeeds c ts B u v → TakesFeeds c ts (A ++ B) t v
takes_then c ts A B t u v a b =
    λ L l k h. subst (λ M. StandsFor c ts M v) (append_assoc L A B) (b (L ++ A) l (each_right (IsFeed c ts) A B k) (a L l (each_left (IsFeed c ts) A B k) h))

-- a link that hands on what it picks of each feed
module _ (c : Chain) (ts : List Ty) {F : Type 0} (pick : F → List (Feed c)) where
  pub picked_takes : (L : List F) (f : F) (v : Tree) → StandsFor c ts (flat_map pick L ++ pick f) v → StandsFor c ts (flat_map pick (L ++ f ∷ [])) v
  picked_takes L f v h =
      subst (λ M. StandsFor c ts M v) (sym (flat_map-append pick L (f ∷ []) ∙ ap (λ M. flat_map pick L ++ M) (append-nil (pick f)))) h

  pub picked_joins : (A B : List F) (v : Tree) → StandsFor c ts (flat_map pick A ++ flat_map pick B) v → StandsFor c ts (flat_map pick (A ++ B)) v
  picked_joins A B v h = subst (λ M. StandsFor c ts M v) (sym (flat_map-append pick A B)) h

-- -If: a condition other than 0 hands the row on; 0 and NULL leave the state as it is, by computing
pub when_above : {X : Type 0} (x : X) (n : ℕ) → nat_eq n 0 ≡ false → when_met (x, Some n) ≡ x ∷ []
when_above x n e = rw e refl

pub if_takes : (c : Chain) (ts : List Ty) (r : List Value) (t v : Tree) → when_met (opened (If c) r) ≡ opened c (front r) ∷ [] → Takes c (inward (If c) ts) (front r) t v → Takes (If c) ts r t v
if_takes c ts r t v e a =
    λ L l k h. picked_takes c (inward (If c) ts) when_met L (opened (If c) r) v
    (subst (λ M. StandsFor c (inward (If c) ts) (flat_map when_met L ++ M) v) (sym e) (a (flat_map when_met L) l (k.0.0, tt) h))

pub if_leaves : (c : Chain) (ts : List Ty) (r : List Value) (t : Tree) → when_met (opened (If c) r) ≡ [] → Takes (If c) ts r t t
if_leaves c ts r t e =
    λ L l k h. picked_takes c (inward (If c) ts) when_met L (opened (If c) r) t
    (subst (λ M. StandsFor c (inward (If c) ts) M t) (sym (ap (λ M. flat_map when_met L ++ M) e ∙ append-nil (flat_map when_met L))) h)

pub if_joins : (c : Chain) (ts : List Ty) (t u v : Tree) → Joins c (inward (If c) ts) t u v → Joins (If c) ts t u v
if_joins c ts t u v a = λ A B h k. picked_joins c (inward (If c) ts) when_met A B v (a (flat_map when_met A) (flat_map when_met B) h k)

met_feeds : (c : Chain) (ts : List Ty) (L : List (Feed (If c))) → AreFeeds (If c) ts L → AreFeeds c (inward (If c) ts) (flat_map when_met L)
met_feeds c ts L k = each_flat_map (IsFeed (If c) ts) (IsFeed c (inward (If c) ts)) when_met (λ f h. met_here (IsFeed c (inward (If c) ts)) f h.0) L k

pub if_means : (c : Chain) (ts : List Ty) (t : Tree) (x : Value) → MeansChain c (inward (If c) ts) t x → MeansChain (If c) ts t x
if_means c ts t x a = λ L l k h. a (flat_map when_met L) l (met_feeds c ts L k) h

pub if_fed : (c : Chain) (ts : List Ty) (t : Tree) (b : Bool) → IsFedChain c (inward (If c) ts) t b → IsFedChain (If c) ts t b
if_fed c ts t b a = λ L l k h. a (flat_map when_met L) l (met_feeds c ts L k) h

-- -Array: the rows of elements, one after another
pub array_takes : (c : Chain) (ts : List Ty) (r : List Value) (t v : Tree) → TakesFeeds c (inward (Array c) ts) (map (opened c) (tuples r)) t v → Takes (Array c) ts r t v
array_takes c ts r t v a = λ L l k h. picked_takes c (inward (Array c) ts) (λ f. f) L (opened (Array c) r) v (a (flat_map (λ f. f) L) l k.0 h)

pub array_joins : (c : Chain) (ts : List Ty) (t u v : Tree) → Joins c (inward (Array c) ts) t u v → Joins (Array c) ts t u v
array_joins c ts t u v a = λ A B h k. picked_joins c (inward (Array c) ts) (λ f. f) A B v (a (flat_map (λ f. f) A) (flat_map (λ f. f) B) h k)

element_feeds : (c : Chain) (ts : List Ty) (L : List (Feed (Array c))) → AreFeeds (Array c) ts L → AreFeeds c (inward (Array c) ts) (flat_map (λ f. f) L)
element_feeds c ts L k = each_flat_map (IsFeed (Array c) ts) (IsFeed c (inward (Array c) ts)) (λ f. f) (λ f h. h) L k

pub array_means : (c : Chain) (ts : List Ty) (t : Tree) (x : Value) → MeansChain c (inward (Array c) ts) t x → MeansChain (Array c) ts t x
array_means c ts t x a = λ L l k h. a (flat_map (λ f. f) L) l (element_feeds c ts L k) h

pub array_fed : (c : Chain) (ts : List Ty) (t : Tree) (b : Bool) → IsFedChain c (inward (Array c) ts) t b → IsFedChain (Array c) ts t b
array_fed c ts t b a = λ L l k h. a (flat_map (λ f. f) L) l (element_feeds c ts L k) h

-- -Merge: the state of the row is merged in
pub merge_takes : (c : Chain) (ts : List Ty) (r : List Value) (t v : Tree) → Joins c (inward (Merge c) ts) t (as_tree (last Nil r)) v → Takes (Merge c) ts r t v
merge_takes c ts r t v a =
    λ L l k h. picked_takes c (inward (Merge c) ts) (unfolded c (inward (Merge c) ts)) L (opened (Merge c) r) v
    (a (flat_map (unfolded c (inward (Merge c) ts)) L) (unfolded c (inward (Merge c) ts) (as_tree (last Nil r))) h (stands_unfolded c (inward (Merge c) ts) (as_tree (last Nil r)) l k.0))

pub merge_joins : (c : Chain) (ts : List Ty) (t u v : Tree) → Joins c (inward (Merge c) ts) t u v → Joins (Merge c) ts t u v
merge_joins c ts t u v a =
    λ A B h k. picked_joins c (inward (Merge c) ts) (unfolded c (inward (Merge c) ts)) A B v (a (flat_map (unfolded c (inward (Merge c) ts)) A) (flat_map (unfolded c (inward (Merge c) ts)) B) h k)

state_feeds : (c : Chain) (ts : List Ty) (L : List (Feed (Merge c))) → IsLegal (Merge c) ts → AreFeeds (Merge c) ts L → AreFeeds c (inward (Merge c) ts) (flat_map (unfolded c (inward (Merge c) ts)) L)
state_feeds c ts L l k =
    each_flat_map (IsFeed (Merge c) ts) (IsFeed c (inward (Merge c) ts)) (unfolded c (inward (Merge c) ts)) (unfolds c (inward (Merge c) ts) l.0 l.1) L k

pub merge_means : (c : Chain) (ts : List Ty) (t : Tree) (x : Value) → MeansChain c (inward (Merge c) ts) t x → MeansChain (Merge c) ts t x
merge_means c ts t x a = λ L l k h. a (flat_map (unfolded c (inward (Merge c) ts)) L) l (state_feeds c ts L l k) h

pub merge_fed : (c : Chain) (ts : List Ty) (t : Tree) (b : Bool) → IsFedChain c (inward (Merge c) ts) t b → IsFedChain (Merge c) ts t b
merge_fed c ts t b a = λ L l k h. a (flat_map (unfolded c (inward (Merge c) ts)) L) l (state_feeds c ts L l k) h

-- -OrNull and -OrDefault: by whether a row reached the function; -State: the tree
pub or_null_means : (c : Chain) (ts : List Ty) (t : Tree) (b : Bool) (x : Value) → IsFedChain c ts t b → MeansChain c ts t x → MeansChain (OrNull c) ts t (cond b x (cond (can_be_null (result c ts)) Nil x))
or_null_means c ts t b x f a = λ L l k h. ap₂ (λ y z. cond y z (cond (can_be_null (result c ts)) Nil z)) (f L l k h) (a L l k h)

pub or_default_means : (c : Chain) (ts : List Ty) (t : Tree) (b : Bool) (x : Value) → IsFedChain c ts t b → MeansChain c ts t x → MeansChain (OrDefault c) ts t (cond b x (default (result c ts)))
or_default_means c ts t b x f a = λ L l k h. ap₂ (λ y z. cond y z (default (result c ts))) (f L l k h) (a L l k h)

pub state_means : (c : Chain) (ts : List Ty) (t : Tree) → MeansChain (State c) ts t (Cell t)
state_means c ts t = λ L l k h. ap Cell h

-- a function: a live row by its state's words, and any other row leaves the state as it is
pub function_takes : (f : Leaf) (ts : List Ty) (r : List Value) (s v : Held) → s.made ≡ made_for f ts → no_null r ≡ true → TakesRow s r v → Takes (Of f) ts r s.tree v.tree
function_takes f ts r s v m n a = λ L l k h. (a f ts L l.1 k.0 n (m, h)).1

pub function_leaves : (f : Leaf) (ts : List Ty) (r : List Value) (t : Tree) → no_null r ≡ false → Takes (Of f) ts r t t
function_leaves f ts r t n = λ L l k h. h ∙ sym (ap (leaf_normal f ts) (filter-append no_null L (r ∷ []) ∙ ap (λ M. filter no_null L ++ M) none ∙ append-nil (filter no_null L)))
  where
    none : filter no_null (r ∷ []) ≡ []
    none = rw n refl

pub function_joins : (f : Leaf) (ts : List Ty) (s u v : Held) → s.made ≡ made_for f ts → u.made ≡ made_for f ts → TakesState s u v → Joins (Of f) ts s.tree u.tree v.tree
function_joins f ts s u v m n a = λ A B h k. (a f ts A B (m, h) (n, k)).1

pub function_means : (f : Leaf) (ts : List Ty) (s : Held) (x : Value) → s.made ≡ made_for f ts → Means s x → MeansChain (Of f) ts s.tree x
function_means f ts s x m a = λ L l k h. a f ts L l.1 (m, h)

pub function_fed : (f : Leaf) (ts : List Ty) (s : Held) (b : Bool) → s.made ≡ made_for f ts → IsFedBy s b → IsFedChain (Of f) ts s.tree b
function_fed f ts s b m a = λ L l k h. a f ts L (m, h)
