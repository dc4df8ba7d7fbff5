-- States of functions: what each kind of state says in the words of chains.
use Rattle.std.proofs.Common.{◌≡◌, Bool, true, false, not, ◌||◌, List, [], refl, sym, ap, ◌∙◌, subst, Result, Ok, Err}
use Rattle.std.specs.Result.{OnOk}
use Rattle.agg_terms.specs.Chains.{GroupArray, Leaf, Of, Str, Ty}
use Rattle.agg_terms.specs.Trees.{IsTree}
use Rattle.agg_terms.specs.Values.{Tree, Value}
use Rattle.agg_meaning.specs.Feeds.{no_null}
use Rattle.agg_meaning.specs.Results.{blank, leaf_result}
use Rattle.agg_meaning.specs.States as states
use Rattle.agg_meaning.specs.States.{Held, Joins, Stands, Takes, TakesRow, TakesState, made_for}
use Rattle.agg_meaning.proofs.Blank.{of_none}
use Rattle.agg_meaning.proofs.Suffixed.{function_joins, function_leaves, function_takes}
use Rattle.best_leaves.specs.Made.{function_leaf}
use Rattle.best_leaves.specs.declared.function.Function.{Function}
use Rattle.best_leaves.specs.declared.function.Function.TheVariants as function
use Rattle.boxed_leaves.specs.Boxed as boxed
use Rattle.boxed_leaves.specs.Served as boxed_served
use Rattle.boxed_leaves.specs.declared.state.BoxedState.{BoxedState}
use Rattle.boxed_leaves.specs.declared.state.BoxedState.TheVariants as kind
use Rattle.int_leaves.specs.Parts as int
use Rattle.int_leaves.specs.Served as int_served
use Rattle.running_states.specs.declared.running.Running.{Running}
use Rattle.running_states.specs.declared.running.Running.TheVariants.{Boxed, Int}
use Rattle.running_states.specs.Shapes.{IsLeafState, IsState}
use Rattle.running_states.specs.Trees.{tree_in}
use Rattle.running_states.specs.Words.{Feeds, HasTree, JoinsAll}
use Rattle.running_states.proofs.Layers.{out_Boxed, out_Int, out_Keyed, out_Rows, out_Slots, tree_Boxed, tree_Int}
use Rattle.running_states.proofs.Outcomes.{on_ok}

-- the tree of a state behind a pointer doesn't depend on the result type
pub boxed_tree : (t u : Ty) (s : BoxedState) → (boxed.held t s).tree ≡ (boxed.held u s).tree
boxed_tree t u (kind.Best s) = refl
boxed_tree t u (kind.Array s) = refl
boxed_tree t u (kind.Quantile s) = refl
boxed_tree t u (kind.Set s) = refl
boxed_tree t u (kind.Funnel s) = refl
boxed_tree t u (kind.Match s) = refl

-- nor does what it was made for, but for a groupArray's result type: states made alike at one type are so at each
abbrev retype : Leaf → Ty → states.Made → states.Made
retype (GroupArray most) t m = record { leaf = m.leaf; result = t; arguments = m.arguments }
retype _ t m = m

best_retype : (f : Function) (t : Ty) (m : states.Made) → retype (function_leaf f) t m ≡ m
best_retype function.Min t m = refl
best_retype function.Max t m = refl
best_retype function.ArgMin t m = refl
best_retype function.ArgMax t m = refl

made_at : (t u : Ty) (s : BoxedState) → (boxed.held t s).made ≡ retype (boxed.held u s).made.leaf t (boxed.held u s).made
made_at t u (kind.Best s) = sym (best_retype s.value.made.function t (boxed.held u (kind.Best s)).made)
made_at t u (kind.Array s) = refl
made_at t u (kind.Quantile s) = refl
made_at t u (kind.Set s) = refl
made_at t u (kind.Funnel s) = refl
made_at t u (kind.Match s) = refl

boxed_made : (t u : Ty) (s v : BoxedState) → (boxed.held u s).made ≡ (boxed.held u v).made → (boxed.held t s).made ≡ (boxed.held t v).made
boxed_made t u s v e = made_at t u s ∙ ap (λ (m : states.Made). retype m.leaf t m) e ∙ sym (made_at t u v)

-- A kind of function's states. `here` says which functions and types have it, `held` is the state over a function's result type.
pub record IsKind {P : Type 0} (make : P → Running) (here : Leaf → List Ty → Type 0) (held : Ty → P → Held) : Type 0 where
  pub tree : (t : Ty) (p : P) → tree_in (make p) ≡ (held t p).tree
  pub made : (f : Leaf) (us : List Ty) (p : P) → IsState (Of f) us (make p) → here f us × ((held (leaf_result f us) p).made ≡ made_for f us)
  pub state : (f : Leaf) (us : List Ty) (p : P) → here f us → (held (leaf_result f us) p).made ≡ made_for f us → IsState (Of f) us (make p)

abbrev IsInt : Leaf → List Ty → Type 0
IsInt f us = int_served.is_served f us ≡ true

abbrev IsBoxed : Leaf → List Ty → Type 0
IsBoxed f us = int_served.is_served f us ≡ false

abbrev int_held : Ty → int.Parts → Held
int_held t s = int.held s

pub int_kind : IsKind Int IsInt int_held
int_kind = record {
  tree = λ t p. tree_Int p;
  made = λ f us p h. subst (IsLeafState f us) (out_Int p) h;
  state = λ f us p i h. subst (IsLeafState f us) (sym (out_Int p)) (i, h);
}

pub boxed_kind : IsKind Boxed IsBoxed boxed.held
boxed_kind = record {
  tree = λ t p. tree_Boxed p ∙ boxed_tree Str t p;
  made = λ f us p h. subst (IsLeafState f us) (out_Boxed p) h;
  state = λ f us p i h. subst (IsLeafState f us) (sym (out_Boxed p)) (i, h);
}

module _ {P : Type 0} (make : P → Running) (here : Leaf → List Ty → Type 0) (held : Ty → P → Held) (kind : IsKind make here held) where
  kind_fresh : (f : Leaf) (us : List Ty) (p : P) → here f us → Stands f us [] (held (leaf_result f us) p) → IsState (Of f) us (make p) × (tree_in (make p) ≡ blank (Of f))
  kind_fresh f us p i h = (kind.state f us p i h.0, kind.tree (leaf_result f us) p ∙ h.1 ∙ of_none (Of f) us)

  kind_takes : (f : Leaf) (us : List Ty) (r : List Value) (p q : P) → IsState (Of f) us (make p) → TakesRow (held (leaf_result f us) p) r (held (leaf_result f us) q) → no_null r ≡ true → Feeds (Of f) us r (make p) (make q)
  kind_takes f us r p q k a n = record {
    over = λ ts h.
        subst (λ y. Takes (Of f) y r (tree_in (make p)) (tree_in (make q))) (sym h)
        (subst (λ t. Takes (Of f) us r t (tree_in (make q))) (sym (kind.tree (leaf_result f us) p))
        (subst (λ t. Takes (Of f) us r (held (leaf_result f us) p).tree t) (sym (kind.tree (leaf_result f us) q))
        (function_takes f us r (held (leaf_result f us) p) (held (leaf_result f us) q) (kind.made f us p k).1 n a)));
  }

  kind_kept : (f : Leaf) (us : List Ty) (p q : P) → IsState (Of f) us (make p) → ((t : Ty) → (held t q).made ≡ (held t p).made) → IsState (Of f) us (make q)
  kind_kept f us p q k m = kind.state f us q (kind.made f us p k).0 (m (leaf_result f us) ∙ (kind.made f us p k).1)

  kind_alike : (f : Leaf) (us : List Ty) (p q : P) → IsState (Of f) us (make p) → IsState (Of f) us (make q) → (held (leaf_result f us) p).made ≡ (held (leaf_result f us) q).made
  kind_alike f us p q k l = (kind.made f us p k).1 ∙ sym (kind.made f us q l).1

  kind_joins : (f : Leaf) (us : List Ty) (p q w : P) → IsState (Of f) us (make p) → IsState (Of f) us (make q) → TakesState (held (leaf_result f us) p) (held (leaf_result f us) q) (held (leaf_result f us) w) → JoinsAll (Of f) us (make p) (make q) (make w)
  kind_joins f us p q w k l a = record {
    over = λ ts h.
        subst (λ y. Joins (Of f) y (tree_in (make p)) (tree_in (make q)) (tree_in (make w))) (sym h)
        (subst (λ t. Joins (Of f) us t (tree_in (make q)) (tree_in (make w))) (sym (kind.tree (leaf_result f us) p))
        (subst (λ t. Joins (Of f) us (held (leaf_result f us) p).tree t (tree_in (make w))) (sym (kind.tree (leaf_result f us) q))
        (subst (λ t. Joins (Of f) us (held (leaf_result f us) p).tree (held (leaf_result f us) q).tree t) (sym (kind.tree (leaf_result f us) w))
        (function_joins f us (held (leaf_result f us) p) (held (leaf_result f us) q) (held (leaf_result f us) w) (kind.made f us p k).1 (kind.made f us q l).1 a))));
  }

  kind_stored : (f : Leaf) (us : List Ty) (t : Tree) (p : P) → (IsTree (Of f) us t → (held (leaf_result f us) p).tree ≡ t) → HasTree (Of f) us t (make p)
  kind_stored f us t p a = record { over = λ ts h k. kind.tree (leaf_result f us) p ∙ a (subst (λ y. IsTree (Of f) y t) h k) }

-- the two kinds
module _ (f : Leaf) (us : List Ty) where
  pub int_fresh : (p : int.Parts) → int_served.is_served f us ≡ true → Stands f us [] (int.held p) → IsState (Of f) us (Int p) × (tree_in (Int p) ≡ blank (Of f))
  int_fresh p = kind_fresh Int IsInt int_held int_kind f us p

  pub boxed_fresh : (p : BoxedState) → int_served.is_served f us ≡ false → Stands f us [] (boxed.held (leaf_result f us) p) → IsState (Of f) us (Boxed p) × (tree_in (Boxed p) ≡ blank (Of f))
  boxed_fresh p = kind_fresh Boxed IsBoxed boxed.held boxed_kind f us p

  pub boxed_is_served : int_served.is_served f us ≡ false → (int_served.is_served f us || boxed_served.is_served f us) ≡ true → boxed_served.is_served f us ≡ true
  boxed_is_served e h = sym (ap (λ b. b || boxed_served.is_served f us) e) ∙ h

  pub leaf_leaves : (r : List Value) (s : Running) → no_null r ≡ false → Feeds (Of f) us r s s
  leaf_leaves r s n = record { over = λ ts h. function_leaves f ts r (tree_in s) n }

  pub int_takes : (r : List Value) (s v : Running) (p q : int.Parts) → s ≡ Int p → v ≡ Int q → IsState (Of f) us s → TakesRow (int.held p) r (int.held q) → (int.held q).made ≡ (int.held p).made → no_null r ≡ true →
      IsState (Of f) us v × Feeds (Of f) us r s v
  int_takes r s v p q e g k a m n =
      let k' : IsState (Of f) us (Int p) = subst (IsState (Of f) us) e k in (
        subst (IsState (Of f) us) (sym g) (kind_kept Int IsInt int_held int_kind f us p q k' (λ t. m)),
        subst (λ s. Feeds (Of f) us r s v) (sym e) (subst (Feeds (Of f) us r (Int p)) (sym g) (kind_takes Int IsInt int_held int_kind f us r p q k' a n)),
      )

  pub boxed_kept : {A E : Type 0} (x : Result A E) (s v : Running) (p q : BoxedState) → s ≡ Boxed p → v ≡ Boxed q → IsState (Of f) us s → ((t : Ty) → (boxed.held t q).made ≡ (boxed.held t p).made) → OnOk x (IsState (Of f) us v)
  boxed_kept (Ok _) s v p q e g k m = subst (IsState (Of f) us) (sym g) (kind_kept Boxed IsBoxed boxed.held boxed_kind f us p q (subst (IsState (Of f) us) e k) m)
  boxed_kept (Err _) s v p q e g k m = tt

  pub boxed_takes : {A E : Type 0} (x : Result A E) (r : List Value) (s v : Running) (p q : BoxedState) → s ≡ Boxed p → v ≡ Boxed q → IsState (Of f) us s → OnOk x ((t : Ty) → TakesRow (boxed.held t p) r (boxed.held t q)) → no_null r ≡ true →
      OnOk x (Feeds (Of f) us r s v)
  boxed_takes x r s v p q e g k a n = on_ok x (λ h. subst (λ s. Feeds (Of f) us r s v) (sym e) (subst (Feeds (Of f) us r (Boxed p)) (sym g)
      (kind_takes Boxed IsBoxed boxed.held boxed_kind f us r p q (subst (IsState (Of f) us) e k) (h (leaf_result f us)) n))) a

  pub int_starts : (p : int.Parts) → int_served.is_served f us ≡ true → Stands f us [] (int.held p) → IsState (Of f) us (Int p)
  int_starts p i h = (int_fresh p i h).0

  pub int_blank : (p : int.Parts) → int_served.is_served f us ≡ true → Stands f us [] (int.held p) → tree_in (Int p) ≡ blank (Of f)
  int_blank p i h = (int_fresh p i h).1

  pub boxed_starts : (p : BoxedState) → int_served.is_served f us ≡ false → Stands f us [] (boxed.held (leaf_result f us) p) → IsState (Of f) us (Boxed p)
  boxed_starts p i h = (boxed_fresh p i h).0

  pub boxed_blank : (p : BoxedState) → int_served.is_served f us ≡ false → Stands f us [] (boxed.held (leaf_result f us) p) → tree_in (Boxed p) ≡ blank (Of f)
  boxed_blank p i h = (boxed_fresh p i h).1

  -- later states
  pub int_alike : (s u : Running) (p q : int.Parts) → s ≡ Int p → u ≡ Int q → IsState (Of f) us s → IsState (Of f) us u → (int.held p).made ≡ (int.held q).made
  int_alike s u p q e g k l = kind_alike Int IsInt int_held int_kind f us p q (subst (IsState (Of f) us) e k) (subst (IsState (Of f) us) g l)

  pub boxed_alike : (s u : Running) (p q : BoxedState) → s ≡ Boxed p → u ≡ Boxed q → IsState (Of f) us s → IsState (Of f) us u → (t : Ty) → (boxed.held t p).made ≡ (boxed.held t q).made
  boxed_alike s u p q e g k l t =
      boxed_made t (leaf_result f us) p q (kind_alike Boxed IsBoxed boxed.held boxed_kind f us p q (subst (IsState (Of f) us) e k) (subst (IsState (Of f) us) g l))

  pub int_joins : (s u v : Running) (p q w : int.Parts) → s ≡ Int p → u ≡ Int q → v ≡ Int w → IsState (Of f) us s → IsState (Of f) us u → TakesState (int.held p) (int.held q) (int.held w) → JoinsAll (Of f) us s u v
  int_joins s u v p q w e g i k l a =
      subst (λ s. JoinsAll (Of f) us s u v) (sym e) (subst (λ u. JoinsAll (Of f) us (Int p) u v) (sym g) (subst (JoinsAll (Of f) us (Int p) (Int q)) (sym i)
      (kind_joins Int IsInt int_held int_kind f us p q w (subst (IsState (Of f) us) e k) (subst (IsState (Of f) us) g l) a)))

  pub int_kept : (s v : Running) (p q : int.Parts) → s ≡ Int p → v ≡ Int q → IsState (Of f) us s → (int.held q).made ≡ (int.held p).made → IsState (Of f) us v
  int_kept s v p q e g k m = subst (IsState (Of f) us) (sym g) (kind_kept Int IsInt int_held int_kind f us p q (subst (IsState (Of f) us) e k) (λ t. m))

  pub boxed_joins : {A E : Type 0} (x : Result A E) (s u v : Running) (p q w : BoxedState) → s ≡ Boxed p → u ≡ Boxed q → v ≡ Boxed w → IsState (Of f) us s → IsState (Of f) us u →
      OnOk x ((t : Ty) → TakesState (boxed.held t p) (boxed.held t q) (boxed.held t w)) → OnOk x (JoinsAll (Of f) us s u v)
  boxed_joins x s u v p q w e g i k l a = on_ok x (λ h.
      subst (λ s. JoinsAll (Of f) us s u v) (sym e) (subst (λ u. JoinsAll (Of f) us (Boxed p) u v) (sym g) (subst (JoinsAll (Of f) us (Boxed p) (Boxed q)) (sym i)
      (kind_joins Boxed IsBoxed boxed.held boxed_kind f us p q w (subst (IsState (Of f) us) e k) (subst (IsState (Of f) us) g l) (h (leaf_result f us)))))) a

  -- copies and stored states
  pub boxed_copied : (s : Running) (p q : BoxedState) → s ≡ Boxed p → IsState (Of f) us s → ((t : Ty) → boxed.held t q ≡ boxed.held t p) → IsState (Of f) us (Boxed q)
  boxed_copied s p q e k h = kind_kept Boxed IsBoxed boxed.held boxed_kind f us p q (subst (IsState (Of f) us) e k) (λ t. ap (λ (z : Held). z.made) (h t))

  pub int_made : (p : int.Parts) → int_served.is_served f us ≡ true → (int.held p).made ≡ made_for f us → IsState (Of f) us (Int p)
  int_made p i m = int_kind.state f us p i m

  pub boxed_is_made : (p : BoxedState) → int_served.is_served f us ≡ false → (boxed.held (leaf_result f us) p).made ≡ made_for f us → IsState (Of f) us (Boxed p)
  boxed_is_made p i m = boxed_kind.state f us p i m

  pub int_stored : (t : Tree) (p : int.Parts) → (IsTree (Of f) us t → (int.held p).tree ≡ t) → HasTree (Of f) us t (Int p)
  int_stored t p a = kind_stored Int IsInt int_held int_kind f us t p a

  pub boxed_stored : (t : Tree) (p : BoxedState) → ((y : Ty) → IsTree (Of f) us t → (boxed.held y p).tree ≡ t) → HasTree (Of f) us t (Boxed p)
  boxed_stored t p a = kind_stored Boxed IsBoxed boxed.held boxed_kind f us t p (a (leaf_result f us))

pub boxed_same_tree : (s : Running) (p q : BoxedState) → s ≡ Boxed p → ((t : Ty) → boxed.held t q ≡ boxed.held t p) → tree_in (Boxed q) ≡ tree_in s
boxed_same_tree s p q e h = tree_Boxed q ∙ ap (λ (z : Held). z.tree) (h Str) ∙ sym (ap tree_in e ∙ tree_Boxed p)

pub int_same_tree : (s : Running) (p q : int.Parts) → s ≡ Int p → q ≡ p → tree_in (Int q) ≡ tree_in s
int_same_tree s p q e h = ap (λ z. tree_in (Int z)) h ∙ ap tree_in (sym e)

pub flipped : (a b : Bool) → {d : Bool} → a ≡ not b → a ≡ d → b ≡ not d
flipped a true e f = ap not (sym e ∙ f)
flipped a false e f = ap not (sym e ∙ f)

pub ruleset fresh_laws = (int_starts, int_blank, boxed_starts, boxed_blank, boxed_is_served)

pub ruleset feed_laws = (out_Int, out_Boxed, out_Slots, out_Keyed, out_Rows, leaf_leaves)

pub ruleset merge_laws = (out_Int, out_Boxed, out_Slots, out_Keyed, out_Rows)

pub ruleset copy_laws = (out_Int, out_Boxed, out_Slots, out_Keyed, out_Rows)

pub ruleset tree_laws = (boxed_is_served, int_made, boxed_is_made, int_stored, boxed_stored)
