-- What is kept is the best of the rows: of more rows, of later ones, and read back from its tree.
use Rattle.std.proofs.Common.{◌≡◌, Bool, true, false, cond, List, [], ◌∷◌, ◌++◌, map, Option, Some, None, refl, sym, ap, ◌∙◌}
use Rattle.std.proofs.lemmas.List.{map-append}
use Rattle.agg_terms.specs.Chains.{Ty}
use Rattle.agg_terms.specs.Order.{best, compare}
use Rattle.agg_terms.specs.Trees.{one_tree, pair_tree}
use Rattle.agg_terms.specs.Values.{Num, Value}
use Rattle.agg_terms.proofs.Sorting.{IsBeating, best_joins, better}
use Rattle.agg_meaning.specs.Functions.{arg_val, higher, higher_second, leaf_normal, lower, lower_second, the_arg}
use Rattle.agg_meaning.proofs.Better.{higher_beats, higher_second_beats, lower_beats, lower_second_beats}
use Rattle.best_leaves.specs.Best.{compared_of, kept_of, kept_tree, one_kept, pair_kept, wins, with_later}
use Rattle.best_leaves.specs.Made.{function_leaf}
use Rattle.best_leaves.specs.declared.function.Function.{Function}
use Rattle.best_leaves.specs.declared.function.Function.TheVariants.{ArgMax, ArgMin, Max, Min}

-- the best of two lists joined, by the best of each
module _ {X : Type 0} (beats : X → X → Bool) (laws : IsBeating beats) where
  abbrev listed : Option X → List X
  listed None = []
  listed (Some x) = x ∷ []

  best_listed : (o : Option X) → best beats (listed o) ≡ o
  best_listed None = refl
  best_listed (Some x) = refl

  both_listed : (o p : Option X) → best beats (listed o ++ listed p) ≡ better beats o p
  both_listed None p = best_listed p
  both_listed (Some x) None = refl
  both_listed (Some x) (Some y) = refl

  best_joined : {R : Type 0} (f : R → X) (A B : List R) (o p : Option X) → o ≡ best beats (map f A) → p ≡ best beats (map f B) → better beats o p ≡ best beats (map f (A ++ B))
  best_joined f A B o p a b =
      sym (both_listed o p)
      ∙ best_joins beats laws (listed o) (map f A) (listed p) (map f B) (best_listed o ∙ a) (best_listed p ∙ b)
      ∙ ap (best beats) (sym (map-append f A B))

-- what is kept is the best of these rows
abbrev pub IsBestOf : Function → List (List Value) → Option (Value × Value) → Type 0
IsBestOf Min L kept = compared_of kept ≡ best lower (map the_arg L)
IsBestOf Max L kept = compared_of kept ≡ best higher (map the_arg L)
IsBestOf ArgMin L kept = kept ≡ best lower_second (map arg_val L)
IsBestOf ArgMax L kept = kept ≡ best higher_second (map arg_val L)

-- its tree is theirs, and from no other
pub one_back : (o : Option Value) → compared_of (one_kept (one_tree o)) ≡ o
one_back None = refl
one_back (Some (Num n)) = refl
one_back (Some v) = refl

pub pair_back : (o : Option (Value × Value)) → pair_kept (pair_tree o) ≡ o
pair_back None = refl
pair_back (Some p) = refl

one_same : (o p : Option Value) → one_tree o ≡ one_tree p → o ≡ p
one_same o p e = sym (one_back o) ∙ ap (λ t. compared_of (one_kept t)) e ∙ one_back p

pair_same : (o p : Option (Value × Value)) → pair_tree o ≡ pair_tree p → o ≡ p
pair_same o p e = sym (pair_back o) ∙ ap pair_kept e ∙ pair_back p

pub known : (w : Function) (ts : List Ty) (L : List (List Value)) (kept : Option (Value × Value)) → kept_tree w kept ≡ leaf_normal (function_leaf w) ts L → IsBestOf w L kept
known Min ts L kept e = one_same _ _ e
known Max ts L kept e = one_same _ _ e
known ArgMin ts L kept e = pair_same _ _ e
known ArgMax ts L kept e = pair_same _ _ e

pub tree_is : (w : Function) (ts : List Ty) (L : List (List Value)) (kept : Option (Value × Value)) → IsBestOf w L kept → kept_tree w kept ≡ leaf_normal (function_leaf w) ts L
tree_is Min ts L kept e = ap one_tree e
tree_is Max ts L kept e = ap one_tree e
tree_is ArgMin ts L kept e = ap pair_tree e
tree_is ArgMax ts L kept e = ap pair_tree e

-- the later one only where it beats
abbrev pub joined_kept : Function → Option (Value × Value) → Option (Value × Value) → Option (Value × Value)
joined_kept w kept None = kept
joined_kept w kept (Some p) = with_later w kept p

left_best : {X : Type 0} (beats : X → X → Bool) (o : Option X) → o ≡ better beats o None
left_best beats None = refl
left_best beats (Some x) = refl

compared_cond : (b : Bool) (p q : Value × Value) → compared_of (cond b (Some p) (Some q)) ≡ Some (cond b p.1 q.1)
compared_cond true p q = refl
compared_cond false p q = refl

some_cond : (b : Bool) (p q : Value × Value) → cond b (Some p) (Some q) ≡ Some (cond b p q)
some_cond true p q = refl
some_cond false p q = refl

-- for min and max, and for argMin and argMax
one_better : (w : Function) (beats : Value → Value → Bool) → ((a b : Value) → wins w (compare a b) ≡ beats a b) → (k l : Option (Value × Value)) →
    compared_of (joined_kept w k l) ≡ better beats (compared_of k) (compared_of l)
one_better w beats e k None = left_best beats (compared_of k)
one_better w beats e None (Some p) = refl
one_better w beats e (Some q) (Some p) = compared_cond (wins w (compare p.1 q.1)) p q ∙ ap (λ b. Some (cond b p.1 q.1)) (e p.1 q.1)

pair_better : (w : Function) (beats : Value × Value → Value × Value → Bool) → ((a b : Value × Value) → wins w (compare a.1 b.1) ≡ beats a b) → (k l : Option (Value × Value)) →
    joined_kept w k l ≡ better beats k l
pair_better w beats e k None = left_best beats k
pair_better w beats e None (Some p) = refl
pair_better w beats e (Some q) (Some p) = some_cond (wins w (compare p.1 q.1)) p q ∙ ap (λ b. Some (cond b p q)) (e p q)

pub joined_best : (w : Function) (A B : List (List Value)) (k l : Option (Value × Value)) → IsBestOf w A k → IsBestOf w B l → IsBestOf w (A ++ B) (joined_kept w k l)
joined_best Min A B k l a b =
    one_better Min lower (λ x y. refl) k l ∙ best_joined lower lower_beats the_arg A B (compared_of k) (compared_of l) a b
joined_best Max A B k l a b =
    one_better Max higher (λ x y. refl) k l ∙ best_joined higher higher_beats the_arg A B (compared_of k) (compared_of l) a b
joined_best ArgMin A B k l a b =
    pair_better ArgMin lower_second (λ x y. refl) k l ∙ best_joined lower_second lower_second_beats arg_val A B k l a b
joined_best ArgMax A B k l a b =
    pair_better ArgMax higher_second (λ x y. refl) k l ∙ best_joined higher_second higher_second_beats arg_val A B k l a b

pub row_best : (w : Function) (r : List Value) → IsBestOf w (r ∷ []) (Some (kept_of w r))
row_best Min r = refl
row_best Max r = refl
row_best ArgMin r = refl
row_best ArgMax r = refl

pub none_best : (w : Function) → IsBestOf w [] None
none_best Min = refl
none_best Max = refl
none_best ArgMin = refl
none_best ArgMax = refl
