-- The shape at a place of a list.
use Rattle.std.proofs.Common.{◌≡◌, sym, ap, subst, ◌∙◌, ℕ, ◌+◌, ◌<◌, ◌≤◌, List, [], ◌∷◌, ◌++◌, length, get_or, take, drop, map, append_assoc, Ok}
use denote.Param.Weighed.{most, at_most}
use Rattle.std.proofs.lemmas.List.{map-append, take_more, take-append-drop}
use Rattle.chain_params.specs.Faults.{IsFault}
use Rattle.chain_params.specs.declared.fault.ChainFault.{ChainFault}
use Rattle.agg_terms.specs.Chains as terms
use Rattle.type_shapes.specs.declared.shape.TypeShape.{TypeShape}
use Rattle.type_shapes.specs.Folds.{shape_of}
use Rattle.type_shapes.specs.Shapes.{shapes}
use Rattle.value_types.specs.declared.ty.Ty.{Ty}
use Rattle.value_types.specs.Folds.{ty_of}
use Rattle.shape_types.specs.Countable.{IsCountable, AreCountable}
use Rattle.shape_types.specs.Types.{type_of_shape, types_of_shapes}
use Rattle.shape_types.proofs.InOrder.{countable_at, types_push, types_refused}

module _ (ss : List TypeShape) (i : ℕ) (d : TypeShape) (here : i < length ss) where
  -- the shapes to the left of it, itself, and those to the right
  split : map shape_of ss ≡ map shape_of (take i ss) ++ shape_of (get_or ss i d) ∷ map shape_of (drop (i + 1) ss)
  split =
      ap (map shape_of) (sym (take-append-drop (i + 1) ss) ∙ ap (λ l. l ++ drop (i + 1) ss) (take_more ss i d here))
      ∙ map-append shape_of (take i ss ++ get_or ss i d ∷ []) (drop (i + 1) ss)
      ∙ ap (λ l. l ++ map shape_of (drop (i + 1) ss)) (map-append shape_of (take i ss) (get_or ss i d ∷ []))
      ∙ append_assoc (map shape_of (take i ss)) (shape_of (get_or ss i d) ∷ []) (map shape_of (drop (i + 1) ss))

  -- no deeper than the deepest
  pub no_larger : (size : TypeShape → ℕ) (x : TypeShape) → x ≡ get_or ss i d → size x ≤ most size ss
  no_larger size x is = subst (λ s. size s ≤ most size ss) (sym is) (at_most size ss i d here)

  pub countable_here : AreCountable (shapes (map shape_of ss)) → IsCountable (shape_of (get_or ss i d))
  countable_here h = countable_at (map shape_of (take i ss)) (map shape_of (drop (i + 1) ss)) (shape_of (get_or ss i d)) (subst (λ l. AreCountable (shapes l)) split h)

  pub refused_here : (x : TypeShape) (ts : List terms.Ty) (f : ChainFault) → types_of_shapes (shapes (map shape_of (take i ss))) ≡ Ok ts → x ≡ get_or ss i d →
      IsFault f (type_of_shape (shape_of x)) → IsFault f (types_of_shapes (shapes (map shape_of ss)))
  refused_here x ts f given is h =
      subst (λ l. IsFault f (types_of_shapes (shapes l))) (sym split)
      (types_refused (map shape_of (take i ss)) (map shape_of (drop (i + 1) ss)) (shape_of (get_or ss i d)) ts f given
      (subst (λ s. IsFault f (type_of_shape (shape_of s))) is h))

  pub one_more : (x : TypeShape) (ts news : List Ty) (t : Ty) → news ≡ ts ++ t ∷ [] → types_of_shapes (shapes (map shape_of (take i ss))) ≡ Ok (map ty_of ts) → x ≡ get_or ss i d →
      type_of_shape (shape_of x) ≡ Ok (ty_of t) → types_of_shapes (shapes (map shape_of (take (i + 1) ss))) ≡ Ok (map ty_of news)
  one_more x ts news t new given is h =
      ap (λ l. types_of_shapes (shapes (map shape_of l))) (take_more ss i d here)
      ∙ ap (λ l. types_of_shapes (shapes l)) (map-append shape_of (take i ss) (get_or ss i d ∷ []))
      ∙ types_push (map shape_of (take i ss)) (shape_of (get_or ss i d)) (map ty_of ts) (ty_of t) given (ap (λ s. type_of_shape (shape_of s)) (sym is) ∙ h)
      ∙ ap (λ l. Ok l) (sym (ap (map ty_of) new ∙ map-append ty_of ts (t ∷ [])))
