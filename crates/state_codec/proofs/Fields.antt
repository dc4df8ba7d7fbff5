-- The states of a type in fields.
use Rattle.std.proofs.Common.{◌≡◌, ◌<◌, ℕ, true, List, map, get_or, Result, Ok, Err, sym, ap, subst, ◌∙◌}
use Rattle.std.specs.Prelude.{IfOk, IsTrue}
use Rattle.std.proofs.lemmas.Bool.{and_parts}
use Rattle.agg_terms.specs.Chains as terms
use Rattle.agg_terms.specs.Fitting.{fits_value}
use Rattle.agg_terms.specs.Trees.{IsTree}
use Rattle.agg_terms.specs.Values as family
use Rattle.agg_terms.proofs.Fitting as fitting
use Rattle.agg_typing.specs.Legal.{is_basic, is_legal_type}
use Rattle.agg_typing.specs.Promises.{IsLegalCall}
use Rattle.agg_typing.proofs.Results.{state_type_is_of_legal}
use Rattle.agg_values.proofs.Images.{tys_back}
use Rattle.scalar_texts.specs.States.{AllStates, IsStateRead}
use Rattle.scalar_texts.specs.declared.fault.StateReadFault.{StateReadFault}
use Rattle.value_types.specs.declared.chain.Chain.{Chain}
use Rattle.value_types.specs.declared.ty.Ty.{Ty}
use Rattle.value_types.specs.declared.ty.Ty.TheVariants.{State}
use Rattle.value_types.specs.declared.value.Tree.{Tree}
use Rattle.value_types.specs.Folds.{chain_of, tree_of, ty_of}
use Rattle.value_types.proofs.FoldLaws.{ty_of-State}
use Rattle.state_texts.specs.Texts.{text}
use Rattle.state_texts.specs.Versions.{written}
use Rattle.state_texts.proofs.Legal.{legal_spelled}
use Rattle.state_texts.proofs.Trees.{of_tree}
use Rattle.state_codec.specs.Codec.{IsLegalState, state_reading, state_text}
use Rattle.state_codec.specs.Reading.{reading}
use Rattle.state_codec.proofs.Decoded.{are_bytes}
use Rattle.state_codec.proofs.Whole.{whole_takes}

basic_has : (t : terms.Ty) → is_basic t ≡ true → AllStates IsLegalState t
basic_has (terms.Whole n) e = tt
basic_has (terms.Signed w) e = tt
basic_has terms.Str e = tt
basic_has (terms.Arr t) e = absurd cc
basic_has (terms.MapTy k t) e = absurd cc
basic_has (terms.Nullable t) e = absurd cc
basic_has (terms.StateOf c ts) e = absurd cc

pub legal_has : (t : terms.Ty) → is_legal_type t ≡ true → AllStates IsLegalState t
legal_has (terms.Whole n) e = tt
legal_has (terms.Signed w) e = tt
legal_has terms.Str e = tt
legal_has (terms.Arr t) e = legal_has t e
legal_has (terms.MapTy k t) e = let p = and_parts (is_basic k) (is_legal_type t) e in (basic_has k p.0, legal_has t p.1)
legal_has (terms.Nullable t) e = basic_has t e
legal_has (terms.StateOf c ts) e = e

module _ (ty : Ty) (chain : Chain) (args : List Ty) (is : ty ≡ State chain args) where
  type_is : ty_of ty ≡ terms.StateOf (chain_of chain) (terms.tys (map ty_of args))
  type_is = ap ty_of is ∙ ty_of-State chain args

  pub state_said : (bytes : List ℕ) → state_reading (ty_of ty) bytes ≡ reading (chain_of chain) (map ty_of args) bytes
  state_said bytes = ap (λ t. state_reading t bytes) type_is ∙ ap (λ ts. reading (chain_of chain) ts bytes) (tys_back (map ty_of args))

  pub state_spelled : (t : family.Tree) → state_text (ty_of ty) t ≡ text written (chain_of chain) (map ty_of args) t
  state_spelled t = ap (λ u. state_text u t) type_is ∙ ap (λ ts. text written (chain_of chain) ts t) (tys_back (map ty_of args))

  legal_call : IsLegalState (ty_of ty) → IsLegalCall (chain_of chain) (map ty_of args)
  legal_call l =
      let m : is_legal_type (terms.StateOf (chain_of chain) (terms.tys (map ty_of args))) ≡ true = subst (λ t. is_legal_type t ≡ true) type_is l in
      subst (IsLegalCall (chain_of chain)) (tys_back (map ty_of args)) (state_type_is_of_legal (chain_of chain) (terms.tys (map ty_of args)) m).0

  tree_fits : (t : family.Tree) → IsTree (chain_of chain) (map ty_of args) t → fits_value (ty_of ty) (family.Cell t) ≡ true
  tree_fits t k =
      ap (λ u. fits_value u (family.Cell t)) type_is
      ∙ (fitting.tree (chain_of chain) (terms.tys_list (terms.tys (map ty_of args))) t).1 (subst (λ ts. IsTree (chain_of chain) ts t) (sym (tys_back (map ty_of args))) k)

  pub read_fits : IsLegalState (ty_of ty) → (bytes : List ℕ) → ((i : ℕ) → get_or bytes i 0 < 256) → (result : Result Tree StateReadFault) → IsStateRead (state_reading (ty_of ty) bytes) result
      → IfOk result (λ tree. IsTrue (fits_value (ty_of ty) (family.Cell (tree_of tree))))
  read_fits l bytes fits (Ok tree) e =
      let k = whole_takes (chain_of chain) (map ty_of args) (legal_spelled chain args (legal_call l)) bytes (tree_of tree) (are_bytes bytes fits) (sym (state_said bytes) ∙ e) in
      tree_fits (tree_of tree) (of_tree k.0 (chain_of chain) (map ty_of args) (tree_of tree) k.2)
  read_fits l bytes fits (Err e) k = tt

pub ruleset text_laws = (state_spelled)
