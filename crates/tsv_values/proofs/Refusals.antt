-- What elements are refused for, and fields by their type's kind.
use Rattle.std.proofs.Common.{◌≡◌, ℕ, Bool, true, false, cond, List, [], ◌∷◌, length, Option, Some, None, Result, Ok, Err, refl, sym, ap, subst, ◌∙◌, inl, inr, eqb}
use Rattle.std.proofs.Common.{arith}
use Rattle.std.proofs.lemmas.Bool.{eqb-false}
use Rattle.std.proofs.lemmas.Bool.Decides.{nat_tests}
use Rattle.agg_terms.specs.Chains as terms
use Rattle.agg_terms.specs.Values as family
use Rattle.value_types.specs.declared.ty.Ty.{Ty}
use Rattle.value_types.specs.declared.ty.Ty.TheVariants as ty
use Rattle.value_types.specs.Folds.{ty_of}
use Rattle.value_types.proofs.FoldLaws.{ty_of-Arr, ty_of-Map}
use Rattle.field_texts.specs.Faults.{IsFieldFault}
use Rattle.field_texts.specs.Syntax.{form_of}
use Rattle.scalar_texts.specs.Answer.{cell_of, not_hex_or}
use Rattle.scalar_texts.specs.Hex.{hex_bytes, hex_fault}
use Rattle.scalar_texts.specs.States.{ReadsStates}
use Rattle.scalar_texts.specs.declared.fault.StateFault.{StateFault}
use Rattle.scalar_texts.specs.declared.fault.FieldFault.{FieldFault}
use Rattle.scalar_texts.specs.declared.fault.FieldFault.TheVariants.{OutOfRange, BadArray, BadMap, NotHex, BadState}
use Rattle.tsv_values.specs.Answer.{IsArrayAnswer, IsFilledAnswer, IsMapAnswer, IsTold}
use Rattle.tsv_values.specs.Elements.{ArraySays, Behind, ElementSays, EntrySays, FieldSays, MapSays, MoreSay, OpenedSay, Said, all_of, array_of, entry_of, map_of, onto}

abbrev pub IsElements : FieldFault → Type 0
IsElements OutOfRange = Unit {0}
IsElements (NotHex at) = Unit {0}
IsElements (BadState fault) = Unit {0}
IsElements fault = ⊥

same_fault : {X : Type 0} (a b : FieldFault) → (let r : Result X FieldFault = Err a in r) ≡ Err b → b ≡ a
same_fault a b e = cc

by_fault : {X : Type 0} (a b : FieldFault) → (let r : Result X FieldFault = Err a in r) ≡ Err b → IsElements b → IsElements a
by_fault {X} a b e h = subst IsElements (same_fault {X = X} a b e) h

ranged_fault : (t : Bool) (v : family.Value) (fault : FieldFault) → (let s : Said = Err fault in s) ≡ cond t (Ok v) (Err OutOfRange) → IsElements fault
ranged_fault true v fault e = absurd cc
ranged_fault false v fault e = by_fault {X = family.Value} fault OutOfRange e tt

cell_fault : (r : Result family.Tree StateFault) (fault : FieldFault) → (let s : Said = Err fault in s) ≡ cell_of r → IsElements fault
cell_fault (Ok tree) fault e = absurd cc
cell_fault (Err b) fault e = by_fault {X = family.Value} fault (BadState b) e tt

hex_fault_is : (o : Option ℕ) (r : Result family.Tree StateFault) (fault : FieldFault) → (let s : Said = Err fault in s) ≡ not_hex_or o (cell_of r) → IsElements fault
hex_fault_is (Some at) r fault e = by_fault {X = family.Value} fault (NotHex at) e tt
hex_fault_is None r fault e = cell_fault r fault e

onto_err : {X : Type 0} (x : X) (r : Result (List X) FieldFault) (fault : FieldFault) → Err fault ≡ onto x r → Err fault ≡ r
onto_err x (Ok xs) fault e = absurd cc
onto_err x (Err g) fault e = e

module _ {X : Type 0} (says : Result X FieldFault → List ℕ → Type 0) (f : (fault : FieldFault) (t : List ℕ) → says (Err fault) t → IsElements fault) (closing : ℕ) where
  more_fault : (xs : List (Result X FieldFault)) (text : List ℕ) (fault : FieldFault) → MoreSay says closing xs text → Err fault ≡ all_of xs → IsElements fault
  more_fault [] text fault h e = absurd cc
  more_fault (Ok x ∷ xs) text fault h e = more_fault xs h.second.rest fault h.second.second (onto_err x (all_of xs) fault e)
  more_fault (Err g ∷ xs) text fault h e = by_fault {X = List X} fault g e (f g h.second.first.rest h.second.first.second)

  opened_fault : (xs : List (Result X FieldFault)) (text : List ℕ) (fault : FieldFault) → OpenedSay says closing xs text → Err fault ≡ all_of xs → IsElements fault
  opened_fault [] text fault h e = absurd cc
  opened_fault (Ok x ∷ xs) text fault h e = more_fault xs h.rest fault h.second (onto_err x (all_of xs) fault e)
  opened_fault (Err g ∷ xs) text fault h e = by_fault {X = List X} fault g e (f g h.first.rest h.first.second)

entry_fault : (k v : Said) (fault : FieldFault) → Err fault ≡ entry_of k v → ((g : FieldFault) → k ≡ Err g → IsElements g) → ((g : FieldFault) → v ≡ Err g → IsElements g) → IsElements fault
entry_fault (Ok a) (Ok b) fault e f h = absurd cc
entry_fault (Ok a) (Err g) fault e f h = by_fault {X = family.Value × family.Value} fault g e (h g refl)
entry_fault (Err g) v fault e f h = by_fault {X = family.Value × family.Value} fault g e (f g refl)

array_err : (r : Result (List family.Value) FieldFault) (fault : FieldFault) → Err fault ≡ array_of r → Err fault ≡ r
array_err (Ok vs) fault e = absurd cc
array_err (Err g) fault e = let same : fault ≡ g = cc in ap Err same

map_err : (r : Result (List (family.Value × family.Value)) FieldFault) (fault : FieldFault) → Err fault ≡ map_of r → Err fault ≡ r
map_err (Ok vs) fault e = absurd cc
map_err (Err g) fault e = let same : fault ≡ g = cc in ap Err same

behind_fault : (b : ℕ) (of : List ℕ → Type 0) (P : Type 0) (text : List ℕ) → ((t : List ℕ) → of t → P) → Behind b of text → P
behind_fault b of P [] f h = absurd h
behind_fault b of P (c ∷ text) f h = f text h.1

module _ (reads : ReadsStates) where
  pub element_fault : (t : terms.Ty) (fault : FieldFault) (text : List ℕ) → ElementSays reads t (Err fault) text → IsElements fault
  element_fault (terms.Whole n) fault text h = ranged_fault _ _ fault h.1
  element_fault (terms.Signed w) fault text h = ranged_fault _ _ fault h.1
  element_fault terms.Str fault text h = absurd (no_ok h.0 h.2)
    where
      no_ok : (bytes : List ℕ) → (let s : Said = Err fault in s) ≡ Ok (family.Bytes bytes) → ⊥
      no_ok bytes e = cc
  element_fault (terms.StateOf c ts) fault text h = hex_fault_is (hex_fault h.0) (reads (terms.StateOf c ts) (hex_bytes h.0)) fault h.2
  element_fault (terms.Nullable t) fault text (inl h) = element_fault t fault text h
  element_fault (terms.Nullable t) fault text (inr h) = absurd (no_nil h.1)
    where
      no_nil : (let s : Said = Err fault in s) ≡ Ok family.Nil → ⊥
      no_nil e = cc
  element_fault (terms.Arr t) fault text h =
      let f = element_fault t in
      behind_fault 91 (ArraySays (ElementSays reads t) (Err fault)) (IsElements fault) text (λ u a. opened_fault (ElementSays reads t) f 93 a.1.0 u fault a.1.1 (array_err a.0 fault a.2 ∙ a.1.2)) h
  element_fault (terms.MapTy k t) fault text h =
      let f = element_fault k in
      let g = element_fault t in
      behind_fault 123 (MapSays (ElementSays reads k) (ElementSays reads t) (Err fault)) (IsElements fault) text
      (λ u a. opened_fault (EntrySays (ElementSays reads k) (ElementSays reads t))
      (λ b v s. entry_fault s.0 s.1 b s.3 (λ x e. f x s.2.front (subst (λ y. ElementSays reads k y s.2.front) e s.2.first)) (λ x e. g x s.2.second.second.rest (subst (λ y. ElementSays reads t y s.2.second.second.rest) e s.2.second.second.second)))
      125 a.1.0 u fault a.1.1 (map_err a.0 fault a.2 ∙ a.1.2)) h

  pub field_fault : (t : terms.Ty) (fault : FieldFault) (field : List ℕ) → FieldSays reads t (Err fault) field → IsElements fault
  field_fault t fault field h = element_fault t fault h.first.rest h.first.second

  array_told : (t : terms.Ty) (field : List ℕ) (fault : FieldFault) → IsTold (λ said. FieldSays reads t said field) (Err fault) → IsArrayAnswer reads t field (Err fault)
  array_told t field (BadArray at) h = absurd (field_fault t (BadArray at) field h)
  array_told t field fault h = h

  map_told : (t : terms.Ty) (field : List ℕ) (fault : FieldFault) → IsTold (λ said. FieldSays reads t said field) (Err fault) → IsMapAnswer reads t field (Err fault)
  map_told t field (BadMap at) h = absurd (field_fault t (BadMap at) field h)
  map_told t field fault h = h

  pub bad_array : (t of : Ty) (field : List ℕ) (at : ℕ) → t ≡ ty.Arr of → IsFieldFault (form_of (ty_of t)) field (Some at) → IsFilledAnswer reads (ty_of t) field (Err (BadArray at))
  bad_array t of field at e h =
      let is : ty_of t ≡ terms.Arr (ty_of of) = ap ty_of e ∙ ty_of-Arr of in
      subst (λ u. IsFilledAnswer reads u field (Err (BadArray at))) (sym is) (subst (λ u. IsFieldFault (form_of u) field (Some at)) is h)

  pub bad_map : (t k of : Ty) (field : List ℕ) (at : ℕ) → t ≡ ty.Map k of → IsFieldFault (form_of (ty_of t)) field (Some at) → IsFilledAnswer reads (ty_of t) field (Err (BadMap at))
  bad_map t k of field at e h =
      let is : ty_of t ≡ terms.MapTy (ty_of k) (ty_of of) = ap ty_of e ∙ ty_of-Map k of in
      subst (λ u. IsFilledAnswer reads u field (Err (BadMap at))) (sym is) (subst (λ u. IsFieldFault (form_of u) field (Some at)) is h)

  pub array_fault : (t of : Ty) (field : List ℕ) (fault : FieldFault) → t ≡ ty.Arr of → IsTold (λ said. FieldSays reads (ty_of t) said field) (Err fault) → IsFilledAnswer reads (ty_of t) field (Err fault)
  array_fault t of field fault e h =
      let is : ty_of t ≡ terms.Arr (ty_of of) = ap ty_of e ∙ ty_of-Arr of in
      subst (λ u. IsFilledAnswer reads u field (Err fault)) (sym is) (array_told (terms.Arr (ty_of of)) field fault (subst (λ u. IsTold (λ said. FieldSays reads u said field) (Err fault)) is h))

  pub map_fault : (t k of : Ty) (field : List ℕ) (fault : FieldFault) → t ≡ ty.Map k of → IsTold (λ said. FieldSays reads (ty_of t) said field) (Err fault) → IsFilledAnswer reads (ty_of t) field (Err fault)
  map_fault t k of field fault e h =
      let is : ty_of t ≡ terms.MapTy (ty_of k) (ty_of of) = ap ty_of e ∙ ty_of-Map k of in
      subst (λ u. IsFilledAnswer reads u field (Err fault)) (sym is) (map_told (terms.MapTy (ty_of k) (ty_of of)) field fault (subst (λ u. IsTold (λ said. FieldSays reads u said field) (Err fault)) is h))

pub empty_is : (xs : List ℕ) → eqb (length xs) 0 ≡ true → xs ≡ []
empty_is [] e = refl
empty_is (x ∷ xs) e = absurd (grind (arith, nat_tests, e))

pub some_is : (xs : List ℕ) → eqb (length xs) 0 ≡ false → xs ≡ [] → ⊥
some_is xs e f = eqb-false (length xs) 0 e (ap length f)
