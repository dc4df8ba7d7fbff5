-- What a field says, by the type's kind, for the code's matches.
use Rattle.std.proofs.Common.{◌≡◌, ℕ, pos, negsuc, List, map, Result, ap, sym, subst, ◌∙◌}
use Rattle.agg_terms.specs.Chains as terms
use Rattle.agg_terms.specs.Fitting.{is_between}
use Rattle.value_types.specs.declared.chain.Chain.{Chain}
use Rattle.value_types.specs.declared.ty.Ty.{Ty}
use Rattle.value_types.specs.declared.ty.Ty.TheVariants as ty
use Rattle.value_types.specs.declared.value.Value.{Value}
use Rattle.value_types.specs.Folds.{chain_of, ty_of}
use Rattle.value_types.proofs.FoldLaws.{ty_of-U8, ty_of-U16, ty_of-U32, ty_of-U64, ty_of-I8, ty_of-I16, ty_of-I32, ty_of-I64, ty_of-Str, ty_of-Arr, ty_of-Map, ty_of-Nullable, ty_of-State}
use Rattle.scalar_texts.specs.declared.fault.FieldFault.{FieldFault}
use Rattle.scalar_texts.specs.Answer.{Agrees, IsNumericAnswer, IsTextAnswer, IsScalar, IsScalarAnswer, state_answer}
use Rattle.scalar_texts.specs.Numbers.{HasRange, in_range}
use Rattle.scalar_texts.specs.States.{AllStates, ReadsStates}

-- ---- types of numbers

module _ (t : Ty) where
  pub is_U8 : t ≡ ty.U8 → HasRange (ty_of t)
  is_U8 e = subst HasRange (sym (ap ty_of e ∙ ty_of-U8)) tt

  pub is_U16 : t ≡ ty.U16 → HasRange (ty_of t)
  is_U16 e = subst HasRange (sym (ap ty_of e ∙ ty_of-U16)) tt

  pub is_U32 : t ≡ ty.U32 → HasRange (ty_of t)
  is_U32 e = subst HasRange (sym (ap ty_of e ∙ ty_of-U32)) tt

  pub is_U64 : t ≡ ty.U64 → HasRange (ty_of t)
  is_U64 e = subst HasRange (sym (ap ty_of e ∙ ty_of-U64)) tt

  pub is_I8 : t ≡ ty.I8 → HasRange (ty_of t)
  is_I8 e = subst HasRange (sym (ap ty_of e ∙ ty_of-I8)) tt

  pub is_I16 : t ≡ ty.I16 → HasRange (ty_of t)
  is_I16 e = subst HasRange (sym (ap ty_of e ∙ ty_of-I16)) tt

  pub is_I32 : t ≡ ty.I32 → HasRange (ty_of t)
  is_I32 e = subst HasRange (sym (ap ty_of e ∙ ty_of-I32)) tt

  pub is_I64 : t ≡ ty.I64 → HasRange (ty_of t)
  is_I64 e = subst HasRange (sym (ap ty_of e ∙ ty_of-I64)) tt

  pub unranged_Str : t ≡ ty.Str → HasRange (ty_of t) → ⊥
  unranged_Str e h = subst HasRange (ap ty_of e ∙ ty_of-Str) h

  pub unranged_Arr : (of : Ty) → t ≡ ty.Arr of → HasRange (ty_of t) → ⊥
  unranged_Arr of e h = subst HasRange (ap ty_of e ∙ ty_of-Arr of) h

  pub unranged_Map : (k of : Ty) → t ≡ ty.Map k of → HasRange (ty_of t) → ⊥
  unranged_Map k of e h = subst HasRange (ap ty_of e ∙ ty_of-Map k of) h

  pub unranged_Nullable : (of : Ty) → t ≡ ty.Nullable of → HasRange (ty_of t) → ⊥
  unranged_Nullable of e h = subst HasRange (ap ty_of e ∙ ty_of-Nullable of) h

  pub unranged_State : (c : Chain) (ts : List Ty) → t ≡ ty.State c ts → HasRange (ty_of t) → ⊥
  unranged_State c ts e h = subst HasRange (ap ty_of e ∙ ty_of-State c ts) h

module _ (t : Ty) (text : List ℕ) (r : Result Value FieldFault) where
  abbrev In : terms.Ty → Type 0
  In u = IsNumericAnswer (in_range u) text r

  pub in_U8 : t ≡ ty.U8 → IsNumericAnswer (is_between (pos 0) (pos 255)) text r → IsNumericAnswer (in_range (ty_of t)) text r
  in_U8 e h = subst In (sym (ap ty_of e ∙ ty_of-U8)) h

  pub in_U16 : t ≡ ty.U16 → IsNumericAnswer (is_between (pos 0) (pos 65535)) text r → IsNumericAnswer (in_range (ty_of t)) text r
  in_U16 e h = subst In (sym (ap ty_of e ∙ ty_of-U16)) h

  pub in_U32 : t ≡ ty.U32 → IsNumericAnswer (is_between (pos 0) (pos 4294967295)) text r → IsNumericAnswer (in_range (ty_of t)) text r
  in_U32 e h = subst In (sym (ap ty_of e ∙ ty_of-U32)) h

  pub in_U64 : t ≡ ty.U64 → IsNumericAnswer (is_between (pos 0) (pos 18446744073709551615)) text r → IsNumericAnswer (in_range (ty_of t)) text r
  in_U64 e h = subst In (sym (ap ty_of e ∙ ty_of-U64)) h

  pub in_I8 : t ≡ ty.I8 → IsNumericAnswer (is_between (negsuc 127) (pos 127)) text r → IsNumericAnswer (in_range (ty_of t)) text r
  in_I8 e h = subst In (sym (ap ty_of e ∙ ty_of-I8)) h

  pub in_I16 : t ≡ ty.I16 → IsNumericAnswer (is_between (negsuc 32767) (pos 32767)) text r → IsNumericAnswer (in_range (ty_of t)) text r
  in_I16 e h = subst In (sym (ap ty_of e ∙ ty_of-I16)) h

  pub in_I32 : t ≡ ty.I32 → IsNumericAnswer (is_between (negsuc 2147483647) (pos 2147483647)) text r → IsNumericAnswer (in_range (ty_of t)) text r
  in_I32 e h = subst In (sym (ap ty_of e ∙ ty_of-I32)) h

  pub in_I64 : t ≡ ty.I64 → IsNumericAnswer (is_between (negsuc 9223372036854775807) (pos 9223372036854775807)) text r → IsNumericAnswer (in_range (ty_of t)) text r
  in_I64 e h = subst In (sym (ap ty_of e ∙ ty_of-I64)) h

pub ruleset range_laws = (in_U8, in_U16, in_U32, in_U64, in_I8, in_I16, in_I32, in_I64, unranged_Str, unranged_Arr, unranged_Map, unranged_Nullable, unranged_State)

-- ---- fields by their type

pub at_number : (reads : ReadsStates) (u : terms.Ty) (field : List ℕ) (r : Result Value FieldFault) → HasRange u → IsNumericAnswer (in_range u) field r → IsScalarAnswer reads u field r
at_number reads (terms.Whole n) field r is h = h
at_number reads (terms.Signed w) field r is h = h
at_number reads u field r is h = absurd is

module _ (reads : ReadsStates) (t : Ty) (field : List ℕ) (r : Result Value FieldFault) where
  abbrev At : terms.Ty → Type 0
  At u = IsScalarAnswer reads u field r

  pub at_Str : t ≡ ty.Str → IsTextAnswer field r → IsScalarAnswer reads (ty_of t) field r
  at_Str e h = subst At (sym (ap ty_of e ∙ ty_of-Str)) h

  pub at_State : (c : Chain) (ts : List Ty) → t ≡ ty.State c ts → Agrees (state_answer reads (ty_of t) field) r → IsScalarAnswer reads (ty_of t) field r
  at_State c ts e h =
      let is : ty_of t ≡ terms.StateOf (chain_of c) (terms.tys (map ty_of ts)) = ap ty_of e ∙ ty_of-State c ts in
      subst At (sym is) (subst (λ u. Agrees (state_answer reads u field) r) is h)

  pub at_Nullable : (of : Ty) → t ≡ ty.Nullable of → IsScalarAnswer reads (ty_of of) field r → IsScalarAnswer reads (ty_of t) field r
  at_Nullable of e h = subst At (sym (ap ty_of e ∙ ty_of-Nullable of)) h

module _ (takes : terms.Ty → Type 0) (t : Ty) where
  pub states_State : (c : Chain) (ts : List Ty) → t ≡ ty.State c ts → AllStates takes (ty_of t) → takes (ty_of t)
  states_State c ts e h =
      let is : ty_of t ≡ terms.StateOf (chain_of c) (terms.tys (map ty_of ts)) = ap ty_of e ∙ ty_of-State c ts in
      subst takes (sym is) (subst (AllStates takes) is h)

  pub states_Nullable : (of : Ty) → t ≡ ty.Nullable of → AllStates takes (ty_of t) → AllStates takes (ty_of of)
  states_Nullable of e h = subst (AllStates takes) (ap ty_of e ∙ ty_of-Nullable of) h

  pub states_Arr : (of : Ty) → t ≡ ty.Arr of → AllStates takes (ty_of t) → AllStates takes (ty_of of)
  states_Arr of e h = subst (AllStates takes) (ap ty_of e ∙ ty_of-Arr of) h

  pub states_Map : (k of : Ty) → t ≡ ty.Map k of → AllStates takes (ty_of t) → AllStates takes (ty_of k) × AllStates takes (ty_of of)
  states_Map k of e h = subst (AllStates takes) (ap ty_of e ∙ ty_of-Map k of) h

pub scalar_Nullable : (t of : Ty) → t ≡ ty.Nullable of → IsScalar (ty_of t) → IsScalar (ty_of of)
scalar_Nullable t of e h = subst IsScalar (ap ty_of e ∙ ty_of-Nullable of) h

pub no_Arr : (t of : Ty) → t ≡ ty.Arr of → IsScalar (ty_of t) → ⊥
no_Arr t of e h = subst IsScalar (ap ty_of e ∙ ty_of-Arr of) h

pub no_Map : (t k of : Ty) → t ≡ ty.Map k of → IsScalar (ty_of t) → ⊥
no_Map t k of e h = subst IsScalar (ap ty_of e ∙ ty_of-Map k of) h

pub ruleset kind_laws = (at_number, is_U8, is_U16, is_U32, is_U64, is_I8, is_I16, is_I32, is_I64, at_Str, at_State, at_Nullable)
