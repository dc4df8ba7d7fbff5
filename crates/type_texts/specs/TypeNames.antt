-- Types as they are printed (manual: "Data types"): one space behind each comma and none elsewhere.
use Rattle.std.specs.Prelude.{ℕ, List, [], ◌∷◌, ◌++◌, codes, ◌==◌, if◌then◌else◌}
use mir.Syntax.{Width, w8, w16, w32}
use Rattle.agg_terms.specs.Chains.{Chain, Ty, Tys, Whole, Signed, Str, Arr, MapTy, Nullable, StateOf, no_tys, a_ty}
use Rattle.type_texts.specs.ChainNames.{chain_name}
use Rattle.type_texts.specs.ParamTexts.{params_of}

-- more parameters and the bracket that closes them
abbrev pub more_params : List (List ℕ) → List ℕ
more_params [] = codes ")"
more_params (p ∷ params) = codes ", " ++ (p ++ more_params params)

-- parameters in brackets; nothing where there is none
abbrev pub brackets : List (List ℕ) → List ℕ
brackets [] = []
brackets (p ∷ params) = codes "(" ++ (p ++ more_params params)

-- a chain's name and its parameters
abbrev pub chain_text : Chain → List ℕ
chain_text c = chain_name c ++ brackets (params_of c)

abbrev pub whole_name : ℕ → List ℕ
whole_name n = if n == 8 then codes "UInt8" else (if n == 16 then codes "UInt16" else (if n == 32 then codes "UInt32" else codes "UInt64"))

abbrev pub signed_name : Width → List ℕ
signed_name w8 = codes "Int8"
signed_name w16 = codes "Int16"
signed_name w32 = codes "Int32"
signed_name w = codes "Int64"

abbrev mutual
  pub ty_text : Ty → List ℕ
  ty_text (Whole n) = whole_name n
  ty_text (Signed w) = signed_name w
  ty_text Str = codes "String"
  ty_text (Arr t) = codes "Array(" ++ (ty_text t ++ codes ")")
  ty_text (MapTy k t) = codes "Map(" ++ (ty_text k ++ (codes ", " ++ (ty_text t ++ codes ")")))
  ty_text (Nullable t) = codes "Nullable(" ++ (ty_text t ++ codes ")")
  ty_text (StateOf c ts) = codes "AggregateFunction(" ++ (chain_text c ++ tys_text ts)

  -- each behind a comma, and the bracket that closes them
  pub tys_text : Tys → List ℕ
  tys_text no_tys = codes ")"
  tys_text (a_ty t ts) = codes ", " ++ (ty_text t ++ tys_text ts)
