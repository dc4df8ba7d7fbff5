-- What a call that is ready is to its callers.
use Rattle.std.specs.Prelude.{◌≡◌, List, map, refl}
use Rattle.std.specs.Coded.{Coded, code_by, coded×, coded_list}
use Rattle.agg_defs.specs.Parts.{Parts, parts_code}
use Rattle.link_types.specs.Links.{inner_types}
use Rattle.value_types.specs.contracts.ty.Ty as ty
use Rattle.value_types.specs.declared.ty.Ty.{Ty}
use Rattle.value_types.specs.Folds.{chain_of, ty_of}

-- a legal call, and the argument types of its function
pub record Call : Type 0 where
  pub legal : Parts
  pub types : List Ty

-- stored as the pair of both
abbrev pub call_code : Coded Call
call_code =
    code_by (Parts × List Ty) (coded× parts_code (coded_list ty.the_row.coded))
    (λ k. (k.legal, k.types))
    (λ q. record { legal = q.0; types = q.1 })
    (λ _. refl)

-- the types are those of the function
pub record IsReady (k : Call) : Type 0 where
  pub function : map ty_of k.types ≡ inner_types (chain_of k.legal.chain) (map ty_of k.legal.args)
