use Rattle.std.proofs.Common.{List, map, subst, sym, ap}
use Rattle.agg_terms.specs.Chains.{Ty}
use Rattle.agg_typing.specs.Promises.{IsLegalCall}
use Rattle.chain_params.specs.Literals.{literal_of}
use Rattle.value_types.specs.Folds.{chain_of, ty_of}
use Rattle.chain_types.proofs.Resolved.{allowed_legal}
use Rattle.chain_types.proofs.calls.resolve.Goals as goal

pub of_chain-requires : goal.of_chain-requires
of_chain-requires c =
    let chain = chain_of c.in_ok-chain.chain in
    let here = allowed_legal c.args.name.now (map literal_of c.args.params.now) (map ty_of c.args.args.now) chain c.in_ok-chain.ensures c.requires.types in
    subst (λ (ts : List Ty). IsLegalCall chain ts) (sym (ap (map ty_of) c.in_ok-args.ensures)) here
