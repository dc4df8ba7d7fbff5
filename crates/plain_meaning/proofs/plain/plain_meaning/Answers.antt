use Rattle.std.proofs.Common.{map, sym, subst}
use Rattle.value_types.specs.Folds.{chain_of, ty_of}
use Rattle.plain_rows.specs.Rows.{rows_of}
use Rattle.plain_meaning.specs.Inward.{IsEvaluated}
use Rattle.plain_meaning.proofs.Narrow.{rows_small}
use Rattle.plain_meaning.proofs.Served.{evaluates}
use Rattle.plain_meaning.proofs.plain.plain_meaning.Goals as goal

pub evaluated-requires : goal.evaluated-requires
evaluated-requires c =
    let rows = rows_of c.args.rows.now in
    subst (λ x. IsEvaluated (chain_of x) (map ty_of c.args-2.result.now) rows) (sym c.chain.ensures.lent)
    (subst (λ ts. IsEvaluated (chain_of c.args.legal.now.chain) (map ty_of ts) rows) (sym c.args-2.ensures.lent)
    (evaluates (chain_of c.args.legal.now.chain) (map ty_of c.args.legal.now.args) rows c.requires.mergeless c.chain.ensures.typed.legal
    (rows_small c.args.legal.now.args rows c.requires.rows)))
