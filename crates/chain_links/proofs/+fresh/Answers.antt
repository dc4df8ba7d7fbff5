-- Answers of the goals that the search leaves open in the cycle of chain_links::starting::fresh.
use Rattle.std.proofs.Common.{◌≡◌, rules, map}
use Rattle.agg_terms.specs.Chains.{Resample}
use Rattle.value_types.specs.Folds.{chain_of, ty_of}
use Rattle.value_types.proofs.FoldLaws.{chain_laws}
use Rattle.chain_links.proofs.Shaped.{parts_shaped}
use Rattle.chain_links.proofs.+fresh.Goals as goal

pub starting::fresh-returns-in-Resample-clause-shape : goal.starting::fresh-returns-in-Resample-clause-shape
starting::fresh-returns-in-Resample-clause-shape t c =
    let r = c.in-Resample in
    let e : chain_of c.args.chain.now ≡ Resample r.start r.end r.step (chain_of c.get-in-Resample.result.now) = search (rules, chain_laws) in
    parts_shaped c.fresh_parts.result (chain_of c.args.chain.now) (chain_of c.get-in-Resample.result.now) (map ty_of c.args.types.now) r.start r.end r.step c.count_intervals.result e (search rules) c.fresh_parts.ensures.shape
