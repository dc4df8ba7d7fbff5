use Rattle.std.proofs.Common.{map, take}
use Rattle.agg_terms.specs.Lists.{places}
use Rattle.value_types.specs.Folds.{chain_of, ty_of, value_of}
use Rattle.plain_rows.specs.Rows.{rows_of}
use Rattle.plain_meaning.specs.proving.Answers.{AtKeys, Gathers}
use Rattle.plain_meaning.specs.Inward.{rows_at, rows_inside}
use Rattle.plain_meaning.proofs.evaluator.+evaluated.Given as goal

abbrev pub invariant-loop-place : goal.invariant-loop-place
invariant-loop-place l = Gathers (chain_of l.of) (map ty_of l.inner) (map (λ i. rows_at i (rows_of l.rows)) (places 0 l.place)) l.gathered

abbrev pub invariant-loop-key : goal.invariant-loop-key
invariant-loop-key l = AtKeys (chain_of l.of) (map ty_of l.inner) (rows_of l.rows) (map value_of (take l.key-index l.keys)) l.gathered

abbrev pub invariant-loop-interval : goal.invariant-loop-interval
invariant-loop-interval l =
    Gathers (chain_of l.of) (map ty_of l.inner) (map (λ j. rows_inside l.start l.end l.step j (rows_of l.rows)) (places 0 l.interval)) l.gathered
