use Rattle.std.proofs.Common.{[], ap, sym, ◌∙◌}
use Rattle.std.proofs.lemmas.Result.{err_from_is_err_and}
use Rattle.agg_terms.specs.Order.{compare_rows}
use Rattle.agg_values.specs.Peels.{peeled_types}
use Rattle.state_codec.specs.Reading.{is_new, items_at, kept_at, row_at}
use Rattle.state_codec.specs.proving.Views.{kept_rows}
use Rattle.state_codec.proofs.Exact.{done}
use Rattle.state_codec.proofs.Fresh.{fails_behind, goes_behind}
use Rattle.state_codec.proofs.Loop.{ends, is_done}
use Rattle.state_codec.proofs.distinct.apart_at.Goals as goal

pub returns-in_err-rest : goal.returns-in_err-rest
returns-in_err-rest c =
    let p = err_from_is_err_and c.from_residual.result c.from_residual.ensures.1 in
    rw (p.1, p.2) (ends (λ e. kept_at c.args.whole (is_new compare_rows e) (row_at c.args.whole (peeled_types c.args.peels.now c.args.types.now))) c.in_err-rest.field-0.0 (kept_rows c.loop.seen.keys) c.args.count c.loop.counter c.loop.rest.now (items_at (λ e. kept_at c.args.whole (is_new compare_rows e) (row_at c.args.whole (peeled_types c.args.peels.now c.args.types.now))) c.args.count [] c.args.bytes.now) c.loop-test.true
    (fails_behind (λ e. kept_at c.args.whole (is_new compare_rows e) (row_at c.args.whole (peeled_types c.args.peels.now c.args.types.now))) (kept_rows c.loop.seen.keys) c.in_err-rest.field-0.0 c.loop.rest.now c.in_err-rest.ensures) c.loop.invariant)

pub loop-preserved : goal.loop-preserved
loop-preserved c = goes_behind (λ e. kept_at c.args.whole (is_new compare_rows e) (row_at c.args.whole (peeled_types c.args.peels.now c.args.types.now))) (kept_rows c.loop.seen.keys) (kept_rows c.other_at.new.seen.keys) c.args.count c.loop.counter c.loop.rest.now _ (items_at (λ e. kept_at c.args.whole (is_new compare_rows e) (row_at c.args.whole (peeled_types c.args.peels.now c.args.types.now))) c.args.count [] c.args.bytes.now) c.loop-test.true c.in_ok-rest.ensures c.loop.invariant

pub returns : goal.returns
returns c =
    is_done (λ e. kept_at c.args.whole (is_new compare_rows e) (row_at c.args.whole (peeled_types c.args.peels.now c.args.types.now))) (kept_rows c.loop.seen.keys) c.args.count c.loop.counter c.loop.rest.now (items_at (λ e. kept_at c.args.whole (is_new compare_rows e) (row_at c.args.whole (peeled_types c.args.peels.now c.args.types.now))) c.args.count [] c.args.bytes.now) c.loop-test.false c.loop.invariant
    ∙ ap (λ z. done (z, c.loop.rest.now)) (sym c.in_ok-rows_of.ensures)
