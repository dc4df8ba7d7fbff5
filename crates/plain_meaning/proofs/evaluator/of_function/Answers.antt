use Rattle.std.proofs.Common.{map}
use Rattle.value_types.specs.Folds.{leaf_of, ty_of}
use Rattle.plain_rows.specs.Rows.{rows_of}
use Rattle.plain_meaning.proofs.Links.{leaf_answers}
use Rattle.plain_meaning.proofs.evaluator.of_function.Goals as goal

pub returns : goal.returns
returns c =
    leaf_answers (leaf_of c.args.leaf.now) (map ty_of c.args.types.now) (rows_of c.args.rows.now)
    (record { value = c.in_ok-value.value; is_fed = c.is_fed.result; state = c.in_ok-state.state }) c.in_ok-value.ensures c.is_fed.ensures c.in_ok-state.ensures
