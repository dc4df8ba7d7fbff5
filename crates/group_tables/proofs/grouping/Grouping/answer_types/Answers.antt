use Rattle.std.proofs.Common.{◌++◌, ◌∙◌, ap, map}
use Rattle.value_types.specs.Folds.{ty_of}
use Rattle.group_tables.specs.proving.Lines.{result_of}
use Rattle.group_tables.proofs.LineLaws.{types-are}
use Rattle.group_tables.proofs.grouping.Grouping.answer_types.Goals as goal

pub returns : goal.returns
returns c =
    types-are c.args.self.now c.requires c.as_slice.result.now c.add_results.new.types c.as_slice-calls.result.now c.as_slice.ensures c.as_slice-calls.ensures
    (c.in_ok-add_results.ensures ∙ ap (λ types. map ty_of types ++ map result_of c.as_slice-calls.result.now) (c.in_ok-reserve.ensures ∙ c.in_ok-types.ensures))
