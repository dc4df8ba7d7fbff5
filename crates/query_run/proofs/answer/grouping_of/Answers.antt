use Rattle.std.proofs.Common.{ap, map, ◌∙◌}
use Rattle.batch_reader.specs.Reading.{column_type}
use Rattle.query_run.proofs.KeptTexts.{fits-types, grouping-if}
use Rattle.query_run.proofs.answer.grouping_of.Goals as goal

pub new-requires : goal.new-requires
new-requires c =
    let needed = c.args.needed.now in
    fits-types needed.schema needed.plan c.as_slice-2.result.now c.requires.needed.fits (c.as_slice-2.ensures ∙ c.in_ok-types.ensures ∙ ap (map column_type) c.as_slice.ensures)

pub returns : goal.returns
returns c =
    let needed = c.args.needed.now in
    grouping-if c.law_typing.ensures.result_is_legal c.law_legal_types_have_states.ensures c.args.query.now needed.keep.items needed.schema needed.plan c.requires.fits c.requires.needed c.as_slice-2.result.now
    (c.as_slice-2.ensures ∙ c.in_ok-types.ensures ∙ ap (map column_type) c.as_slice.ensures) c.new.result c.new.ensures.view c.new.ensures.types c.new.ensures.ready
