use Rattle.std.proofs.Common.{get_or, map, subst}
use Rattle.group_keys.specs.Sets.{Holds, first_keys}
use Rattle.state_columns.specs.Trees.{trees_in}
use Rattle.value_types.specs.declared.ty.Ty.TheVariants as rust
use Rattle.group_tables.specs.proving.Fed.{AreFresh}
use Rattle.group_tables.specs.Tables.{AreColumns}
use Rattle.group_tables.proofs.TableLaws.{fresh-tables}
use Rattle.group_tables.proofs.table.GroupTable.new.Goals as goal

pub returns : goal.returns
returns c =
    let g = c.args.grouping.now in
    let columns = c.in_ok-columns.columns.items in
    fresh-tables g _ (λ k. get_or g.types k rust.Str) c.requires.key_types_are
    (subst (λ ts. Holds ts c.new-keys.result (first_keys ts)) c.as_slice-types.ensures c.new-keys.ensures)
    (subst (λ cs. AreColumns cs columns) c.as_slice-calls.ensures c.in_ok-columns.ensures.shape)
    (subst (λ n. AreFresh g.calls n (map trees_in columns)) c.len-count.ensures
    (subst (λ cs. AreFresh cs c.len-count.result (map trees_in columns)) c.as_slice-calls.ensures c.in_ok-columns.ensures.fresh))
