use Rattle.std.proofs.Common.{[], ◌∷◌, refl}
use Rattle.type_names.specs.declared.goal.Goal.TheVariants.{AnyType}
use Rattle.line_forms.specs.Tables.{column_signs, ColumnFits}
use Rattle.request_lines.specs.proving.Judging.{a_name, in_type, columns}
use Rattle.request_lines.specs.proving.Reads.{IsColumnRead}
use Rattle.request_lines.proofs.ListsRead.{list_more, list_ends}
use Rattle.request_lines.proofs.Steps.{no_columns}
use Rattle.request_lines.proofs.columns.read_columns.Goals as goal

pub loop-behind-preserved : goal.loop-behind-preserved
loop-behind-preserved c =
    list_more ColumnFits IsColumnRead column_signs (a_name ∷ in_type AnyType ∷ []) columns (λ s. refl) c.args.rest c.loop-behind.left c.in-Some.behind c.in_ok-column.after c.in_ok-column.column c.loop-behind.columns c.push-in-Some.new.self
    c.in-Some.ensures.letters.0 c.loop-behind.invariant c.in-Some.ensures.letters.1 c.in-Some.ensures.further c.in_ok-column.ensures.0 c.in_ok-column.ensures.1 c.in_ok-column.ensures.2 c.in_ok-push-2.ensures.ok

pub returns : goal.returns
returns c = list_ends ColumnFits IsColumnRead column_signs (a_name ∷ in_type AnyType ∷ []) columns (λ s. refl) no_columns c.args.rest c.loop-behind.left c.loop-behind.columns c.loop-behind.invariant c.in_default.ensures.letters
