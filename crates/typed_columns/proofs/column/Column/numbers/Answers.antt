use Rattle.typed_columns.proofs.NumberLaws.{other_kind}
use Rattle.typed_columns.proofs.column.Column.numbers.Goals as goal

pub returns-in_default : goal.returns-in_default
returns-in_default c = record { some = tt; none = other_kind c.self.inside.kind c.args.self.now c.self.view_is c.in_default.not-Numbers }
