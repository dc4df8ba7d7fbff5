use Rattle.std.proofs.Common.{ap, sym, ◌∙◌, refl, subst}
use Rattle.std.proofs.lemmas.Int.{to_z-of_z}
use Rattle.column_parts.specs.NumberLists.{IsOf}
use Rattle.value_types.specs.declared.value.Value.TheVariants as form
use Rattle.typed_columns.specs.Views.{view_of}
use Rattle.typed_columns.proofs.Growing.{number_bounds}
use Rattle.typed_columns.proofs.column.Column.push_number.Goals as goal
use mir.Syntax.{w128}

pub push-requires : goal.push-requires
push-requires c =
    subst (IsOf c.in-Numbers.numbers.kind) (sym (to_z-of_z w128 c.args.number c.ranges.number))
    (number_bounds c.args.self.now.ty (form.Num c.args.number) c.in-Numbers.numbers.kind c.args.number
    (ap (λ v. v.ty) (sym c.self.view_is) ∙ ap (λ k. (view_of k).ty) c.in-Numbers.is) c.requires refl)
