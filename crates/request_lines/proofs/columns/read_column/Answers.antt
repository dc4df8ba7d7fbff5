use Rattle.std.proofs.Common.{◌≡◌, ℕ, List, sym, ap, ◌∙◌}
use Rattle.std.specs.Option.{option_map}
use Rattle.type_shapes.specs.Shapes.{Shape}
use Rattle.type_shapes.specs.Folds.{shape_of}
use Rattle.request_lines.proofs.ColumnsRead.{column_read, front_seen, type_in_front}
use Rattle.request_lines.proofs.columns.read_column.Goals as goal
use Rattle.request_lines.proofs.columns.read_column.Goals.{in-Some, in-None}

pub read_front-requires : goal.read_front-requires
read_front-requires c = type_in_front c.in_ok-name.ty c.in_ok-left.left c.in_ok-left.ensures.0

pub returns : goal.returns
returns c =
    let same : option_map shape_of c.match-branch-4.shape ≡ option_map (λ (f : Shape × List ℕ). f.0) (front_seen c.in_ok-shape.field-0) = elim c.match-branch-4.branch [
      | in-Some w ↦ ap (option_map shape_of) w.shape-is ∙ sym (ap (λ o. option_map (λ (f : Shape × List ℕ). f.0) (front_seen o)) w.in-Some.is)
      | in-None w ↦ ap (option_map shape_of) w.shape-is ∙ sym (ap (λ o. option_map (λ (f : Shape × List ℕ). f.0) (front_seen o)) w.in-None.is)
    ] in
    column_read c.args.rest c.in_ok-name.ty c.in_ok-left.left c.in_ok-name.name c.match-branch-4.shape (front_seen c.in_ok-shape.field-0) c.in_ok-name.ensures.0 c.in_ok-name.ensures.1 c.in_ok-name.ensures.2
    c.in_ok-left.ensures.0 c.in_ok-left.ensures.1 c.in_ok-left.ensures.2 c.in_ok-shape.ensures same
