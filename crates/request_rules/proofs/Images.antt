-- Tests of the code's parts are tests of their images.
use Rattle.std.proofs.Common.{◌≡◌, refl, ap, ◌∙◌, ℕ, Bool, ◌&&◌, ◌||◌, List, [], ◌∷◌, map, Option, Some, None}
use Rattle.std.specs.List.{list_all, list_any}
use Rattle.std.specs.Option.{option_map}
use Rattle.std.specs.Prelude.{is_some}
use Rattle.std.specs.Str.{bytes_eq}
use Rattle.agg_defs.specs.declared.schema.Column as code
use Rattle.line_forms.specs.Views as forms
use Rattle.line_forms.specs.declared.table.WrittenColumn.{WrittenColumn}
use Rattle.type_shapes.specs.Folds.{shape_of}
use Rattle.type_shapes.specs.declared.shape.TypeShape.{TypeShape}
use Rattle.request_rules.specs.Tables.{are_within_depth, is_among}
use Rattle.request_rules.specs.Views.{column_of}

same_some : (s : Option TypeShape) → is_some s ≡ is_some (option_map shape_of s)
same_some (Some s) = refl
same_some None = refl

pub within_depth : (xs : List WrittenColumn) → list_all (λ (c : WrittenColumn). is_some c.shape) xs ≡ are_within_depth (map forms.column_of xs)
within_depth [] = refl
within_depth (x ∷ xs) =
    ap (λ (b : Bool). b && list_all (λ (c : WrittenColumn). is_some c.shape) xs) (same_some x.shape)
    ∙ ap (λ (b : Bool). is_some (option_map shape_of x.shape) && b) (within_depth xs)

pub among : (xs : List code.Column) (name : List ℕ) → list_any (λ (c : code.Column). bytes_eq c.name name) xs ≡ is_among (map column_of xs) name
among [] name = refl
among (x ∷ xs) name = ap (λ (b : Bool). bytes_eq x.name name || b) (among xs name)
