-- The line of a table: `TABLE` and columns, each a name and a type, divided by commas.
use Rattle.std.specs.Prelude.{◌≡◌, ◌<◌, ◌≤◌, List, [], ◌∷◌, codes, map, Option, Some, None}
use Rattle.line_tokens.specs.Tokens.{word}
use Rattle.type_names.specs.TypeTexts.{WrittenType as TypeText, tokens_of, ShapeFits}
use Rattle.type_shapes.specs.Shapes.{Shape, Spells, nesting}
use Rattle.line_forms.specs.Letters.{Letter, Sign, sign, Name, name_sign, Leads, divided, Every, EachPair}

-- a column as its tokens spell it
pub record ColumnText : Type 0 where
  pub name : Name
  pub ty : TypeText

abbrev pub column_signs : ColumnText → List Sign
column_signs c = name_sign c.name ∷ map sign (tokens_of c.ty)

-- its type is one
abbrev pub ColumnFits : ColumnText → Type 0
ColumnFits c = ShapeFits c.ty

-- The letters are those of a table of these columns, of which there is one at least.
abbrev pub IsTable : List Letter → List ColumnText → Type 0
IsTable letters [] = ⊥
IsTable letters (c ∷ cs) = Every ColumnFits (c ∷ cs) × Leads (sign (word (codes "TABLE")) ∷ divided (map column_signs (c ∷ cs))) letters []

-- A column: its name and the shape of its type, none where types stand in one another more than sixteen deep.
pub record Column : Type 0 where
  pub name : Name
  pub shape : Option Shape

abbrev pub IsShapeOf : TypeText → Option Shape → Type 0
IsShapeOf ty None = 16 < nesting ty
IsShapeOf ty (Some shape) = Spells ty shape × (nesting ty ≤ 16)

-- What a column stands for.
abbrev pub IsColumnOf : ColumnText → Column → Type 0
IsColumnOf text column = (column.name ≡ text.name) × IsShapeOf text.ty column.shape

abbrev pub AreColumns : List ColumnText → List Column → Type 0
AreColumns texts columns = EachPair IsColumnOf texts columns
