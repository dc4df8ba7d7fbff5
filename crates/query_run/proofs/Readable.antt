-- The columns of a table of legal types can be read.
use Rattle.std.proofs.Common.{◌≡◌, List, [], ◌∷◌, length, map, refl, sym, ap, ◌∙◌, arith}
use Rattle.agg_defs.specs.declared.schema.Column as code
use Rattle.agg_defs.specs.declared.schema.Schema.{Schema}
use Rattle.agg_typing.specs.Legal.{are_legal_types}
use Rattle.batch_reader.specs.Reading.{column_type, schema_types}
use Rattle.legal_fields.specs.Readable.{LegalRowsAreReadable}
use Rattle.request_rules.specs.Tables.{AreLegal, Column}
use Rattle.request_rules.specs.Views.{column_of, schema_of}
use Rattle.row_texts.specs.Rows.{AreReadable}
use Rattle.state_codec.specs.Codec.{IsLegalState}
use Rattle.value_types.specs.Folds.{ty_of}

same-types : (columns : List code.Column) → map (λ (c : Column). c.ty) (map column_of columns) ≡ map ty_of (map column_type columns)
same-types [] = refl
same-types (c ∷ columns) = ap (◌∷◌ (ty_of c.ty)) (same-types columns)

pub readable : LegalRowsAreReadable IsLegalState → (schema : Schema) → AreLegal (schema_of schema) → AreReadable IsLegalState (schema_types schema)
readable law schema legal = law (λ c ts h. h) (schema_types schema) (ap are_legal_types (sym (same-types schema.columns)) ∙ legal)

long-types : (columns : List code.Column) → length (map column_type columns) ≡ length columns
long-types [] = refl
long-types (c ∷ columns) = omega (arith, long-types columns)

pub as-many : (schema : Schema) → length (schema_types schema) ≡ length schema.columns
as-many schema = long-types schema.columns
