-- The columns of a table of legal types can be read.
use Rattle.std.proofs.Common.{◌≡◌, List, [], ◌∷◌, map, refl, sym, ap, ◌∙◌}
use Rattle.agg_defs.specs.declared.schema.Column as code
use Rattle.agg_defs.specs.declared.schema.Schema.{Schema}
use Rattle.agg_typing.specs.Legal.{are_legal_types}
use Rattle.legal_fields.specs.Readable.{LegalRowsAreReadable}
use Rattle.request_rules.specs.Tables.{AreLegal, Column}
use Rattle.request_rules.specs.Views.{column_of, schema_of}
use Rattle.row_texts.specs.Rows.{AreReadable}
use Rattle.state_codec.specs.Codec.{IsLegalState}
use Rattle.value_types.specs.Folds.{ty_of}
use Rattle.value_types.specs.declared.ty.Ty.{Ty}

abbrev pub types_in : List code.Column → List Ty
types_in columns = map (λ (c : code.Column). c.ty) columns

same-types : (columns : List code.Column) → map (λ (c : Column). c.ty) (map column_of columns) ≡ map ty_of (types_in columns)
same-types [] = refl
same-types (c ∷ columns) = ap (◌∷◌ (ty_of c.ty)) (same-types columns)

pub readable : LegalRowsAreReadable IsLegalState → (schema : Schema) (types : List Ty) → types ≡ types_in schema.columns → AreLegal (schema_of schema) → AreReadable IsLegalState types
readable law schema types e legal = law (λ c ts h. h) types (ap (λ ts. are_legal_types (map ty_of ts)) e ∙ ap are_legal_types (sym (same-types schema.columns)) ∙ legal)
