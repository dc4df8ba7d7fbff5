use Rattle.std.proofs.Common.{Err, subst}
use Rattle.value_types.specs.Folds.{ty_of}
use Rattle.field_texts.specs.Faults.{IsFieldFault}
use Rattle.field_texts.specs.Syntax.{form_of}
use Rattle.tsv_values.specs.Elements.{FieldSays}
use Rattle.tsv_values.specs.proving.Reading.{IsWholeRead}
use Rattle.tsv_values.proofs.Whole.{nothing_told, refused_told}
use Rattle.tsv_values.proofs.reading.read_nested.Goals as goal

pub unreachable-requires : goal.unreachable-requires
unreachable-requires g c =
    nothing_told (g.R.StateReader.reads c.args.reader.now) (ty_of c.args.ty.now) c.args.field.now
    (subst (λ m. IsWholeRead (λ said. FieldSays (g.R.StateReader.reads c.args.reader.now) (ty_of c.args.ty.now) said c.args.field.now) (Err m)) c.in-Nothing.is c.in-Err.ensures.read)
    (subst (IsFieldFault (form_of (ty_of c.args.ty.now)) c.args.field.now) c.in-Ok-None.field-0-is c.in-Ok-None.ensures)

pub returns-in-Refused-clause-read : goal.returns-in-Refused-clause-read
returns-in-Refused-clause-read g c =
    refused_told (g.R.StateReader.reads c.args.reader.now) (ty_of c.args.ty.now) c.args.field.now c.in-Refused.fault
    (subst (λ m. IsWholeRead (λ said. FieldSays (g.R.StateReader.reads c.args.reader.now) (ty_of c.args.ty.now) said c.args.field.now) (Err m)) c.in-Refused.is c.in-Err.ensures.read)
    (subst (IsFieldFault (form_of (ty_of c.args.ty.now)) c.args.field.now) c.in-Ok-None.field-0-is c.in-Ok-None.ensures)
