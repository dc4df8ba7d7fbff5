use Rattle.std.proofs.Common.{Ok, subst, sym}
use Rattle.value_types.specs.Folds.{ty_of, value_of}
use Rattle.scalar_texts.specs.Numbers.{in_range}
use Rattle.tsv_values.specs.Elements.{ElementSays}
use Rattle.tsv_values.specs.proving.Reading.{IsMissing, missing_of}
use Rattle.tsv_values.proofs.ElementKinds.{found_number, missing_number}
use Rattle.tsv_values.proofs.Numerals.{number_found, number_missing}
use Rattle.tsv_values.proofs.atoms.number.Goals as goal

pub returns-in-Ok-clause-read : goal.returns-in-Ok-clause-read
returns-in-Ok-clause-read c = λ reads.
    found_number reads (ty_of c.args.ty.now) c.args.text.now (Ok (value_of c.in-Ok.value)) c.cut_number.result.1.now c.requires
    (number_found (in_range (ty_of c.args.ty.now)) c.args.text.now c.cut_number.result.0.now c.cut_number.result.1.now c.cut_number.ensures c.in-Ok.value c.in-Ok.ensures.read)

pub returns-in-Err-clause-read : goal.returns-in-Err-clause-read
returns-in-Err-clause-read c = λ reads.
    subst (IsMissing (ElementSays reads (ty_of c.args.ty.now)) c.args.text.now) (sym c.missing_of.ensures)
    (missing_number reads (ty_of c.args.ty.now) c.args.text.now (missing_of c.in-Err.fault) c.requires
    (number_missing (in_range (ty_of c.args.ty.now)) c.args.text.now c.cut_number.result.0.now c.cut_number.result.1.now c.cut_number.ensures c.in-Err.fault c.in-Err.ensures.read))
