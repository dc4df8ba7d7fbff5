use Rattle.std.proofs.Common.{Err, subst}
use Rattle.value_types.specs.Folds.{ty_of}
use Rattle.tsv_values.specs.proving.Reading.{IsNestedAnswer}
use Rattle.tsv_values.proofs.Refusals.{array_fault, bad_array, bad_map, map_fault}
use Rattle.tsv_values.proofs.reading.+read_filled.Goals as goal

pub returns-in-Err-Syntax-clause-read : goal.returns-in-Err-Syntax-clause-read
returns-in-Err-Syntax-clause-read g t c =
    bad_array (g.R.StateReader.reads c.args.reader.now) c.args.ty.now c.in-Arr.field-0 c.args.field.now c.in-Err-Syntax.at c.in-Arr.is
    (subst (λ r. IsNestedAnswer (g.R.StateReader.reads c.args.reader.now) (ty_of c.args.ty.now) c.args.field.now (Err r)) c.in-Err-Syntax.field-0-is c.in-Err-Syntax.ensures.read)

pub returns-in-Err-Element-clause-read : goal.returns-in-Err-Element-clause-read
returns-in-Err-Element-clause-read g t c =
    array_fault (g.R.StateReader.reads c.args.reader.now) c.args.ty.now c.in-Arr.field-0 c.args.field.now c.in-Err-Element.fault c.in-Arr.is
    (subst (λ r. IsNestedAnswer (g.R.StateReader.reads c.args.reader.now) (ty_of c.args.ty.now) c.args.field.now (Err r)) c.in-Err-Element.field-0-is c.in-Err-Element.ensures.read)

pub returns-in-Err-Syntax-read_nested-clause-read : goal.returns-in-Err-Syntax-read_nested-clause-read
returns-in-Err-Syntax-read_nested-clause-read g t c =
    bad_map (g.R.StateReader.reads c.args.reader.now) c.args.ty.now c.in-Map.field-0 c.in-Map.field-1 c.args.field.now c.in-Err-Syntax-read_nested.at c.in-Map.is
    (subst (λ r. IsNestedAnswer (g.R.StateReader.reads c.args.reader.now) (ty_of c.args.ty.now) c.args.field.now (Err r)) c.in-Err-Syntax-read_nested.field-0-is c.in-Err-Syntax-read_nested.ensures.read)

pub returns-in-Err-Element-read_nested-clause-read : goal.returns-in-Err-Element-read_nested-clause-read
returns-in-Err-Element-read_nested-clause-read g t c =
    map_fault (g.R.StateReader.reads c.args.reader.now) c.args.ty.now c.in-Map.field-0 c.in-Map.field-1 c.args.field.now c.in-Err-Element-read_nested.fault c.in-Map.is
    (subst (λ r. IsNestedAnswer (g.R.StateReader.reads c.args.reader.now) (ty_of c.args.ty.now) c.args.field.now (Err r)) c.in-Err-Element-read_nested.field-0-is c.in-Err-Element-read_nested.ensures.read)
