use Rattle.std.proofs.Common.{Ok, subst, sym, ◌∙◌}
use Rattle.value_types.specs.Folds.{ty_of, value_of}
use Rattle.tsv_values.specs.Elements.{ElementSays}
use Rattle.tsv_values.specs.proving.Reading.{IsFound, IsMissing}
use Rattle.tsv_values.proofs.Refusals.{empty_is, some_is}
use Rattle.tsv_values.proofs.Whole.{more_behind, whole_found, whole_missing}
use Rattle.tsv_values.proofs.reading.read_whole.Goals as goal

pub returns-then-is_empty-clause-read : goal.returns-then-is_empty-clause-read
returns-then-is_empty-clause-read g c =
    whole_found (g.R.StateReader.reads c.args.reader.now) (ty_of c.args.ty.now) c.args.field.now (Ok (value_of c.in-Ok.field-0.value)) c.in-Ok.field-0.rest.now
    (subst (λ t. IsFound (ElementSays (g.R.StateReader.reads c.args.reader.now) (ty_of c.args.ty.now)) t (Ok (value_of c.in-Ok.field-0.value)) c.in-Ok.field-0.rest.now) c.skip_spaces.ensures c.in-Ok.ensures.read)
    (sym c.skip_spaces-in-Ok.ensures ∙ empty_is c.skip_spaces-in-Ok.result.now (sym c.is_empty.ensures ∙ c.if-is_empty.true))

pub returns-else-is_empty-clause-read : goal.returns-else-is_empty-clause-read
returns-else-is_empty-clause-read g c =
    more_behind (g.R.StateReader.reads c.args.reader.now) (ty_of c.args.ty.now) c.args.field.now (Ok (value_of c.in-Ok.field-0.value)) c.in-Ok.field-0.rest.now
    (subst (λ t. IsFound (ElementSays (g.R.StateReader.reads c.args.reader.now) (ty_of c.args.ty.now)) t (Ok (value_of c.in-Ok.field-0.value)) c.in-Ok.field-0.rest.now) c.skip_spaces.ensures c.in-Ok.ensures.read)
    (λ e. some_is c.skip_spaces-in-Ok.result.now (sym c.is_empty.ensures ∙ c.if-is_empty.false) (c.skip_spaces-in-Ok.ensures ∙ e))

pub returns-in-Err-clause-read : goal.returns-in-Err-clause-read
returns-in-Err-clause-read g c =
    whole_missing (g.R.StateReader.reads c.args.reader.now) (ty_of c.args.ty.now) c.args.field.now c.in-Err.missing
    (subst (λ t. IsMissing (ElementSays (g.R.StateReader.reads c.args.reader.now) (ty_of c.args.ty.now)) t c.in-Err.missing) c.skip_spaces.ensures c.in-Err.ensures.read)
