use Rattle.std.proofs.Common.{◌∙◌, inr, refl, subst}
use Rattle.std.specs.Io.KnownBytes.{Appends}
use Rattle.refusals.specs.declared.status.Status.{Status}
use Rattle.agg_program.proofs.Ends.{told}
use Rattle.agg_program.proofs.refusing.refuse.Goals as goal

pub returns-in-Done-clause-ends : goal.returns-in-Done-clause-ends
returns-in-Done-clause-ends g c = told c.args.status _ _ _ _ c.requires (subst (λ l. Appends (g.K.Sink.held c.args.sink.now) (g.K.Sink.held c.put.new.self) l) (c.as_slice.ensures ∙ c.in-Ok.ensures) c.in-Done.ensures.bytes) c.in-Done.ensures.cause

pub returns-clause-ends : goal.returns-clause-ends
returns-clause-ends g c = record {
  told = Status.OutOfMemory;
  which = inr refl;
  count = c.in-Failed-put.field-0;
  within = c.in-Failed-put.ensures.bytes.0;
  written = c.in-Failed-put.ensures.bytes.1;
  failed = c.in-Failed-put.ensures.cause.1;
}
