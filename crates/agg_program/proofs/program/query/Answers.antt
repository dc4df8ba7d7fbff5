use Rattle.agg_program.proofs.Ends.{line-complete, line-ends}
use Rattle.agg_program.proofs.program.query.Goals as goal

pub returns-in_default : goal.returns-in_default
returns-in_default g c = record {
  ends = line-ends g.S.Source.left _ _ _ c.run_query.result c.refuse.result _ _ c.in_default.not-Done c.in_default.not-WriteFault c.run_query.ensures.ends c.refuse.ensures.ends;
  complete = λ tells.
      line-complete g.S.Source.left c.args.source.now c.run_query.new.source _ c.run_query.result c.refuse.result _ _ c.in_default.not-Done c.in_default.not-WriteFault c.run_query.ensures.ends c.refuse.ensures.ends
      c.refuse.ensures.faults (c.run_query.ensures.complete tells);
}
