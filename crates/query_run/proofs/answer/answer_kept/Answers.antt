use Rattle.std.proofs.Common.{subst, sym, ◌∙◌}
use Rattle.quick_rows.specs.Keeping.{kept}
use Rattle.row_texts.specs.Rows.{AreReadable}
use Rattle.state_codec.specs.Codec.{IsLegalState}
use Rattle.query_run.proofs.Answered.{answers-if}
use Rattle.query_run.proofs.Readable.{readable}
use Rattle.query_run.proofs.answer.answer_kept.Goals as goal

pub answer_stream-requires-clause-readable : goal.answer_stream-requires-clause-readable
answer_stream-requires-clause-readable g c =
    subst (AreReadable IsLegalState) (sym c.in_ok-stream.ensures.types) (readable (c.law_legal_fields.ensures.rows record {}) c.args.query.now.schema c.requires.legal)

pub answer_stream-requires-clause-types : goal.answer_stream-requires-clause-types
answer_stream-requires-clause-types g c =
    c.requires.grouping.types ∙ (λ i. kept (sym c.in_ok-stream.ensures.keep i) (sym c.in_ok-stream.ensures.types i))

pub returns-clause-text : goal.returns-clause-text
returns-clause-text g c =
    answers-if c.args.query.now c.args.needed.keep.items c.args.grouping.now (g.S.Source.left c.args.source.now) (g.S.Source.left c.answer_stream.new.source) c.args.ahead c.requires.grouping c.in_ok-stream.stream
    c.in_ok-stream.ensures.types c.in_ok-stream.ensures.keep c.in_ok-stream.ensures.ahead c.answer_stream.result c.answer_stream.ensures.text
