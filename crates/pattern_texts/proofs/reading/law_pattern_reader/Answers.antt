use Rattle.pattern_texts.proofs.Law.{reader_gives, reader_reads}
use Rattle.pattern_texts.proofs.reading.law_pattern_reader.Goals as goal

pub returns : goal.returns
returns c = record { gives = reader_gives; reads = reader_reads }
