use Rattle.type_texts.proofs.NamesRead.{name_reads_back}
use Rattle.type_texts.proofs.chain_names.law_name_reads_back.Goals as goal

pub returns : goal.returns
returns c = name_reads_back
