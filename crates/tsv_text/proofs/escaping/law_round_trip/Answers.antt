use Rattle.tsv_text.proofs.Round.{round_trip}
use Rattle.tsv_text.proofs.escaping.law_round_trip.Goals as goal

pub returns : goal.returns
returns c = round_trip
