use Rattle.tsv_values.proofs.ValuesBack.{values_read_back, values_without_states_read_back}
use Rattle.tsv_values.proofs.laws.law_values_read_back.Goals as goal

pub returns-clause-values : goal.returns-clause-values
returns-clause-values c = values_read_back c.law_round_trip.ensures

pub returns-clause-without_states : goal.returns-clause-without_states
returns-clause-without_states c = values_without_states_read_back (values_read_back c.law_round_trip.ensures)
