use Rattle.type_shapes.proofs.RoundTrip.{types_read_back}
use Rattle.type_shapes.proofs.laws.law_types_read_back.Goals as goal

pub returns : goal.returns
returns c = types_read_back c.law_one_type.ensures c.law_one_answer.ensures c.law_round_trip.ensures
