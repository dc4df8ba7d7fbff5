use Rattle.batch_reader.proofs.Places.{accepts-rest, changes-both}
use Rattle.batch_reader.proofs.apart.+apart.Goals as goal

pub from_place-first_and_rest-requires-clause-rest :
    goal.from_place-first_and_rest-requires-clause-rest
from_place-first_and_rest-requires-clause-rest g t c κs within =
    let cut = c.split_at_mut-first in
    accepts-rest g.F.Fn c.args.f.now c.args.base c.min-len.result c.args.items.now cut.result.0.now cut.result.1.now cut.ensures.value cut.ensures.front_len c.requires.accepts

pub from_place-returns-clause-items : goal.from_place-returns-clause-items
from_place-returns-clause-items g t c =
    let cut = c.split_at_mut-first in
    changes-both g.F.Fn c.args.f.now c.args.base c.min-len.result c.args.items.now cut.result.0.now cut.result.1.now c.first_and_rest.new.first c.first_and_rest.new.rest
    cut.ensures.value cut.ensures.front_len c.first_and_rest.auto.first c.first_and_rest.ensures.first c.first_and_rest.ensures.rest
