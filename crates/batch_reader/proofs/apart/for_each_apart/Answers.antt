use Rattle.std.proofs.Common.{◌≡◌, ◌+◌, arith, get_or, refl, subst}
use Rattle.std.specs.Fork.{ChangesAt}
use Rattle.batch_reader.proofs.apart.for_each_apart.Goals as goal

pub returns-clause-items : goal.returns-clause-items
returns-clause-items g c i d within =
    let place : 0 + i ≡ i = omega arith in
    (refl, subst (λ n. ChangesAt g.F.Fn c.args.f.now n (get_or c.args.items.now i d) (get_or c.from_place.new.items i d)) place (c.from_place.ensures.items.each i d within))
