-- Answers of the goals that the search leaves open in chain_links::keys::place_for.
use Rattle.std.proofs.Common.{rules, map, ap, subst}
use Rattle.value_types.specs.Folds.{chain_of, ty_of, value_of}
use Rattle.running_states.specs.Entries.{IsPlaceOf, keys_in}
use Rattle.chain_links.proofs.Rooms.{entry_found, entry_put}
use Rattle.chain_links.proofs.keys.place_for.Goals as goal

pub returns-in-Ok : goal.returns-in-Ok
returns-in-Ok c =
    entry_found (chain_of c.args.of.now) (map ty_of c.args.types.now) (value_of c.args.key.now) c.args.entries.now.items c.in-Ok.place c.requires.shape
    (subst (IsPlaceOf (value_of c.args.key.now) (keys_in c.args.entries.now.items)) c.in-Ok.is c.requires.found)

pub returns-in_ok-insert-in-Err : goal.returns-in_ok-insert-in-Err
returns-in_ok-insert-in-Err c =
    entry_put (chain_of c.args.of.now) (map ty_of c.args.types.now) (value_of c.args.key.now) c.args.entries.now.items c.insert.new.self.items c.in-Err.place c.in_ok-copy-in-Err.field-0 c.in_ok-fresh-in-Err.field-0
    (search rules) (ap value_of (search rules))
    (subst (IsPlaceOf (value_of c.args.key.now) (keys_in c.args.entries.now.items)) c.in-Err.is c.requires.found)
    c.in_ok-fresh-in-Err.ensures.shape c.in_ok-fresh-in-Err.ensures.fresh
