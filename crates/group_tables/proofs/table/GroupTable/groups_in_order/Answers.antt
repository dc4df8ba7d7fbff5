use Rattle.std.proofs.Common.{subst, sym}
use Rattle.group_keys.specs.Orders as keys
use Rattle.group_keys.specs.Sets.{IsSetOf}
use Rattle.key_methods.specs.Kinds.{AreKeyTypes}
use Rattle.key_methods.proofs.Undone.{ok_as}
use Rattle.group_tables.proofs.Facts.{kinds}
use Rattle.group_tables.proofs.InOrder.{groups-in-order}
use Rattle.group_tables.proofs.table.GroupTable.groups_in_order.Goals as goal

pub places_in_order-requires-clause-types : goal.places_in_order-requires-clause-types
places_in_order-requires-clause-types c = subst AreKeyTypes (sym c.as_slice-types.ensures) (kinds c.args.grouping.now c.requires.ready)

pub places_in_order-requires-clause-set : goal.places_in_order-requires-clause-set
places_in_order-requires-clause-set c = subst (λ types. IsSetOf types c.args.self.now.keys) (sym c.as_slice-types.ensures) (c.requires.table.1.keys, c.requires.table.1.held)

pub returns : goal.returns
returns c =
    ok_as c.places_in_order.result _ _
    (λ places put. groups-in-order c.args.grouping.now c.args.self.now places.items
    (subst (λ types. keys.AreInOrder types c.args.self.now.keys places.items) c.as_slice-types.ensures put))
    c.places_in_order.ensures
