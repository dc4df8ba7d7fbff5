-- A list whose items are lent with room behind them.
use Rattle.std.specs.Prelude.{List, Result}
use Rattle.std.specs.Borrow.{Fml, LendsIfOk, MutBor, RattleType}
use Rattle.std.specs.contracts.alloc.Global as global
use Rattle.std.specs.contracts.impls.GlobalAllocator.TheImpl.{ghosts}
use Rattle.std.specs.contracts.vec.Vec as vec
use Rattle.value_lists.specs.contracts.seq.Seq.{the_row}

-- the items as contracts see them while they are lent: with their room
abbrev pub items_row : RattleType → RattleType
items_row item = vec.the_row item global.the_row ghosts

-- the list ends with the items that were left in the loan, and where there was no room as it was
abbrev pub LendsItems : (item : RattleType) {E : Type 0} → MutBor (List item.Denot) → Result (MutBor (items_row item).Denot) E → Fml
LendsItems item list lent = LendsIfOk (the_row item) (items_row item) list lent (λ items. items.items) list.now
