-- What a clause reads of a pass and of a turnstile.
use Rattle.atomic_table.specs.Seated.{TableId}
use Rattle.turnstile.specs.declared.turn.Turned.{Ghosts}
use Rattle.turnstile.specs.declared.pass.Pass.{Pass}
use Rattle.turnstile.specs.declared.turnstile.Turnstile.{Turnstile}
use Rattle.turnstile.specs.Known.{Known}
use Rattle.turnstile.specs.proving.Steps.{shown}

module _ {T G : Type 0} {g : Ghosts T G} where
  -- what the pass knows
  abbrev pub known : Pass T G g → Known G
  known p = shown p.seat.me.0

  -- the turnstile that it is of
  abbrev pub origin : Pass T G g → TableId
  origin p = p.seat.table_id

abbrev pub identity : {T G : Type 0} → Turnstile T G → TableId
identity t = t.table.shared.table_id
