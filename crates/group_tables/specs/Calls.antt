-- The calls of a plan made ready, as the definitions have them.
use Rattle.std.specs.Prelude.{List, map}
use Rattle.agg_meaning.specs.Views as meaning
use Rattle.chain_states.specs.Calls.{chain_in, types_in}
use Rattle.group_tables.specs.declared.grouping.GroupCall.{GroupCall}

-- a call: its chain over the types of its arguments, and its columns
abbrev pub call_of : GroupCall → meaning.Call
call_of c = record { chain = chain_in c.ready; types = types_in c.ready; columns = c.columns }

abbrev pub calls_of : List GroupCall → List meaning.Call
calls_of calls = map call_of calls
