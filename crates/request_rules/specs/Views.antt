-- What a query of the code is in the definitions.
use Rattle.std.specs.Prelude.{List, map}
use Rattle.agg_defs.specs.declared.plan.Call as code
use Rattle.agg_defs.specs.declared.plan.GroupPlan.{GroupPlan}
use Rattle.agg_defs.specs.declared.schema.Column as code_column
use Rattle.agg_defs.specs.declared.schema.Schema.{Schema}
use Rattle.chain_types.specs.Calls.{call_seen}
use Rattle.request_rules.specs.Selects.{PlacedCall, Named, Plan}
use Rattle.request_rules.specs.Tables.{Column}
use Rattle.request_rules.specs.declared.known.Named as code_named
use Rattle.value_types.specs.Folds.{ty_of}

abbrev pub column_of : code_column.Column → Column
column_of c = record { name = c.name; ty = ty_of c.ty }

abbrev pub schema_of : Schema → List Column
schema_of s = map column_of s.columns

abbrev pub named_of : code_named.Named → Named
named_of n = record { place = n.place; ty = ty_of n.ty.now }

abbrev pub call_of : code.Call → PlacedCall
call_of c = record { typed = call_seen c.legal; columns = c.columns }

abbrev pub plan_of : GroupPlan → Plan
plan_of p = record { calls = map call_of p.calls; keys = p.keys }
