-- What the written forms of the code are in the definitions.
use Rattle.std.specs.Prelude.{List, map}
use Rattle.std.specs.Option.{option_map}
use Rattle.chain_params.specs.Literals.{literal_of}
use Rattle.type_shapes.specs.Folds.{shape_of}
use Rattle.line_forms.specs.Letters.{Name}
use Rattle.line_forms.specs.Tables.{Column}
use Rattle.line_forms.specs.Selects.{SelectCall, Select}
use Rattle.line_forms.specs.ScriptLines.{Line, View, Session, Insert, Load, Read, States}
use Rattle.line_forms.specs.declared.name.WrittenName.{WrittenName}
use Rattle.line_forms.specs.declared.table.WrittenColumn.{WrittenColumn}
use Rattle.line_forms.specs.declared.table.WrittenTable.{WrittenTable}
use Rattle.line_forms.specs.declared.select.WrittenCall.{WrittenCall}
use Rattle.line_forms.specs.declared.select.WrittenSelect.{WrittenSelect}
use Rattle.line_forms.specs.declared.script_line.WrittenLine.{WrittenLine}
use Rattle.line_forms.specs.declared.script_line.WrittenLine.TheVariants as code

abbrev pub name_of : WrittenName → Name
name_of n = record { at = n.at; name = n.name }

abbrev pub column_of : WrittenColumn → Column
column_of c = record { name = name_of c.name; shape = option_map shape_of c.shape }

abbrev pub columns_of : WrittenTable → List Column
columns_of t = map column_of t.columns

abbrev pub call_of : WrittenCall → SelectCall
call_of c = record { name = c.name; params = map literal_of c.params; arguments = map name_of c.arguments }

abbrev pub select_of : WrittenSelect → Select
select_of q = record { calls = map call_of q.calls; keys = map name_of q.keys }

abbrev pub line_of : WrittenLine → Line
line_of (code.View name q) = View (name_of name) (select_of q)
line_of (code.Session at number) = Session at number
line_of (code.Insert count) = Insert count
line_of (code.Load name count) = Load (name_of name) count
line_of (code.Read name) = Read (name_of name)
line_of (code.States name) = States (name_of name)
