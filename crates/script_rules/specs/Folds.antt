-- What a view of the code is in the definitions.
use Rattle.std.specs.Prelude.{List, map}
use Rattle.agg_defs.specs.declared.views.View as code
use Rattle.request_rules.specs.Views.{plan_of}
use Rattle.script_rules.specs.Views.{View}

abbrev pub view_of : code.View → View
view_of v = record { name = v.name; plan = plan_of v.plan }

abbrev pub views_of : List code.View → List View
views_of vs = map view_of vs
