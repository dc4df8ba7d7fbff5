-- What a plan over a table is in the definitions, and when the two agree.
use Rattle.std.specs.Prelude.{List, map}
use Rattle.agg_terms.specs.Chains as terms
use Rattle.agg_terms.specs.Lists.{Each}
use Rattle.agg_terms.specs.Widths.{IsNarrow}
use Rattle.agg_meaning.specs.Views as meaning
use Rattle.agg_typing.specs.Views.{IsViewOver}
use Rattle.agg_defs.specs.declared.plan.Call.{Call}
use Rattle.agg_defs.specs.declared.plan.GroupPlan.{GroupPlan}
use Rattle.agg_defs.specs.declared.schema.Column.{Column}
use Rattle.agg_defs.specs.declared.schema.Schema.{Schema}
use Rattle.value_types.specs.Folds.{chain_of, ty_of}

-- the types of a table's columns
abbrev pub types_in : Schema → List terms.Ty
types_in schema = map (λ (c : Column). ty_of c.ty) schema.columns

-- a call: its chain over the types of its arguments, and its columns
abbrev pub call_in : Call → meaning.Call
call_in c = record { chain = chain_of c.legal.chain; types = map ty_of c.legal.args; columns = c.columns }

-- the view that a plan asks for
abbrev pub view_in : GroupPlan → meaning.View
view_in p = record { keys = p.keys; calls = map call_in p.calls }

-- A plan agrees with a table: each call is legal, its columns are the table's, and their types are those of its arguments;
-- each key is a column of the table, of a number type, String or Nullable of one.
abbrev pub PlanFits : Schema → GroupPlan → Type 0
PlanFits schema plan = IsViewOver (types_in schema) (view_in plan)

-- What fits a table is a legal view, so that the laws of views speak of it.
abbrev pub FittingIsLegal : Type 0
FittingIsLegal = (schema : Schema) (plan : GroupPlan) → PlanFits schema plan → meaning.IsLegalView (view_in plan)

-- The columns of a table are as narrow as the law of rows asks.
abbrev pub ColumnsAreNarrow : Type 0
ColumnsAreNarrow = (schema : Schema) → Each IsNarrow (types_in schema)
