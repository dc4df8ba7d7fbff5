-- A legal chain with its types as the rules see it.
use Rattle.std.specs.Prelude.{map}
use Rattle.agg_defs.specs.Parts.{Parts}
use Rattle.agg_typing.specs.Typing.{TypedCall}
use Rattle.value_types.specs.Folds.{chain_of, ty_of}

-- the four parts in the definitions
abbrev pub call_seen : Parts → TypedCall
call_seen legal = record {
  chain = chain_of legal.chain;
  args = map ty_of legal.args;
  result = ty_of legal.result;
  state = ty_of legal.state_type;
}
