use Rattle.std.proofs.Common.{◌∙◌, ap, map, subst, sym}
use Rattle.agg_terms.specs.Lists.{Each}
use Rattle.chain_states.specs.Calls.{IsStateOf, tree_in}
use Rattle.state_columns.proofs.Columns.{copied-next, each-push}
use Rattle.state_columns.proofs.column.copy_states.Goals as goal

pub loop-i-preserved : goal.loop-i-preserved
loop-i-preserved c =
    record {
      shape =
          subst (Each (IsStateOf c.args.call.now)) (sym c.in_ok-push.ensures.items)
          (each-push (IsStateOf c.args.call.now) c.loop-i.copied.items c.in_ok-copy.field-0 c.loop-i.invariant.shape c.in_ok-copy.ensures.shape);
      trees =
          ap (map tree_in) c.in_ok-push.ensures.items
          ∙ copied-next c.args.states.now c.loop-i.copied.items c.loop-i.i c.index-states-i.result c.in_ok-copy.field-0 c.loop-i-test.true c.index-states-i.is c.loop-i.invariant.trees
          c.in_ok-copy.ensures.copy;
    }
