use Rattle.std.proofs.Common.{length, ap, sym, ◌∙◌, arith}
use Rattle.typed_columns.specs.Items.{item_value}
use Rattle.typed_columns.proofs.Arguments.{length-front}
use Rattle.typed_columns.proofs.args.Args.len.Goals as goal

pub returns : goal.returns
returns c = record {
  count =
      sym (length-front item_value c.self.inside.items c.self.inside.count (omega (arith, c.self.invariant.0, c.self.invariant.1)))
      ∙ ap length c.self.view_is;
  most = c.self.invariant.0;
}
