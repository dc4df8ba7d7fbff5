use Rattle.std.proofs.Common.{◌∷◌, [], map, ap, rules}
use Rattle.agg_values.specs.Peels.{peeled_types}
use Rattle.value_types.specs.Folds.{tree_of, value_of}
use Rattle.state_texts.specs.Texts.{flag_text, row_of, row_text}
use Rattle.state_texts.proofs.Written.{puts_on, row_in}
use Rattle.state_texts.proofs.leaves.put_tuple.Goals as goal

pub returns-in_ok-push-in-Tuple : goal.returns-in_ok-push-in-Tuple
returns-in_ok-push-in-Tuple c =
    let text = row_text (peeled_types c.args.peels.now c.args.types.now) in
    puts_on c.put_row.result c.args.out.now.items c.push.new.self.items c.put_row.new.out.items (1 ∷ []) (text (map value_of c.in-Tuple.values))
    (flag_text text (row_of (tree_of c.args.tree.now))) (search rules) (ap (flag_text text) (row_in c.args.tree.now c.in-Tuple.values c.in-Tuple.is)) (search rules)
