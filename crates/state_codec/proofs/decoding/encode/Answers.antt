use Rattle.std.proofs.Common.{map, rules}
use Rattle.value_types.specs.Folds.{chain_of, tree_of, ty_of}
use Rattle.state_texts.proofs.Legal.{legal_spelled}
use Rattle.state_codec.proofs.Decoded.{is_read_back}
use Rattle.state_codec.proofs.decoding.encode.Goals as goal

pub returns-clause-back : goal.returns-clause-back
returns-clause-back c =
    is_read_back (chain_of c.args.legal.now.chain) (map ty_of c.args.legal.now.args) (legal_spelled c.args.legal.now.chain c.args.legal.now.args c.chain.ensures.typed.legal)
    (tree_of c.args.tree.now) c.short_text.result (search rules) (search rules)
