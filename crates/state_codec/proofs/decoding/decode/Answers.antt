use Rattle.std.proofs.Common.{rules, map, arith}
use Rattle.value_types.specs.Folds.{chain_of, ty_of}
use Rattle.state_texts.proofs.Legal.{legal_spelled}
use Rattle.state_codec.proofs.Decoded.{is_found, is_only, is_written_back}
use Rattle.state_codec.proofs.decoding.decode.Goals as goal

pub returns-clause-found : goal.returns-clause-found
returns-clause-found c =
    is_found (chain_of c.args.legal.now.chain) (map ty_of c.args.legal.now.args) (legal_spelled c.args.legal.now.chain c.args.legal.now.args c.chain.ensures.typed.legal)
    c.args.bytes.now c.read_text.result (λ i. omega (arith, c.type_inv.bytes i)) (search rules)

pub returns-clause-only : goal.returns-clause-only
returns-clause-only c =
    is_only (chain_of c.args.legal.now.chain) (map ty_of c.args.legal.now.args) (legal_spelled c.args.legal.now.chain c.args.legal.now.args c.chain.ensures.typed.legal)
    c.args.bytes.now c.read_text.result (search rules) (search rules)

pub returns-clause-again : goal.returns-clause-again
returns-clause-again c =
    is_written_back (chain_of c.args.legal.now.chain) (map ty_of c.args.legal.now.args) (legal_spelled c.args.legal.now.chain c.args.legal.now.args c.chain.ensures.typed.legal)
    c.args.bytes.now c.read_text.result (λ i. omega (arith, c.type_inv.bytes i)) (search rules)
