use Rattle.std.proofs.Common.{rules, map, subst, sym, arith}
use Rattle.value_types.specs.Folds.{chain_of, tree_of, ty_of}
use Rattle.state_codec.specs.Codec.{state_reading}
use Rattle.state_codec.specs.Gives.{Gives}
use Rattle.state_codec.specs.Reading.{reading}
use Rattle.state_codec.proofs.Fields.{read_fits, state_said}
use Rattle.state_codec.proofs.codec.read_state.Goals as goal

pub returns-in-State : goal.returns-in-State
returns-in-State c =
    let ty = c.args.ty.now in
    let bytes = c.args.bytes.now in
    let given : Gives tree_of c.read_text.result (reading (chain_of c.in-State.chain) (map ty_of c.in-State.args) bytes) = search rules in
    let said = c.state_answer.ensures (state_reading (ty_of ty) bytes) (subst (λ r. Gives tree_of c.read_text.result r) (sym (state_said ty c.in-State.chain c.in-State.args c.in-State.is bytes)) given) in
    record { read = said; fits = read_fits ty c.in-State.chain c.in-State.args c.in-State.is c.requires bytes (λ i. omega (arith, c.type_inv.bytes i)) c.state_answer.result said }
