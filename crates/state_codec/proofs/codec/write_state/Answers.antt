use Rattle.std.proofs.Common.{◌≡◌, map, rules, subst, sym}
use Rattle.std.specs.Prelude.{IfOk}
use Rattle.value_types.specs.Folds.{chain_of, tree_of, ty_of}
use Rattle.state_texts.specs.Texts.{text}
use Rattle.state_texts.specs.Versions.{written}
use Rattle.state_codec.proofs.Fields.{state_spelled}
use Rattle.state_codec.proofs.codec.write_state.Goals as goal

pub returns-in-State : goal.returns-in-State
returns-in-State c =
    let given : IfOk c.write_text.result (λ bytes. bytes ≡ text written (chain_of c.in-State.chain) (map ty_of c.in-State.args) (tree_of c.args.tree.now)) = search rules in
    subst (λ t. IfOk c.write_text.result (λ bytes. bytes ≡ t)) (sym (state_spelled c.args.ty.now c.in-State.chain c.in-State.args c.in-State.is (tree_of c.args.tree.now))) given
