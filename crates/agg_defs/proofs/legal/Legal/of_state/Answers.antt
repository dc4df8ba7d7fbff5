use Rattle.std.proofs.Common.{◌∙◌, ap}
use Rattle.value_types.specs.Folds.{ty_of}
use Rattle.agg_defs.proofs.Back.{state_parts}
use Rattle.agg_defs.proofs.legal.Legal.of_state.Goals as goal

pub make-requires-clause-legal : goal.make-requires-clause-legal
make-requires-clause-legal c =
    (state_parts c.args.ty.now c.in-State.chain c.in_ok-chain-in-State.chain c.in-State.args c.in_ok-args-in-State.args
    c.in-State.is (c.in_ok-chain-in-State.ensures ∙ c.get.ensures) (c.in_ok-args-in-State.ensures ∙ c.as_slice.ensures) c.requires.legal).legal

pub make-requires-clause-keeps : goal.make-requires-clause-keeps
make-requires-clause-keeps c =
    ap ty_of c.in_ok-state_ty-in-State.ensures
    ∙ (state_parts c.args.ty.now c.in-State.chain c.in_ok-chain-in-State.chain c.in-State.args c.in_ok-args-in-State.args
    c.in-State.is (c.in_ok-chain-in-State.ensures ∙ c.get.ensures) (c.in_ok-args-in-State.ensures ∙ c.as_slice.ensures) c.requires.legal).state
