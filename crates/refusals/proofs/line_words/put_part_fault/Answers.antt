use Rattle.std.proofs.Common.{◌≡◌, ◌++◌, ◌∙◌, ap, subst, codes}
use Rattle.value_lists.specs.Fronts.{HoldsFront}
use Rattle.value_lists.proofs.Fronts.{holds_first, holds_later, holds_none}
use Rattle.refusals.specs.Words.{chain_words, part_words, with_number}
use Rattle.refusals.proofs.Stopped.{later_err, stopped}
use Rattle.refusals.proofs.line_words.put_part_fault.Goals as goal

pub returns-in_err-put_with_number-clause-err : goal.returns-in_err-put_with_number-clause-err
returns-in_err-put_with_number-clause-err c =
    stopped c.from_residual.result
    (subst (λ words. HoldsFront c.args.text.now (with_number words c.args.part ++ (codes ": " ++ chain_words c.args.fault)) c.put_with_number.new.text) c.part_words.ensures
    (holds_first (codes ": " ++ chain_words c.args.fault) c.in_err-put_with_number.ensures.err))

pub returns-in_err-extend_from_slice-clause-err : goal.returns-in_err-extend_from_slice-clause-err
returns-in_err-extend_from_slice-clause-err c =
    stopped c.from_residual-in_err-extend_from_slice.result
    (holds_later (with_number (part_words c.args.line) c.args.part) (c.in_ok-put_with_number.ensures.ok ∙ ap (λ words. c.args.text.now ++ with_number words c.args.part) c.part_words.ensures) (holds_none (codes ": " ++ chain_words c.args.fault) c.in_err-extend_from_slice.ensures.err))

pub returns-clause-err : goal.returns-clause-err
returns-clause-err c =
    later_err c.args.text.now _ (with_number (part_words c.args.line) c.args.part) (codes ": " ++ chain_words c.args.fault) c.put_chain_fault.new.text c.put_chain_fault.result
    (c.in_ok-put_with_number.ensures.ok ∙ ap (λ words. c.args.text.now ++ with_number words c.args.part) c.part_words.ensures)
    (later_err _ _ (codes ": ") (chain_words c.args.fault) c.put_chain_fault.new.text c.put_chain_fault.result c.in_ok-extend_from_slice.ensures.ok c.put_chain_fault.ensures.err)
