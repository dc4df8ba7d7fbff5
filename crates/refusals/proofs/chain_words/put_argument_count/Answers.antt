use Rattle.std.proofs.Common.{◌≡◌, ◌++◌, ◌∙◌, ap, subst, append_assoc, OnOk, codes}
use Rattle.value_lists.proofs.Fronts.{holds_first}
use Rattle.refusals.specs.Words.{with_number}
use Rattle.refusals.proofs.Stopped.{later_err, stopped}
use Rattle.refusals.proofs.chain_words.put_argument_count.Goals as goal

pub returns-clause-ok : goal.returns-clause-ok
returns-clause-ok c =
    subst (λ words. OnOk c.put_with_number-2.result (c.put_with_number-2.new.text ≡ words))
    (ap (λ text. text ++ (with_number (codes " arguments, have ") c.args.have)) c.in_ok-put_with_number.ensures.ok ∙ append_assoc c.args.text.now (with_number (codes "want ") c.args.want) (with_number (codes " arguments, have ") c.args.have))
    c.put_with_number-2.ensures.ok

pub returns-in_err-put_with_number-clause-err : goal.returns-in_err-put_with_number-clause-err
returns-in_err-put_with_number-clause-err c =
    stopped c.from_residual.result (holds_first (with_number (codes " arguments, have ") c.args.have) c.in_err-put_with_number.ensures.err)

pub returns-clause-err : goal.returns-clause-err
returns-clause-err c =
    later_err c.args.text.now _ (with_number (codes "want ") c.args.want) (with_number (codes " arguments, have ") c.args.have) c.put_with_number-2.new.text c.put_with_number-2.result c.in_ok-put_with_number.ensures.ok c.put_with_number-2.ensures.err
