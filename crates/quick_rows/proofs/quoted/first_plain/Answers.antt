use Rattle.std.proofs.Common.{length, sym, subst, arith}
use Rattle.scalar_texts.proofs.Bytes.{all_bytes}
use Rattle.quick_rows.specs.Taking.{AreBytes}
use Rattle.quick_rows.proofs.Fronts.{bytes-take, plain_front, plain_whole}
use Rattle.quick_rows.proofs.quoted.first_plain.Goals as goal

pub returns-in-Some-clause-front : goal.returns-in-Some-clause-front
returns-in-Some-clause-front c = (plain_front c.args.text.now _ _ c.in-Some.at (sym c.in-Some.ensures) c.split_at.ensures.front c.split_at.ensures.back).0

pub returns-in-Some-clause-plain : goal.returns-in-Some-clause-plain
returns-in-Some-clause-plain c = (plain_front c.args.text.now _ _ c.in-Some.at (sym c.in-Some.ensures) c.split_at.ensures.front c.split_at.ensures.back).1

pub returns-in-Some-clause-bytes : goal.returns-in-Some-clause-bytes
returns-in-Some-clause-bytes c =
    let text = c.args.text.now in
    subst AreBytes (sym c.split_at.ensures.front) (bytes-take text c.in-Some.at (all_bytes text (λ i. let f = c.type_inv.text i in omega arith)))

pub returns-in-None-clause-front : goal.returns-in-None-clause-front
returns-in-None-clause-front c = (plain_whole c.args.text.now _ _ (sym c.in-None.ensures) c.split_at-in-None.ensures.front c.split_at-in-None.ensures.back).0

pub returns-in-None-clause-plain : goal.returns-in-None-clause-plain
returns-in-None-clause-plain c = (plain_whole c.args.text.now _ _ (sym c.in-None.ensures) c.split_at-in-None.ensures.front c.split_at-in-None.ensures.back).1

pub returns-in-None-clause-bytes : goal.returns-in-None-clause-bytes
returns-in-None-clause-bytes c =
    let text = c.args.text.now in
    subst AreBytes (sym c.split_at-in-None.ensures.front) (bytes-take text (length text) (all_bytes text (λ i. let f = c.type_inv.text i in omega arith)))
