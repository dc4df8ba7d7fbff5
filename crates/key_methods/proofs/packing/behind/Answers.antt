use Rattle.std.proofs.Common.{◌≡◌, ◌+◌, ◌*◌, ◌%◌, ◌<◌, ◌^◌, sym, subst, rules}
use Rattle.key_methods.proofs.SideBySide.{shifted_below, shifted_fits, shifted_sum}
use Rattle.key_methods.proofs.packing.behind.Goals as goal

pub overflow_add-result : goal.overflow_add-result
overflow_add-result c =
    let b = c.args.before in
    let fits : b.word * 2 ^ (8 * c.args.width) % 340282366920938463463374607431768211456 + c.from.result < 2 ^ 128 =
    subst (λ m. b.word * 2 ^ (8 * c.args.width) % 340282366920938463463374607431768211456 + m < 2 ^ 128) (sym c.from.ensures)
    (shifted_fits b.word c.args.word b.width c.args.width c.requires.room c.requires.before c.requires.below) in
    search rules

pub returns-clause-word : goal.returns-clause-word
returns-clause-word c =
    let b = c.args.before in
    subst (λ m. b.word * 2 ^ (8 * c.args.width) % 340282366920938463463374607431768211456 + m ≡ b.word * 256 ^ c.args.width + c.args.word) (sym c.from.ensures)
    (shifted_sum b.word c.args.word b.width c.args.width c.requires.room c.requires.before c.requires.below)

pub returns-clause-below : goal.returns-clause-below
returns-clause-below c =
    let b = c.args.before in
    subst (λ m. b.word * 2 ^ (8 * c.args.width) % 340282366920938463463374607431768211456 + m < 256 ^ (b.width + c.args.width)) (sym c.from.ensures)
    (shifted_below b.word c.args.word b.width c.args.width c.requires.room c.requires.before c.requires.below)
