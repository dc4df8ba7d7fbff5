use Rattle.std.proofs.Common.{sym, arith}
use Rattle.tsv_values.proofs.Closing.{front_cut, quote_size}
use Rattle.tsv_values.proofs.quotes.cut_at_quote.Goals as goal

pub overflow_sub-text : goal.overflow_sub-text
overflow_sub-text c = let size = quote_size c.args.text.now c.in-Some.behind.now (sym c.in-Some.ensures) in omega (arith, size)

pub overflow_sub-text-in-Some : goal.overflow_sub-text-in-Some
overflow_sub-text-in-Some c = let size = quote_size c.args.text.now c.in-Some.behind.now (sym c.in-Some.ensures) in omega (arith, size)

pub returns-in-Some : goal.returns-in-Some
returns-in-Some c =
    let size = quote_size c.args.text.now c.in-Some.behind.now (sym c.in-Some.ensures) in
    (sym c.in-Some.ensures, front_cut c.args.text.now c.in-Some.behind.now _ c.split_at.result.0.now (sym c.in-Some.ensures) (omega (arith, size)) c.split_at.ensures.front)
