use Rattle.std.proofs.Common.{◌≡◌, ◌<◌, ◌^◌, true, arith, rules}
use Rattle.std.specs.Char.{is_ascii_digit}
use Rattle.std.specs.List.{list_all}
use Rattle.query_words.proofs.Numerals.{not_parsed}
use Rattle.query_words.proofs.number.number_between.Goals as goal

pub returns-in_default-3-clause-number : goal.returns-in_default-3-clause-number
returns-in_default-3-clause-number c =
    let all : list_all is_ascii_digit c.args.word.now ≡ true = search rules in
    not_parsed c.args.least c.args.most c.args.word.now c.parse.result c.in_default.field-0 c.parse.ensures.value.0 c.in_default.is all (omega (arith, c.ranges.most.fits))
