use Rattle.std.proofs.Common.{arith, string_bytes}
use Rattle.query_words.specs.Words.{texts_of}
use Rattle.query_words.proofs.Settings.{setting_in_one, setting_in_two}
use Rattle.query_words.proofs.options.first_setting.Goals as goal

pub returns-in-Some-clause-some : goal.returns-in-Some-clause-some
returns-in-Some-clause-some c =
    setting_in_one (string_bytes c.args.word.now) c.as_str.result.now c.in-Some.name.now c.in-Some.value.now (texts_of c.args.after.now)
    c.as_str.ensures.value c.in-Some.ensures.some c.in-Some.ensures.name c.in-Some.ensures.value

pub returns-in-len1-up-clause-some : goal.returns-in-len1-up-clause-some
returns-in-len1-up-clause-some c =
    setting_in_two (string_bytes c.args.word.now) c.as_str.result.now c.as_str-in-len1-up.result.now c.as_str-in-len1-up-2.result.now c.args.after.now c.value-item.result
    c.as_str.ensures.value c.in_default.ensures.none c.in-len1-up.len_at_least c.value-item.is c.as_str-in-len1-up.ensures.value c.as_str-in-len1-up-2.ensures.value
