use Rattle.query_words.specs.Words.{texts_of}
use Rattle.query_words.proofs.Settings.{goes_on, stops}
use Rattle.query_words.proofs.options.read_options.Goals as goal

pub returns-in_default-with : goal.returns-in_default-with
returns-in_default-with c =
    stops c.loop-left.options c.in-Some.name.now c.in-Some.value.now c.loop-left.left.now c.args.words.now c.word-item.result (texts_of c.in-Some.rest.now) c.with.result
    c.in-len1-up.len_at_least c.word-item.is c.in-Some.ensures.some c.with.ensures c.in_default-with.is c.loop-left.invariant

pub loop-left-preserved : goal.loop-left-preserved
loop-left-preserved c =
    goes_on c.loop-left.options c.in-Some-with.more c.in-Some.name.now c.in-Some.value.now c.loop-left.left.now c.args.words.now c.word-item.result (texts_of c.in-Some.rest.now) c.with.result
    c.in-len1-up.len_at_least c.word-item.is c.in-Some.ensures.some c.with.ensures c.in-Some-with.is c.loop-left.invariant
