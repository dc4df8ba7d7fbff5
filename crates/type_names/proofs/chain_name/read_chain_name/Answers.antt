use Rattle.std.proofs.Common.{length, ◌<◌, ◌≤◌, sym, subst, arith}
use Rattle.type_names.specs.Reads.{HasTooMany}
use Rattle.type_names.proofs.WordsRead.{one_more, stopped, ended_whole}
use Rattle.type_names.proofs.chain_name.read_chain_name.Goals as goal

pub loop-rest-preserved : goal.loop-rest-preserved
loop-rest-preserved c =
    one_more c.args.name.now c.in-Some.leaf c.loop-rest.suffixes c.push.new.self c.loop-rest.rest.now c.in-Some-read_suffix.suffix
    c.in-Some-read_suffix.after.now c.loop-rest.invariant c.in-Some-read_suffix.ensures c.in_ok-push-in-Some-read_suffix.ensures.ok

pub returns-in-None : goal.returns-in-None
returns-in-None c =
    stopped c.args.name.now c.in-Some.leaf c.loop-rest.suffixes c.loop-rest.rest.now c.is_empty.result c.loop-rest.invariant
    c.in-None.ensures c.is_empty.ensures c.loop-rest-test.true

pub returns-then-len-gt-MOST_SUFFIXES : goal.returns-then-len-gt-MOST_SUFFIXES
returns-then-len-gt-MOST_SUFFIXES c =
    let whole = ended_whole c.args.name.now c.in-Some.leaf c.loop-rest.suffixes c.loop-rest.rest.now c.is_empty.result c.loop-rest.invariant
    c.is_empty.ensures c.loop-rest-test.false in
    let long : 8 < length c.loop-rest.suffixes = omega (arith, c.len.ensures, c.if-len-gt-MOST_SUFFIXES.true) in
    subst HasTooMany (sym whole) long

pub returns : goal.returns
returns c =
    let whole = ended_whole c.args.name.now c.in-Some.leaf c.loop-rest.suffixes c.loop-rest.rest.now c.is_empty.result c.loop-rest.invariant
    c.is_empty.ensures c.loop-rest-test.false in
    let short : length c.loop-rest.suffixes ≤ 8 = omega (arith, c.len.ensures, c.if-len-gt-MOST_SUFFIXES.false) in
    (whole, short)
