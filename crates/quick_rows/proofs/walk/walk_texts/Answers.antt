use Rattle.std.proofs.Common.{◌-◌, drop, length, take, arith}
use Rattle.quick_rows.proofs.Fronts.{front_one, quoted_part}
use Rattle.quick_rows.proofs.Walks.{texts_all, texts_more, texts_none}
use Rattle.quick_rows.proofs.walk.walk_texts.Goals as goal

pub loop-behind-init : goal.loop-behind-init
loop-behind-init c = texts_none c.args.inside.now

pub loop-behind-preserved : goal.loop-behind-preserved
loop-behind-preserved c =
    let text = c.in-Some.field-0-0.now in
    let behind = c.in-Some.behind.now in
    let left = c.loop-behind.left.now in
    let found = c.in-Some.ensures in
    let quoted = quoted_part left text behind found.0 found.1 in
    texts_more c.args.inside.now left text behind (take (length behind - 1) (drop 1 behind)) c.loop-behind.invariant quoted.0 quoted.1 found.2 (front_one behind 44 (omega arith) (omega arith))

pub returns-in-93 : goal.returns-in-93
returns-in-93 c =
    let text = c.in-Some.field-0-0.now in
    let behind = c.in-Some.behind.now in
    let left = c.loop-behind.left.now in
    let found = c.in-Some.ensures in
    let quoted = quoted_part left text behind found.0 found.1 in
    texts_all c.args.inside.now left text behind (take (length behind - 1) (drop 1 behind)) c.loop-behind.invariant quoted.0 quoted.1 found.2
    (front_one behind 93 (omega arith) (omega arith))
