use Rattle.std.proofs.Common.{◌-◌, ◌∷◌, ◌++◌, [], drop, length, refl, take, true, arith}
use Rattle.std.specs.Prelude.{Ok}
use Rattle.quick_rows.specs.Taking.{texts_seen}
use Rattle.quick_rows.proofs.Fronts.{front_one, quoted_part}
use Rattle.quick_rows.proofs.ListLaws.{listed_all, listed_more, listed_none, texts_element}
use Rattle.quick_rows.proofs.list.take_texts.Goals as goal

pub loop-text-init : goal.loop-text-init
loop-text-init c = listed_none (texts_seen c.args.texts.now) c.args.inside.now

pub loop-text-preserved : goal.loop-text-preserved
loop-text-preserved c =
    let old = c.loop-text.texts in
    let new = c.push.new.self in
    let text = c.in-Some.text.now in
    let part = 39 ∷ (text ++ 39 ∷ []) in
    let behind = c.in-Some.behind.now in
    let found = c.in-Some.ensures in
    let quoted = quoted_part c.loop-text.left.now text behind found.0 found.1 in
    listed_more (texts_seen c.args.texts.now) (texts_seen old) (texts_seen new) c.args.inside.now c.loop-text.left.now part behind (take (length behind - 1) (drop 1 behind)) c.loop-text.invariant quoted.0
    (front_one behind 44 (omega arith) (omega arith)) (texts_element old new part (Ok true) (text, refl, quoted.1, found.2, c.in-Ok.ensures.ok))

pub returns-in-93 : goal.returns-in-93
returns-in-93 c =
    let old = c.loop-text.texts in
    let new = c.push.new.self in
    let text = c.in-Some.text.now in
    let part = 39 ∷ (text ++ 39 ∷ []) in
    let behind = c.in-Some.behind.now in
    let found = c.in-Some.ensures in
    let quoted = quoted_part c.loop-text.left.now text behind found.0 found.1 in
    listed_all (texts_seen c.args.texts.now) (texts_seen old) (texts_seen new) c.args.inside.now c.loop-text.left.now part behind (take (length behind - 1) (drop 1 behind)) c.loop-text.invariant quoted.0
    (front_one behind 93 (omega arith) (omega arith)) (texts_element old new part (Ok true) (text, refl, quoted.1, found.2, c.in-Ok.ensures.ok))
