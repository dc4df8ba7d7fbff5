use Rattle.std.proofs.Common.{◌≡◌, ◌≤◌, None, length, map, get_or, ℕ, suc, true, false, ◌∙◌, ap, arith}
use Rattle.std.specs.Prelude.{is_some}
use Rattle.std.proofs.lemmas.List.{length-map}
use Rattle.value_types.specs.Folds.{event_of, item_of, link_of}
use Rattle.sequence_pattern.specs.proving.Fronts.{next_place}
use Rattle.sequence_pattern.specs.proving.Hits.{any_below, hit}
use Rattle.sequence_pattern.proofs.Taken.{next_place-first}
use Rattle.sequence_pattern.proofs.Ended.{blank_are_fronts, whole}
use Rattle.sequence_pattern.proofs.search.has_hit.Goals as goal
use Rattle.sequence_pattern.proofs.search.has_hit.Goals.{then-loop-fronts-test+else-fronts-events, else-loop-fronts-test}

pub loop-fronts-init : goal.loop-fronts-init
loop-fronts-init c =
    blank_are_fronts (map item_of c.args.items.now) (map link_of c.args.links.now) (map event_of c.args.events.now) c.args.fronts.now c.requires.blank

pub returns : goal.returns
returns c =
    let fronts = c.loop-fronts.fronts in
    let seen = (get_or fronts 0 (record { next = 0; seen = None })).seen in
    let at = next_place-first fronts in
    let size : length fronts ≡ suc (length c.args.links.now) = omega arith in
    let past : is_some seen ≡ false → length (map event_of c.args.events.now) ≤ next_place fronts = λ none.
    elim c.loop-fronts-test.branch [
      | then-loop-fronts-test+else-fronts-events w ↦ omega (arith, length-map c.args.events.now event_of, w.if-fronts-events.false)
      | else-loop-fronts-test w ↦ (let some : is_some seen ≡ true = w.loop-fronts-test.ensures {u = tt} in absurd (cc (none, some)))
    ] in
    let all = whole (map item_of c.args.items.now) (map link_of c.args.links.now) (map event_of c.args.events.now) (length c.args.links.now) fronts size c.loop-fronts.invariant past in
    c.is_some.ensures ∙ all ∙ ap (λ (n : ℕ). any_below n (hit (map item_of c.args.items.now) (map link_of c.args.links.now) (map event_of c.args.events.now) (length c.args.links.now))) (length-map c.args.events.now event_of)
