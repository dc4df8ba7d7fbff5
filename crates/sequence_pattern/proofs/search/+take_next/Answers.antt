use Rattle.std.proofs.Common.{◌≡◌, ◌<◌, length, map, ℕ, ◌-◌, Bool, true, false, ◌&&◌, get_or, Some, None, refl, sym, ap, ap₂, ◌∙◌, arith, subst, drop, length-take, length-drop}
use Rattle.std.proofs.lemmas.List.{get_or-map, length-map}
use Rattle.agg_terms.specs.Chains as terms
use Rattle.agg_meaning.specs.Events.{meets}
use Rattle.value_types.specs.declared.pattern.PatItem.TheVariants as item
use Rattle.value_types.specs.declared.pattern.PatLink.TheVariants as link
use Rattle.value_types.specs.Folds.{event_of, item_of, link_of}
use Rattle.sequence_pattern.specs.proving.Hits.{hit, spot}
use Rattle.sequence_pattern.specs.proving.Fronts.{AreFronts, allowed, comes_first, next_place, seen_with, time_at}
use Rattle.sequence_pattern.proofs.Seen.{rises}
use Rattle.sequence_pattern.proofs.Taken.{next_place-first, going, hit-later, done}
use Rattle.sequence_pattern.proofs.search.+take_next.Goals as goal
use Rattle.sequence_pattern.proofs.search.+take_next.Goals.{then-item-gt0+else-loop-follows-test, else-item-gt0}
use Rattle.sequence_pattern.proofs.search.+take_next.Goals.{then-follows+then-meets_item, else-follows, else-follows-via-then-follows+else-meets_item, else-follows-via-else-follows}

pub loop-follows-preserved : goal.loop-follows-preserved
loop-follows-preserved t c =
    let items = map item_of c.args.items.now in
    let links = map link_of c.args.links.now in
    let es = map event_of c.args.events.now in
    let p = (get_or c.args.fronts.now 0 (record { next = 0; seen = None })).next in
    let k = length c.loop-follows.fronts - 1 in
    let same : length c.args.fronts.now - 1 ≡ k = omega arith in
    let within : k - 1 < length c.args.links.now = omega arith in
    let before = (get_or c.loop-follows.fronts 1 (record { next = 0; seen = None })).next in
    let the_link : get_or links (k - 1) terms.Next ≡ link_of (get_or c.args.links.now (length c.args.fronts.now - 1 - 1) link.Next) =
    get_or-map link_of c.args.links.now (k - 1) link.Next terms.Next within ∙ ap (λ (j : ℕ). link_of (get_or c.args.links.now (j - 1) link.Next)) (sym same) in
    let first : comes_first es (get_or links (k - 1) terms.Next) before p ≡ true =
    ap (λ (l : terms.PatLink). comes_first es l before p) the_link ∙ sym c.is_first.ensures ∙ c.loop-follows-test.true in
    let size : length c.take_next.new.fronts ≡ k =
    omega (arith, c.take_next.auto.fronts, length-take k (drop 1 c.loop-follows.fronts), length-drop 1 c.loop-follows.fronts) in
    let step = going items links es p k c.loop-follows.fronts c.take_next.new.fronts (omega arith) refl c.loop-follows.invariant.fronts c.loop-follows.invariant.here first c.take_next.ensures.fronts c.take_next.ensures.next size in
    record { here = step.0; fronts = step.1 }

pub returns-clause-fronts : goal.returns-clause-fronts
returns-clause-fronts t c =
    let items = map item_of c.args.items.now in
    let links = map link_of c.args.links.now in
    let es = map event_of c.args.events.now in
    let p = (get_or c.args.fronts.now 0 (record { next = 0; seen = None })).next in
    let fronts = c.if-item-gt0.fronts in
    let k = length c.args.fronts.now - 1 in
    let up = rises es c.requires.ordered in
    let at : next_place c.args.fronts.now ≡ p = next_place-first c.args.fronts.now in
    let within : p < length c.args.events.now = omega arith in
    let inside : p < length es = omega (arith, length-map c.args.events.now event_of) in
    let the_event : (spot es p).1 ≡ event_of (get_or c.args.events.now p (record { time = 0; mask = 0 })) =
    get_or-map event_of c.args.events.now p (record { time = 0; mask = 0 }) (record { time = 0; mask = 0 }) within in
    let the_item : get_or items k terms.Any ≡ item_of (get_or c.args.items.now k (item.Cond 0)) =
    get_or-map item_of c.args.items.now k (item.Cond 0) terms.Any (omega arith) in
    let met = meets (item_of (get_or c.args.items.now k (item.Cond 0))) (event_of (get_or c.args.events.now p (record { time = 0; mask = 0 }))) in
    let facts : AreFronts items links es fronts × (next_place fronts ≡ p) × (hit items links es k p ≡ met && c.if-item-gt0.follows) =
    elim c.if-item-gt0.branch [
      | then-item-gt0+else-loop-follows-test w ↦
          (let same : length w.loop-follows.fronts - 1 ≡ k = omega arith in
          let before = get_or w.loop-follows.fronts 1 (record { next = 0; seen = None }) in
          let the_link : get_or links (k - 1) terms.Next ≡ link_of (get_or c.args.links.now (k - 1) link.Next) =
          get_or-map link_of c.args.links.now (k - 1) link.Next terms.Next (omega arith) in
          let late : comes_first es (get_or links (k - 1) terms.Next) before.next p ≡ false =
          ap (λ (l : terms.PatLink). comes_first es l before.next p) the_link ∙ sym w.is_first.ensures ∙ w.loop-follows-test.false in
          let by_front = hit-later items links es p k w.loop-follows.fronts w.if-item-gt0.true same up inside w.loop-follows.invariant.fronts w.loop-follows.invariant.here late in
          let follows : allowed (get_or links (k - 1) terms.Next) before.seen p (time_at es p) ≡ c.if-item-gt0.follows =
          ap₂ (λ (l : terms.PatLink) (n : ℕ). allowed l before.seen p n) the_link (ap (λ e. e.time) the_event) ∙ sym w.is_allowed-follows.ensures ∙ sym w.follows-is in (
            subst (AreFronts items links es) (sym w.fronts-is) w.loop-follows.invariant.fronts,
            ap next_place w.fronts-is ∙ w.loop-follows.invariant.here,
            by_front ∙ ap₂ ◌&&◌ (ap₂ meets the_item the_event) follows,
          ))
      | else-item-gt0 w ↦
          (let alone : k ≡ 0 = omega arith in
          let true_after : (b : Bool) → b ≡ b && true = λ b. elim b as (λ v. v ≡ v && true) [ true ↦ refl | false ↦ refl ] in (
            subst (AreFronts items links es) (sym w.fronts-is) c.requires.fronts,
            ap next_place w.fronts-is ∙ at,
            ap (λ (j : ℕ). hit items links es j p) alone
                ∙ ap₂ meets (ap (λ (j : ℕ). get_or items j terms.Any) (sym alone) ∙ the_item) the_event
                ∙ true_after met
                ∙ ap (λ b. met && b) (sym w.follows-is),
          ))
    ] in
    let some : 0 < length fronts = omega arith in
    let size : length fronts - 1 ≡ k = omega arith in
    elim c.if-follows.branch [
      | then-follows+then-meets_item v ↦
          done items links es p k fronts true c.if-follows.seen some size up inside facts.0 facts.1
          (facts.2 ∙ ap₂ ◌&&◌ (sym v.meets_item.ensures ∙ v.if-meets_item.true) v.if-follows.true)
          (v.seen-is ∙ ap Some (v.with_hit.ensures ∙ ap (λ (n : ℕ). seen_with (get_or fronts 0 (record { next = 0; seen = None })).seen p n) (sym (ap (λ e. e.time) the_event))))
      | else-follows v ↦
          (let none : met && c.if-item-gt0.follows ≡ false =
          elim v.else-follows.branch [
            | else-follows-via-then-follows+else-meets_item w ↦ ap₂ ◌&&◌ (sym w.meets_item.ensures ∙ w.if-meets_item.false) w.if-follows.true
            | else-follows-via-else-follows w ↦
                (let false_after : (b : Bool) → b && false ≡ false = λ b. elim b as (λ v. v && false ≡ false) [ true ↦ refl | false ↦ refl ] in
                ap (λ b. met && b) w.if-follows.false ∙ false_after met)
          ] in
          done items links es p k fronts false c.if-follows.seen some size up inside facts.0 facts.1 (facts.2 ∙ none) v.seen-is)
    ]
