use Rattle.std.proofs.Common.{◌≡◌, ℕ, ◌+◌, ◌<◌, ◌≢◌, Option, true, Bool, List, ◌∷◌, map, length, get_or, drop, sym, ◌∙◌, subst}
use Rattle.std.proofs.lemmas.List.{drop_more, drop_all}
use Rattle.agg_terms.specs.Values as family
use Rattle.agg_meaning.specs.Events.{funnel_level}
use Rattle.value_types.specs.declared.value.Event.{Event}
use Rattle.value_types.specs.Folds.{event_of}
use Rattle.window_funnel.specs.Conditions.{cut_to}
use Rattle.window_funnel.proofs.Cuts.{GoingCut, cut_joined, cut_next, cut_end, cut_start}
use Rattle.window_funnel.proofs.funnel.level_from.Goals as goal
use Rattle.window_funnel.proofs.funnel.level_from.Goals.{then-strict+then-event-waiting, else-strict, else-strict-via-then-strict+else-event-waiting, else-strict-via-else-strict}

-- the events from a place on begin with the event there
at_event : (window : ℕ) (strict : Bool) (n whole : ℕ) (p : family.Event) (xs : List (Option ℕ)) (events : List Event) (i : ℕ) → i < length events → GoingCut window strict n whole p xs (map event_of (drop i events)) → GoingCut window strict n whole p xs (event_of (get_or events i (record { time = 0; mask = 0 })) ∷ map event_of (drop (i + 1) events))
at_event window strict n whole p xs events i l g =
    subst (λ (es : List Event). GoingCut window strict n whole p xs (map event_of es)) (drop_more events i (record { time = 0; mask = 0 }) l) g

pub loop-event-init : goal.loop-event-init
loop-event-init c = cut_start c.args.window c.args.strict c.args.starts.now (map event_of c.args.events.now) c.requires.blank c.requires.ordered

pub loop-event-preserved : goal.loop-event-preserved
loop-event-preserved c =
    let whole = funnel_level c.args.window c.args.strict (map (cut_to (length c.args.starts.now)) (map event_of c.args.events.now)) in
    let n = length c.args.starts.now in
    let i = c.loop-event.event-index in
    let e = event_of (get_or c.args.events.now i (record { time = 0; mask = 0 })) in
    let p = event_of c.loop-event.waiting in
    let later = map event_of (drop (i + 1) c.args.events.now) in
    let g = at_event c.args.window c.args.strict n whole p c.loop-event.starts c.args.events.now i c.loop-event-test.true c.loop-event.invariant in
    elim c.if-strict.branch [
      | then-strict+then-event-waiting w ↦
          rw (w.starts-is, w.waiting-is) (cut_joined c.args.window c.args.strict n whole p e c.loop-event.starts later g w.if-strict.true w.if-event-waiting.true)
      | else-strict w ↦
          (let apart : c.args.strict ≡ true → p.time ≢ e.time =
          elim w.else-strict.branch [
            | else-strict-via-then-strict+else-event-waiting v ↦ (λ (s : c.args.strict ≡ true) (h : p.time ≡ e.time). v.if-event-waiting.false (sym h))
            | else-strict-via-else-strict v ↦ (λ (s : c.args.strict ≡ true) (h : p.time ≡ e.time). absurd (cc (s, v.if-strict.false)))
          ] in
          rw (w.starts-is, w.waiting-is, w.add_event.ensures) (cut_next c.args.window c.args.strict n whole p e c.loop-event.starts later g apart))
    ]

pub returns : goal.returns
returns c =
    let whole = funnel_level c.args.window c.args.strict (map (cut_to (length c.args.starts.now)) (map event_of c.args.events.now)) in
    let p = event_of c.loop-event.waiting in
    let all = drop_all c.loop-event.event-index c.args.events.now c.loop-event-test.false in
    let g = subst (λ (es : List Event). GoingCut c.args.window c.args.strict (length c.args.starts.now) whole p c.loop-event.starts (map event_of es)) all c.loop-event.invariant in
    c.longest_of.ensures ∙ rw c.add_event-2.ensures (cut_end c.args.window c.args.strict (length c.args.starts.now) whole p c.loop-event.starts g)
