use Rattle.std.proofs.Common.{◌≡◌, length, map, ℕ, List, ◌∙◌, sym, ap, ap₂, arith}
use Rattle.std.proofs.lemmas.List.{length-map}
use Rattle.value_types.specs.declared.pattern.PatItem.{PatItem}
use Rattle.value_types.specs.declared.pattern.PatLink.{PatLink}
use Rattle.value_types.specs.Folds.{event_of, item_of, link_of, pattern_of}
use Rattle.sequence_pattern.specs.proving.Hits.{any_below, hit}
use Rattle.sequence_pattern.proofs.Ends.{matched}
use Rattle.sequence_pattern.proofs.Ended.{front_blank}
use Rattle.sequence_pattern.proofs.search.matches.Goals as goal

pub has_hit-requires-clause-blank : goal.has_hit-requires-clause-blank
has_hit-requires-clause-blank c = front_blank (length c.as_slice-items.result.now) 64

pub returns : goal.returns
returns c =
    let p = pattern_of c.args.pattern.now in
    let es = map event_of c.args.events.now in
    let k = length c.args.pattern.now.links in
    let a = c.has_hit.ensures in
    let b = c.as_slice-items.ensures in
    let d = c.as_slice-links.ensures in
    let m = matched p es k (length-map c.args.pattern.now.items item_of ∙ omega arith) (length-map c.args.pattern.now.links link_of) in
    let same : any_below (length c.args.events.now) (hit (map item_of c.as_slice-items.result.now) (map link_of c.as_slice-links.result.now) es (length c.as_slice-links.result.now)) ≡ any_below (length es) (hit p.items p.links es k) =
    ap₂ (λ (is : List PatItem) (ls : List PatLink). any_below (length c.args.events.now) (hit (map item_of is) (map link_of ls) es (length ls))) b d
    ∙ ap (λ (n : ℕ). any_below n (hit p.items p.links es k)) (sym (length-map c.args.events.now event_of)) in
    a ∙ same ∙ sym m
