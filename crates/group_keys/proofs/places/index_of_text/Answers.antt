use Rattle.std.proofs.Common.{◌∙◌, ap, map, sym}
use Rattle.group_keys.proofs.KeyLists.{text_added, text_added_at, text_at, text_found}
use Rattle.group_keys.proofs.places.index_of_text.Goals as goal

pub returns-in-Some-clause-keys : goal.returns-in-Some-clause-keys
returns-in-Some-clause-keys c = text_found (λ k. k.items) c.args.text.now c.args.set.now.keys (sym c.in-Some.ensures.found)

pub returns-in-Some-clause-place : goal.returns-in-Some-clause-place
returns-in-Some-clause-place c = text_at (λ k. k.items) c.args.text.now c.args.set.now.keys c.in-Some.place c.in-Some.ensures.index

pub returns-in_ok-place-in-None-clause-keys : goal.returns-in_ok-place-in-None-clause-keys
returns-in_ok-place-in-None-clause-keys c =
    ap (map (λ k. k.items)) c.in_ok-place-in-None.ensures.keys
    ∙ text_added (λ k. k.items) c.args.text.now c.args.set.now.keys c.in_ok-from_slice-in-None.field-0 c.in_ok-from_slice-in-None.ensures.items

pub returns-in_ok-place-in-None-clause-place : goal.returns-in_ok-place-in-None-clause-place
returns-in_ok-place-in-None-clause-place c =
    c.in_ok-place-in-None.ensures.index
    ∙ text_added_at (λ k. k.items) c.args.text.now c.args.set.now.keys c.in_ok-from_slice-in-None.field-0 c.in_ok-from_slice-in-None.ensures.items
