-- Answers of the goals that the search leaves open in chain_links::keys::place_for_item.
use Rattle.std.proofs.Common.{◌≡◌, map, ap, ◌∙◌, sym, subst}
use Rattle.agg_terms.specs.Values.{Bytes}
use Rattle.int_leaves.specs.Rows.{argument}
use Rattle.value_types.specs.Folds.{chain_of, ty_of}
use Rattle.value_types.proofs.FoldLaws.{value_of-Bytes}
use Rattle.running_states.specs.Entries.{IsFoundAt, keys_in}
use Rattle.chain_links.specs.proving.Words.{HasEntry}
use Rattle.chain_links.proofs.Rooms.{entry_found}
use Rattle.chain_links.proofs.keys.place_for_item.Goals as goal

pub returns-in-Ok : goal.returns-in-Ok
returns-in-Ok c =
    let k : argument c.args.key.now ≡ Bytes c.in-Bytes.text.now = ap argument c.in-Bytes.is ∙ value_of-Bytes c.in-Bytes.text.now in
    let es = c.args.entries.now.items in
    subst (λ v. HasEntry (chain_of c.args.of.now) (map ty_of c.args.types.now) v es c.in-Ok.place es) (sym k)
    (entry_found (chain_of c.args.of.now) (map ty_of c.args.types.now) (Bytes c.in-Bytes.text.now) es c.in-Ok.place c.requires.shape
    (subst (λ zs. IsFoundAt (Bytes c.in-Bytes.text.now) (keys_in zs) c.in-Ok.place) c.as_slice.ensures.value c.in-Ok.ensures))
