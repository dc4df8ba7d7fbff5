use Rattle.std.proofs.Common.{map, true, ◌≡◌, ◌&&◌, Bool, ap, sym, ◌∙◌}
use Rattle.std.specs.List.{list_all}
use Rattle.std.proofs.lemmas.Bool.{and_parts}
use Rattle.agg_terms.specs.Fitting.{fits_value}
use Rattle.value_types.specs.declared.value.Value.{Value}
use Rattle.value_types.specs.Folds.{ty_of, value_of}
use Rattle.tsv_values.proofs.Texts.{each_so, entries_at, entries_fit}
use Rattle.tsv_values.proofs.writing.entries_of.Goals as goal

pub returns-in-Pairs : goal.returns-in-Pairs
returns-in-Pairs c =
    let key_fits : Value × Value → Bool = λ e. fits_value (ty_of c.args.key.now) (value_of e.0) in
    let item_fits : Value × Value → Bool = λ e. fits_value (ty_of c.args.item.now) (value_of e.1) in
    let both : list_all (λ (e : Value × Value). key_fits e && item_fits e) c.in-Pairs.entries ≡ true =
    entries_fit (λ e. fits_value (ty_of c.args.key.now) e.0 && fits_value (ty_of c.args.item.now) e.1) c.args.value.now c.in-Pairs.entries c.in-Pairs.is c.requires in
    record {
      same = ap (map (λ (e : Value × Value). (value_of e.0, value_of e.1))) c.as_slice.ensures ∙ sym (entries_at c.args.value.now c.in-Pairs.entries c.in-Pairs.is);
      keys = ap (list_all key_fits) c.as_slice.ensures ∙ each_so (λ (e : Value × Value). key_fits e && item_fits e) key_fits (λ e b. (and_parts (key_fits e) (item_fits e) b).0) c.in-Pairs.entries both;
      items = ap (list_all item_fits) c.as_slice.ensures ∙ each_so (λ (e : Value × Value). key_fits e && item_fits e) item_fits (λ e b. (and_parts (key_fits e) (item_fits e) b).1) c.in-Pairs.entries both;
    }
