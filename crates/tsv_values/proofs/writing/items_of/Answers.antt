use Rattle.std.proofs.Common.{map, ap, sym, ◌∙◌}
use Rattle.std.specs.List.{list_all}
use Rattle.agg_terms.specs.Fitting.{fits_value}
use Rattle.value_types.specs.declared.value.Value.{Value}
use Rattle.value_types.specs.Folds.{ty_of, value_of}
use Rattle.tsv_values.proofs.Texts.{items_at, items_fit}
use Rattle.tsv_values.proofs.writing.items_of.Goals as goal

pub returns-in-List : goal.returns-in-List
returns-in-List c = record {
  same = ap (map value_of) c.as_slice.ensures ∙ sym (items_at c.args.value.now c.in-List.items c.in-List.is);
  fit = ap (list_all (λ (v : Value). fits_value (ty_of c.args.item.now) (value_of v))) c.as_slice.ensures ∙ items_fit (fits_value (ty_of c.args.item.now)) c.args.value.now c.in-List.items c.in-List.is c.requires;
}
