use Rattle.std.proofs.Common.{ap, sym, ◌∙◌, rules}
use Rattle.std.specs.List.{list_all}
use Rattle.agg_terms.specs.Fitting.{fits_value}
use Rattle.value_types.specs.Folds.{ty_of, value_of}
use Rattle.agg_values.proofs.FitsKinds.{in_keys}
use Rattle.agg_values.proofs.ValueKinds.{entries_at, items_at}
use Rattle.agg_values.proofs.value_fits.+fits.Goals as goal

pub items_fit-returns-in-List : goal.items_fit-returns-in-List
items_fit-returns-in-List t c =
    let test = fits_value (ty_of c.args.item.now) in
    c.all_fit.ensures ∙ ap (list_all (λ v. test (value_of v))) c.as_slice.ensures ∙ sym (items_at test c.args.value.now c.in-List.items c.in-List.is)

pub entries_fit-returns-in-Pairs : goal.entries_fit-returns-in-Pairs
entries_fit-returns-in-Pairs t c =
    let test = fits_value (ty_of c.args.item.now) in
    c.all_entries_fit.ensures ∙ ap (list_all (λ e. test (value_of e.1))) c.as_slice.ensures ∙ sym (entries_at test c.args.value.now c.in-Pairs.pairs c.in-Pairs.is)

pub type_fits-returns-then-keys_fit : goal.type_fits-returns-then-keys_fit
type_fits-returns-then-keys_fit t c =
    c.entries_fit.ensures
    ∙ sym (in_keys c.args.ty.now (value_of c.args.value.now) c.get-in-Map.result.now c.get-then-keys_fit.result.now (search rules) (sym c.keys_fit.ensures ∙ c.if-keys_fit.true))
