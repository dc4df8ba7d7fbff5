use Rattle.std.proofs.Common.{◌≡◌, ◌+◌, ◌*◌, max, true, ◌&&◌, map}
use Rattle.std.specs.List.{list_all}
use Rattle.agg_terms.specs.Chains as terms
use Rattle.agg_terms.specs.Fitting.{fits_plain, fits_value}
use Rattle.value_types.specs.Folds.{ty_of, value_of}
use Rattle.tsv_values.specs.Answer.{KeysArePlain}
use Rattle.tsv_values.specs.Elements.{ElementSays, EntrySays}
use Rattle.tsv_values.specs.proving.Height.{height}
use Rattle.tsv_values.specs.proving.Steps.{step_of}
use Rattle.tsv_values.proofs.Beginnings.{element_begins, entry_begins}
use Rattle.tsv_values.proofs.ElementKinds.{pair_of}
use Rattle.tsv_values.proofs.Lists.{IsSoFar, brace, bracket}
use Rattle.tsv_values.proofs.Turns.{size}
use Rattle.tsv_values.proofs.elements.+elements.Given as goal

abbrev pub invariant-read_items-loop-next : goal.invariant-read_items-loop-next
invariant-read_items-loop-next g l = record {
  so : IsSoFar (ElementSays (g.R.StateReader.reads l.reader) (ty_of l.item)) 93 bracket (element_begins (g.R.StateReader.reads l.reader) (ty_of l.item)) l.text (step_of l.next) (map value_of l.items);
  fits : KeysArePlain (ty_of l.item) → list_all (λ v. fits_value (ty_of l.item) (value_of v)) l.items ≡ true;
}

abbrev pub decreases-read_items-loop-next : goal.decreases-read_items-loop-next
decreases-read_items-loop-next g l = size (step_of l.next)

abbrev pub invariant-read_entries-loop-next : goal.invariant-read_entries-loop-next
invariant-read_entries-loop-next g l = record {
  so : IsSoFar (EntrySays (ElementSays (g.R.StateReader.reads l.reader) (ty_of l.key)) (ElementSays (g.R.StateReader.reads l.reader) (ty_of l.item))) 125 brace
      (entry_begins (ElementSays (g.R.StateReader.reads l.reader) (ty_of l.key)) (ElementSays (g.R.StateReader.reads l.reader) (ty_of l.item)) (element_begins (g.R.StateReader.reads l.reader) (ty_of l.key)))
      l.text (step_of l.next) (map pair_of l.entries);
  fits : KeysArePlain (terms.MapTy (ty_of l.key) (ty_of l.item)) → list_all (λ e. fits_plain (ty_of l.key) (value_of e.0) && fits_value (ty_of l.item) (value_of e.1)) l.entries ≡ true;
}

abbrev pub decreases-read_entries-loop-next : goal.decreases-read_entries-loop-next
decreases-read_entries-loop-next g l = size (step_of l.next)

abbrev pub decreases-read_element : goal.decreases-read_element
decreases-read_element g l = 3 * height (ty_of l.ty.now)

abbrev pub decreases-read_items : goal.decreases-read_items
decreases-read_items g l = 3 * height (ty_of l.item.now) + 1

abbrev pub decreases-read_entry : goal.decreases-read_entry
decreases-read_entry g l = 3 * max (height (ty_of l.key.now)) (height (ty_of l.item.now)) + 1

abbrev pub decreases-read_entries : goal.decreases-read_entries
decreases-read_entries g l = 3 * max (height (ty_of l.key.now)) (height (ty_of l.item.now)) + 2
