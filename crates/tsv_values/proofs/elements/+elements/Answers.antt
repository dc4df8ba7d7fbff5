use Rattle.std.proofs.Common.{◌≡◌, true, ◌&&◌, Bool, map, ap, subst, sym, ◌∙◌}
use Rattle.std.specs.List.{list_all}
use Rattle.agg_terms.specs.Fitting.{fits_plain, fits_value}
use Rattle.value_types.specs.declared.ty.Ty.TheVariants as ty
use Rattle.value_types.specs.declared.value.Value.{Value}
use Rattle.value_types.specs.Folds.{ty_of, value_of}
use Rattle.tsv_values.specs.declared.found.Missing.TheVariants.{Nothing}
use Rattle.tsv_values.specs.Elements.{ElementSays, EntrySays}
use Rattle.tsv_values.specs.proving.Steps.{step_of}
use Rattle.tsv_values.proofs.Beginnings.{element_begins, entry_begins}
use Rattle.tsv_values.proofs.ElementKinds.{array_found, array_missing, at_Arr, at_Map, at_State, at_Str, at_filled, at_null, map_found, map_missing, pair_of}
use Rattle.tsv_values.proofs.Entries.{entry_found, no_colon, no_key, no_value}
use Rattle.tsv_values.proofs.Fits.{entry_fits, fits_list, fits_pairs}
use Rattle.tsv_values.proofs.Lists.{brace, bracket}
use Rattle.tsv_values.proofs.Turns.{all_more, begun_at, end_at, less_at, map_more, neither_at, neither_is, stop_at, turn}
use Rattle.tsv_values.proofs.elements.+elements.Goals as goal

pub read_element-returns-in-Str-clause-read : goal.read_element-returns-in-Str-clause-read
read_element-returns-in-Str-clause-read g t c = at_Str (g.R.StateReader.reads c.args.reader.now) c.args.ty.now c.args.text.now c.string.result c.in-Str.is c.string.ensures.read

pub read_element-returns-in-Some-clause-read : goal.read_element-returns-in-Some-clause-read
read_element-returns-in-Some-clause-read g t c = at_null (g.R.StateReader.reads c.args.reader.now) c.args.ty.now c.args.text.now c.in-Nullable.of c.in-Some.rest.now c.in-Nullable.is (sym c.in-Some.ensures)

pub read_element-returns-in-None-clause-read : goal.read_element-returns-in-None-clause-read
read_element-returns-in-None-clause-read g t c =
    at_filled (g.R.StateReader.reads c.args.reader.now) c.args.ty.now c.args.text.now c.read_element.result c.get.result.now (c.in-Nullable.is ∙ ap ty.Nullable (sym c.get.ensures)) (sym c.in-None.ensures) c.read_element.ensures.read

pub read_element-returns-in-Some-behind-clause-read : goal.read_element-returns-in-Some-behind-clause-read
read_element-returns-in-Some-behind-clause-read g t c =
    at_Arr (g.R.StateReader.reads c.args.reader.now) c.args.ty.now c.args.text.now c.read_items.result c.get-in-Some-behind.result.now c.in-Some-behind.inside.now
    (c.in-Arr.is ∙ ap ty.Arr (sym c.get-in-Some-behind.ensures)) (sym c.in-Some-behind.ensures) c.read_items.ensures.read

pub read_element-returns-in-Some-behind-2-clause-read : goal.read_element-returns-in-Some-behind-2-clause-read
read_element-returns-in-Some-behind-2-clause-read g t c =
    at_Map (g.R.StateReader.reads c.args.reader.now) c.args.ty.now c.args.text.now c.read_entries.result c.get-in-Some-behind-2.result.now c.get-in-Some-behind-2-2.result.now c.in-Some-behind-2.inside.now
    (c.in-Map.is ∙ ap (λ u. ty.Map u c.in-Map.item) (sym c.get-in-Some-behind-2.ensures) ∙ ap (λ u. ty.Map c.get-in-Some-behind-2.result.now u) (sym c.get-in-Some-behind-2-2.ensures)) (sym c.in-Some-behind-2.ensures) c.read_entries.ensures.read

pub read_element-returns-in-I8-clause-read : goal.read_element-returns-in-I8-clause-read
read_element-returns-in-I8-clause-read g t c = c.number.ensures.read (g.R.StateReader.reads c.args.reader.now)

pub read_element-returns-in-U8-clause-read : goal.read_element-returns-in-U8-clause-read
read_element-returns-in-U8-clause-read g t c = c.number-in-U8.ensures.read (g.R.StateReader.reads c.args.reader.now)

pub read_element-returns-in-State-clause-read : goal.read_element-returns-in-State-clause-read
read_element-returns-in-State-clause-read g t c = at_State (g.R.StateReader.reads c.args.reader.now) c.args.ty.now c.args.text.now c.state.result _ _ c.in-State.is c.state.ensures.read

pub read_items-loop-next-init : goal.read_items-loop-next-init
read_items-loop-next-init g t c = record {
  so = begun_at (ElementSays (g.R.StateReader.reads c.args.reader.now) (ty_of c.args.item.now)) 93 bracket (element_begins (g.R.StateReader.reads c.args.reader.now) (ty_of c.args.item.now)) c.args.text.now (step_of c.first-next.result) (map value_of c.new-items.result) c.first-next.ensures (ap (map value_of) c.new-items.ensures);
  fits = λ plain. ap (list_all (λ v. fits_value (ty_of c.args.item.now) (value_of v))) c.new-items.ensures;
}

pub read_items-loop-next-smaller : goal.read_items-loop-next-smaller
read_items-loop-next-smaller g t c =
    less_at (ElementSays (g.R.StateReader.reads c.args.reader.now) (ty_of c.args.item.now)) 93 c.in-OneMore.at.now c.in-Ok.field-0.rest.now _ (step_of c.loop-next.next) (step_of c.more-next.result) (ap step_of c.in-OneMore.is) c.in-Ok.ensures.read c.more-next.ensures

pub read_items-loop-next-preserved : goal.read_items-loop-next-preserved
read_items-loop-next-preserved g t c = record {
  so = turn (ElementSays (g.R.StateReader.reads c.args.reader.now) (ty_of c.args.item.now)) 93 bracket (element_begins (g.R.StateReader.reads c.args.reader.now) (ty_of c.args.item.now)) c.args.text.now (step_of c.loop-next.next) (step_of c.more-next.result) (map value_of c.loop-next.items) (map value_of c.push.new.self) c.in-OneMore.at.now c.in-Ok.field-0.rest.now (value_of c.in-Ok.field-0.value)
      c.loop-next.invariant.so (ap step_of c.in-OneMore.is) c.in-Ok.ensures.read c.more-next.ensures (map_more value_of c.loop-next.items c.push.new.self c.in-Ok.field-0.value c.in_ok-push-in-Ok.ensures.ok);
  fits = λ plain.
      let test : Value → Bool = (λ v. fits_value (ty_of c.args.item.now) (value_of v)) in
      subst (λ ys. list_all test ys ≡ true) (sym c.in_ok-push-in-Ok.ensures.ok) (all_more test c.loop-next.items c.in-Ok.field-0.value (c.loop-next.invariant.fits plain) (c.in-Ok.ensures.fits plain));
}

pub read_items-returns-in-Err-clause-read : goal.read_items-returns-in-Err-clause-read
read_items-returns-in-Err-clause-read g t c =
    array_missing (ElementSays (g.R.StateReader.reads c.args.reader.now) (ty_of c.args.item.now)) c.args.text.now c.in-Err.missing
    (stop_at (ElementSays (g.R.StateReader.reads c.args.reader.now) (ty_of c.args.item.now)) 93 bracket (element_begins (g.R.StateReader.reads c.args.reader.now) (ty_of c.args.item.now)) c.args.text.now (step_of c.loop-next.next) (map value_of c.loop-next.items) c.in-OneMore.at.now c.in-Err.missing c.loop-next.invariant.so (ap step_of c.in-OneMore.is) c.in-Err.ensures.read)

pub read_items-returns-in-End : goal.read_items-returns-in-End
read_items-returns-in-End g t c = record {
  read = array_found (ElementSays (g.R.StateReader.reads c.args.reader.now) (ty_of c.args.item.now)) c.args.text.now c.loop-next.items c.in-End.rest.now (end_at (ElementSays (g.R.StateReader.reads c.args.reader.now) (ty_of c.args.item.now)) 93 bracket (element_begins (g.R.StateReader.reads c.args.reader.now) (ty_of c.args.item.now)) c.args.text.now (step_of c.loop-next.next) (map value_of c.loop-next.items) c.in-End.rest.now c.loop-next.invariant.so (ap step_of c.in-End.is));
  fits = λ plain. fits_list (ty_of c.args.item.now) c.loop-next.items (c.loop-next.invariant.fits plain);
}

pub read_items-returns : goal.read_items-returns
read_items-returns g t c = record {
  read = array_missing (ElementSays (g.R.StateReader.reads c.args.reader.now) (ty_of c.args.item.now)) c.args.text.now Nothing
      (neither_at (ElementSays (g.R.StateReader.reads c.args.reader.now) (ty_of c.args.item.now)) 93 bracket (element_begins (g.R.StateReader.reads c.args.reader.now) (ty_of c.args.item.now)) c.args.text.now (step_of c.loop-next.next) (map value_of c.loop-next.items) c.loop-next.invariant.so (neither_is c.loop-next.next c.in_default.not-OneMore c.in_default-next.not-End));
  fits = λ plain. tt;
}

pub read_entries-loop-next-init : goal.read_entries-loop-next-init
read_entries-loop-next-init g t c = record {
  so = begun_at (EntrySays (ElementSays (g.R.StateReader.reads c.args.reader.now) (ty_of c.args.key.now)) (ElementSays (g.R.StateReader.reads c.args.reader.now) (ty_of c.args.item.now))) 125 brace (entry_begins (ElementSays (g.R.StateReader.reads c.args.reader.now) (ty_of c.args.key.now)) (ElementSays (g.R.StateReader.reads c.args.reader.now) (ty_of c.args.item.now)) (element_begins (g.R.StateReader.reads c.args.reader.now) (ty_of c.args.key.now))) c.args.text.now (step_of c.first-next.result) (map pair_of c.new-entries.result) c.first-next.ensures (ap (map pair_of) c.new-entries.ensures);
  fits = λ plain. ap (list_all (λ e. fits_plain (ty_of c.args.key.now) (value_of e.0) && fits_value (ty_of c.args.item.now) (value_of e.1))) c.new-entries.ensures;
}

pub read_entries-loop-next-smaller : goal.read_entries-loop-next-smaller
read_entries-loop-next-smaller g t c =
    less_at (EntrySays (ElementSays (g.R.StateReader.reads c.args.reader.now) (ty_of c.args.key.now)) (ElementSays (g.R.StateReader.reads c.args.reader.now) (ty_of c.args.item.now))) 125 c.in-OneMore.at.now c.in-Ok.field-0.rest.now _ (step_of c.loop-next.next) (step_of c.more-next.result) (ap step_of c.in-OneMore.is) c.in-Ok.ensures.read c.more-next.ensures

pub read_entries-loop-next-preserved : goal.read_entries-loop-next-preserved
read_entries-loop-next-preserved g t c = record {
  so = turn (EntrySays (ElementSays (g.R.StateReader.reads c.args.reader.now) (ty_of c.args.key.now)) (ElementSays (g.R.StateReader.reads c.args.reader.now) (ty_of c.args.item.now))) 125 brace (entry_begins (ElementSays (g.R.StateReader.reads c.args.reader.now) (ty_of c.args.key.now)) (ElementSays (g.R.StateReader.reads c.args.reader.now) (ty_of c.args.item.now)) (element_begins (g.R.StateReader.reads c.args.reader.now) (ty_of c.args.key.now))) c.args.text.now (step_of c.loop-next.next) (step_of c.more-next.result) (map pair_of c.loop-next.entries) (map pair_of c.push.new.self) c.in-OneMore.at.now c.in-Ok.field-0.rest.now (pair_of (c.in-Ok.field-0.key, c.in-Ok.field-0.value))
      c.loop-next.invariant.so (ap step_of c.in-OneMore.is) c.in-Ok.ensures.read c.more-next.ensures (map_more pair_of c.loop-next.entries c.push.new.self (c.in-Ok.field-0.key, c.in-Ok.field-0.value) c.in_ok-push-in-Ok.ensures.ok);
  fits = λ plain.
      let test : Value × Value → Bool = (λ e. fits_plain (ty_of c.args.key.now) (value_of e.0) && fits_value (ty_of c.args.item.now) (value_of e.1)) in
      subst (λ ys. list_all test ys ≡ true) (sym c.in_ok-push-in-Ok.ensures.ok) (all_more test c.loop-next.entries (c.in-Ok.field-0.key, c.in-Ok.field-0.value) (c.loop-next.invariant.fits plain) (c.in-Ok.ensures.fits plain));
}

pub read_entries-returns-in-Err-clause-read : goal.read_entries-returns-in-Err-clause-read
read_entries-returns-in-Err-clause-read g t c =
    map_missing (ElementSays (g.R.StateReader.reads c.args.reader.now) (ty_of c.args.key.now)) (ElementSays (g.R.StateReader.reads c.args.reader.now) (ty_of c.args.item.now)) c.args.text.now c.in-Err.missing
    (stop_at (EntrySays (ElementSays (g.R.StateReader.reads c.args.reader.now) (ty_of c.args.key.now)) (ElementSays (g.R.StateReader.reads c.args.reader.now) (ty_of c.args.item.now))) 125 brace (entry_begins (ElementSays (g.R.StateReader.reads c.args.reader.now) (ty_of c.args.key.now)) (ElementSays (g.R.StateReader.reads c.args.reader.now) (ty_of c.args.item.now)) (element_begins (g.R.StateReader.reads c.args.reader.now) (ty_of c.args.key.now))) c.args.text.now (step_of c.loop-next.next) (map pair_of c.loop-next.entries) c.in-OneMore.at.now c.in-Err.missing c.loop-next.invariant.so (ap step_of c.in-OneMore.is) c.in-Err.ensures.read)

pub read_entries-returns-in-End : goal.read_entries-returns-in-End
read_entries-returns-in-End g t c = record {
  read = map_found (ElementSays (g.R.StateReader.reads c.args.reader.now) (ty_of c.args.key.now)) (ElementSays (g.R.StateReader.reads c.args.reader.now) (ty_of c.args.item.now)) c.args.text.now c.loop-next.entries c.in-End.rest.now (end_at (EntrySays (ElementSays (g.R.StateReader.reads c.args.reader.now) (ty_of c.args.key.now)) (ElementSays (g.R.StateReader.reads c.args.reader.now) (ty_of c.args.item.now))) 125 brace (entry_begins (ElementSays (g.R.StateReader.reads c.args.reader.now) (ty_of c.args.key.now)) (ElementSays (g.R.StateReader.reads c.args.reader.now) (ty_of c.args.item.now)) (element_begins (g.R.StateReader.reads c.args.reader.now) (ty_of c.args.key.now))) c.args.text.now (step_of c.loop-next.next) (map pair_of c.loop-next.entries) c.in-End.rest.now c.loop-next.invariant.so (ap step_of c.in-End.is));
  fits = λ plain. fits_pairs (ty_of c.args.key.now) (ty_of c.args.item.now) c.loop-next.entries (c.loop-next.invariant.fits plain);
}

pub read_entries-returns : goal.read_entries-returns
read_entries-returns g t c = record {
  read = map_missing (ElementSays (g.R.StateReader.reads c.args.reader.now) (ty_of c.args.key.now)) (ElementSays (g.R.StateReader.reads c.args.reader.now) (ty_of c.args.item.now)) c.args.text.now Nothing
      (neither_at (EntrySays (ElementSays (g.R.StateReader.reads c.args.reader.now) (ty_of c.args.key.now)) (ElementSays (g.R.StateReader.reads c.args.reader.now) (ty_of c.args.item.now))) 125 brace (entry_begins (ElementSays (g.R.StateReader.reads c.args.reader.now) (ty_of c.args.key.now)) (ElementSays (g.R.StateReader.reads c.args.reader.now) (ty_of c.args.item.now)) (element_begins (g.R.StateReader.reads c.args.reader.now) (ty_of c.args.key.now))) c.args.text.now (step_of c.loop-next.next) (map pair_of c.loop-next.entries) c.loop-next.invariant.so (neither_is c.loop-next.next c.in_default.not-OneMore c.in_default-next.not-End));
  fits = λ plain. tt;
}

pub read_entry-returns-in-Err-clause-read : goal.read_entry-returns-in-Err-clause-read
read_entry-returns-in-Err-clause-read g t c = no_key (ElementSays (g.R.StateReader.reads c.args.reader.now) (ty_of c.args.key.now)) (ElementSays (g.R.StateReader.reads c.args.reader.now) (ty_of c.args.item.now)) (element_begins (g.R.StateReader.reads c.args.reader.now) (ty_of c.args.item.now)) c.args.text.now c.in-Err.missing c.in-Err.ensures.read

pub read_entry-returns-in_default-clause-read : goal.read_entry-returns-in_default-clause-read
read_entry-returns-in_default-clause-read g t c = no_colon (ElementSays (g.R.StateReader.reads c.args.reader.now) (ty_of c.args.key.now)) (ElementSays (g.R.StateReader.reads c.args.reader.now) (ty_of c.args.item.now)) (element_begins (g.R.StateReader.reads c.args.reader.now) (ty_of c.args.item.now)) c.args.text.now c.in-Ok.field-0.rest.now (value_of c.in-Ok.field-0.value) c.in-Ok.ensures.read (sym c.in_default.ensures)

pub read_entry-returns-in-Ok-read_element-clause-read : goal.read_entry-returns-in-Ok-read_element-clause-read
read_entry-returns-in-Ok-read_element-clause-read g t c =
    entry_found (ElementSays (g.R.StateReader.reads c.args.reader.now) (ty_of c.args.key.now)) (ElementSays (g.R.StateReader.reads c.args.reader.now) (ty_of c.args.item.now)) (element_begins (g.R.StateReader.reads c.args.reader.now) (ty_of c.args.item.now)) c.args.text.now c.in-Ok.field-0.rest.now (value_of c.in-Ok.field-0.value) c.in-Ok.ensures.read c.in-Some.rest.now c.in-Ok-read_element.field-0.rest.now (value_of c.in-Ok-read_element.field-0.value) (sym c.in-Some.ensures) c.in-Ok-read_element.ensures.read

pub read_entry-returns-in-Ok-read_element-clause-fits : goal.read_entry-returns-in-Ok-read_element-clause-fits
read_entry-returns-in-Ok-read_element-clause-fits g t c = λ plain.
    entry_fits (ty_of c.args.key.now) (ty_of c.args.item.now) (value_of c.in-Ok.field-0.value) (value_of c.in-Ok-read_element.field-0.value) plain c.in-Ok.ensures.fits c.in-Ok-read_element.ensures.fits

pub read_entry-returns-in-Err-read_element-clause-read : goal.read_entry-returns-in-Err-read_element-clause-read
read_entry-returns-in-Err-read_element-clause-read g t c =
    no_value (ElementSays (g.R.StateReader.reads c.args.reader.now) (ty_of c.args.key.now)) (ElementSays (g.R.StateReader.reads c.args.reader.now) (ty_of c.args.item.now)) (element_begins (g.R.StateReader.reads c.args.reader.now) (ty_of c.args.item.now)) c.args.text.now c.in-Ok.field-0.rest.now (value_of c.in-Ok.field-0.value) c.in-Ok.ensures.read c.in-Some.rest.now c.in-Err-read_element.missing (sym c.in-Some.ensures) c.in-Err-read_element.ensures.read
