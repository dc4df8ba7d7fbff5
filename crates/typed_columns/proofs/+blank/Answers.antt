use Rattle.std.proofs.Common.{[], length, map, arith, ap, sym, ◌∙◌, subst}
use Rattle.std.specs.List.{zip}
use Rattle.value_types.specs.Folds.{ty_of}
use Rattle.value_types.specs.declared.value.Value.TheVariants as form
use Rattle.value_types.specs.declared.value.Tree.TheVariants as tree
use Rattle.column_parts.specs.Cuts.{cuts, IsCut}
use Rattle.column_parts.proofs.Cuts.{cut_push, push_mapped}
use Rattle.typed_columns.specs.Growth.{blank}
use Rattle.typed_columns.specs.Views.{IsFormed, view_of}
use Rattle.typed_columns.specs.declared.column.Kind.TheVariants as kind
use Rattle.typed_columns.proofs.Entries.{length-entries}
use Rattle.typed_columns.proofs.Growing.{blank-Arr, blank-Map, blank-State, blank_added, none_pushed}
use Rattle.typed_columns.proofs.Masks.{masked_push_nil}
use Rattle.typed_columns.proofs.+blank.Goals as goal

pub column::Column::push_blank-invariant_of-self-in-Lists : goal.column::Column::push_blank-invariant_of-self-in-Lists
column::Column::push_blank-invariant_of-self-in-Lists t c =
    rw c.in_ok-push-in-Lists.ensures.items
    (cut_push c.in-Lists.starts.items (length c.in-Lists.elements.value.values) c.len.result _ (subst IsFormed c.in-Lists.is c.self.invariant)
    (omega (arith, c.len.ensures, ap (λ v. length v.values) c.deref.ensures)) (omega (arith, c.len.ensures, ap (λ v. length v.values) c.deref.ensures)))

pub column::Column::push_blank-returns-in-Lists-clause-ok : goal.column::Column::push_blank-returns-in-Lists-clause-ok
column::Column::push_blank-returns-in-Lists-clause-ok t c =
    let xs = c.in-Lists.elements.value.values in
    blank_added (view_of (kind.Lists c.in-Lists.starts c.in-Lists.elements)) c.args.self.now (form.List []) _
    (ap view_of (sym c.in-Lists.is) ∙ c.self.view_is) (blank-Arr c.in-Lists.elements.value.ty)
    (ap (λ at. map form.List (cuts at xs)) c.in_ok-push-in-Lists.ensures.items
    ∙ none_pushed form.List c.in-Lists.starts.items xs c.len.result (subst IsFormed c.in-Lists.is c.self.invariant)
    (omega (arith, c.len.ensures, ap (λ v. length v.values) c.deref.ensures)))

pub column::Column::push_blank-invariant_of-self-in-Maps : goal.column::Column::push_blank-invariant_of-self-in-Maps
column::Column::push_blank-invariant_of-self-in-Maps t c =
    let formed = subst IsFormed c.in-Maps.is c.self.invariant in (
      rw c.in_ok-push-in-Maps.ensures.items
          (cut_push c.in-Maps.starts.items (length c.in-Maps.keys.value.values) c.len-in-Maps.result _ formed.0
          (omega (arith, c.len-in-Maps.ensures, ap (λ v. length v.values) c.deref-in-Maps.ensures)) (omega (arith, c.len-in-Maps.ensures, ap (λ v. length v.values) c.deref-in-Maps.ensures))),
      formed.1,
    )

pub column::Column::push_blank-returns-in-Maps-clause-ok : goal.column::Column::push_blank-returns-in-Maps-clause-ok
column::Column::push_blank-returns-in-Maps-clause-ok t c =
    let formed = subst IsFormed c.in-Maps.is c.self.invariant in
    let ks = c.in-Maps.keys.value.values in
    let vs = c.in-Maps.field-2.value.values in
    let same = length-entries ks vs formed.1 in
    blank_added (view_of (kind.Maps c.in-Maps.starts c.in-Maps.keys c.in-Maps.field-2)) c.args.self.now (form.Pairs []) _
    (ap view_of (sym c.in-Maps.is) ∙ c.self.view_is) (blank-Map c.in-Maps.keys.value.ty c.in-Maps.field-2.value.ty)
    (ap (λ at. map form.Pairs (cuts at (zip ks vs))) c.in_ok-push-in-Maps.ensures.items
    ∙ none_pushed form.Pairs c.in-Maps.starts.items (zip ks vs) c.len-in-Maps.result (subst (IsCut c.in-Maps.starts.items) (sym same) formed.0)
    (omega (arith, same, c.len-in-Maps.ensures, ap (λ v. length v.values) c.deref-in-Maps.ensures)))

pub column::Column::push_blank-returns-in-Cells-clause-ok : goal.column::Column::push_blank-returns-in-Cells-clause-ok
column::Column::push_blank-returns-in-Cells-clause-ok t c =
    blank_added (view_of (kind.Cells c.in-Cells.field-0 c.in-Cells.field-1 c.in-Cells.trees)) c.args.self.now (form.Cell tree.Empty) _
    (ap view_of (sym c.in-Cells.is) ∙ c.self.view_is) (blank-State c.in-Cells.field-0 c.in-Cells.field-1)
    (push_mapped form.Cell c.in-Cells.trees.items c.push-in-Cells.new.self.items tree.Empty c.in_ok-push-in-Cells.ensures.items)

pub growth_blank::push_null_to-returns-clause-ok : goal.growth_blank::push_null_to-returns-clause-ok
growth_blank::push_null_to-returns-clause-ok t c =
    rw (c.in_ok-push.ensures.items, c.in_ok-reserve.ensures.items, ap (λ v. v.values) c.in_ok-push_blank.ensures.ok)
    (masked_push_nil c.args.mask.now.items c.args.values.now.values (blank (ty_of c.args.values.now.ty)) c.requires.alike)
