use Rattle.std.proofs.Common.{◌≡◌, ◌+◌, length, ap, sym, arith, subst, length-append}
use Rattle.std.specs.List.{zip}
use Rattle.column_parts.specs.Cuts.{IsCut}
use Rattle.column_parts.proofs.Cuts.{cut_joined, cuts_joined}
use Rattle.typed_columns.proofs.Entries.{length-entries}
use Rattle.typed_columns.proofs.Growing.{zip-append}
use Rattle.typed_columns.proofs.Masks.{masked_append}
use Rattle.typed_columns.proofs.+append.Goals as goal

pub growth_append::append_nullable-returns-clause-ok : goal.growth_append::append_nullable-returns-clause-ok
growth_append::append_nullable-returns-clause-ok t c =
    rw (c.in_ok-extend_from_slice.ensures.items, c.in_ok-reserve.ensures.items, ap (λ v. v.values) c.in_ok-append.ensures.ok)
    (masked_append c.args.mask.now.items c.args.marks.now c.args.values.now.values c.args.more.now.values c.requires.alike)

pub growth_append::append_lists-returns-in-Ok-clause-cut : goal.growth_append::append_lists-returns-in-Ok-clause-cut
growth_append::append_lists-returns-in-Ok-clause-cut t c =
    let at = c.args.starts.now.items in
    let more = c.args.more.now.values in
    let count : length c.append.new.self.values ≡ length c.args.elements.now.values + length more =
    omega (arith, ap (λ v. length v.values) c.in_ok-append.ensures.ok, length-append c.args.elements.now.values more) in
    rw c.in-Ok.ensures.ok (cut_joined at c.args.places.now c.len-base.result (length more) _ (subst (IsCut at) (sym c.len-base.ensures) c.requires.cut) c.requires.more_cut
    (omega (arith, count, c.len-base.ensures)))

pub growth_append::append_lists-returns-in-Ok-clause-ok : goal.growth_append::append_lists-returns-in-Ok-clause-ok
growth_append::append_lists-returns-in-Ok-clause-ok t c =
    let at = c.args.starts.now.items in
    rw (c.in-Ok.ensures.ok, ap (λ v. v.values) c.in_ok-append.ensures.ok)
    (cuts_joined at c.args.places.now c.args.elements.now.values c.args.more.now.values c.len-base.result c.len-base.ensures
    (subst (IsCut at) (sym c.len-base.ensures) c.requires.cut) c.requires.more_cut)

pub growth_append::append_maps-returns-in-Ok-clause-cut : goal.growth_append::append_maps-returns-in-Ok-clause-cut
growth_append::append_maps-returns-in-Ok-clause-cut t c =
    let at = c.args.starts.now.items in
    let more = c.args.more_keys.now.values in
    let count : length c.append_entries.new.keys.values ≡ length c.args.keys.now.values + length more =
    omega (arith, ap (λ v. length v.values) c.in_ok-append_entries.ensures.keys, length-append c.args.keys.now.values more) in
    rw c.in-Ok.ensures.ok (cut_joined at c.args.places.now c.len-base.result (length more) _ (subst (IsCut at) (sym c.len-base.ensures) c.requires.cut) c.requires.more_cut
    (omega (arith, count, c.len-base.ensures)))

pub growth_append::append_maps-returns-in-Ok-clause-ok : goal.growth_append::append_maps-returns-in-Ok-clause-ok
growth_append::append_maps-returns-in-Ok-clause-ok t c =
    let at = c.args.starts.now.items in
    let ks = c.args.keys.now.values in
    let vs = c.args.values.now.values in
    let ls = c.args.more_keys.now.values in
    let ws = c.args.more.now.values in
    let base : c.len-base.result ≡ length (zip ks vs) = omega (arith, c.len-base.ensures, length-entries ks vs c.requires.alike) in
    rw (c.in-Ok.ensures.ok, ap (λ v. v.values) c.in_ok-append_entries.ensures.keys, ap (λ v. v.values) c.in_ok-append_entries.ensures.values, zip-append ks vs ls ws c.requires.alike)
    (cuts_joined at c.args.places.now (zip ks vs) (zip ls ws) c.len-base.result base
    (subst (IsCut at) (sym c.len-base.ensures) c.requires.cut) (subst (IsCut c.args.places.now) (sym (length-entries ls ws c.requires.more_alike)) c.requires.more_cut))
