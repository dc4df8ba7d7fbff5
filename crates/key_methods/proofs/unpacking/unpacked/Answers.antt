use Rattle.std.proofs.Common.{◌≡◌, ◌≤◌, map, ap, sym, subst, ◌∙◌, arith}
use Rattle.std.specs.Prelude.{IfOk}
use Rattle.std.specs.Int.{bytes_high_first}
use Rattle.value_types.specs.Folds.{ty_of, value_of}
use Rattle.key_methods.specs.proving.Fronts.{values_by}
use Rattle.key_methods.specs.Keys.{IsKey, bytes_of}
use Rattle.key_methods.proofs.SideBySide.{piece, wide_piece}
use Rattle.key_methods.proofs.unpacking.unpacked.Goals as goal

pub returns-in-Small : goal.returns-in-Small
returns-in-Small c =
    let formed : c.in-Small.width ≤ 8 = subst IsKey c.in-Small.is c.requires.key in
    let most : c.from-width.result ≤ 8 = omega (arith, formed, c.from-width.ensures) in
    let bytes = piece c.from-width.result c.in-Small.word c.to_be_bytes-bytes.result most c.to_be_bytes-bytes.ensures
    ∙ ap (λ k. bytes_high_first k c.in-Small.word) c.from-width.ensures ∙ sym (ap bytes_of c.in-Small.is) in
    subst (λ l. IfOk c.values_of.result (λ values. map value_of values ≡ values_by c.args.kind (map ty_of c.args.types.now) l)) bytes c.values_of.ensures

pub returns-in-Wide : goal.returns-in-Wide
returns-in-Wide c =
    let formed : c.in-Wide.width ≤ 16 = subst IsKey c.in-Wide.is c.requires.key in
    let most : c.from-width-in-Wide.result ≤ 16 = omega (arith, formed, c.from-width-in-Wide.ensures) in
    let bytes = wide_piece c.from-width-in-Wide.result c.in-Wide.word c.to_be_bytes-bytes-in-Wide.result most c.to_be_bytes-bytes-in-Wide.ensures
    ∙ ap (λ k. bytes_high_first k c.in-Wide.word) c.from-width-in-Wide.ensures ∙ sym (ap bytes_of c.in-Wide.is) in
    subst (λ l. IfOk c.values_of-in-Wide.result (λ values. map value_of values ≡ values_by c.args.kind (map ty_of c.args.types.now) l)) bytes c.values_of-in-Wide.ensures
