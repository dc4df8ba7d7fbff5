use Rattle.std.proofs.Common.{ap, sym, ◌∙◌}
use Rattle.columns.specs.Rows.{with_rows}
use Rattle.columns.proofs.Rows.{long_joined, rows_joined, typed_joined}
use Rattle.columns.proofs.batch.Batch.append.Goals as goal

pub append_each-requires-clause-types : goal.append_each-requires-clause-types
append_each-requires-clause-types c =
    rw c.deref.ensures.value (ap (λ v. v.types) c.self.view_is ∙ c.requires ∙ sym (ap (λ v. v.types) c.other.view_is))

pub invariant_of-self-2 : goal.invariant_of-self-2
invariant_of-self-2 c =
    let cs = c.self.inside.columns.items in
    let ds = c.other.inside.columns.items in
    let same = ap (λ v. v.types) c.self.view_is ∙ c.requires ∙ sym (ap (λ v. v.types) c.other.view_is) in
    rw (c.in_ok-append_each.ensures.ok, c.deref.ensures.value)
    (long_joined cs ds _ _ c.self.invariant.0 c.other.invariant.0 same, typed_joined cs ds c.self.invariant.1 c.other.invariant.1 same)

pub returns-clause-ok : goal.returns-clause-ok
returns-clause-ok c =
    let cs = c.self.inside.columns.items in
    let ds = c.other.inside.columns.items in
    let same = ap (λ v. v.types) c.self.view_is ∙ c.requires ∙ sym (ap (λ v. v.types) c.other.view_is) in
    rw (c.in_ok-append_each.ensures.ok, c.deref.ensures.value)
    (rows_joined cs ds c.self.inside.count c.other.inside.count c.self.invariant.0 same ∙ (λ i. with_rows (c.self.view_is i) (c.other.view_is i).rows))
