use Rattle.std.proofs.Common.{ap, ◌∙◌}
use Rattle.value_types.specs.Folds.{chain_of}
use Rattle.agg_terms.specs.declared.words.Suffix.{Suffix}
use Rattle.type_texts.proofs.NamesRead.{IsUnder, under_of, written, under_if, under_array, under_map, under_for_each, under_or_null, under_or_default, under_distinct, under_state, under_merge, under_resample}
use Rattle.type_texts.proofs.chain_names.+write_chain.Goals as goal
use Rattle.type_texts.proofs.chain_names.+write_chain.Goals.{in-If, in-Array, in-MapOf, in-ForEach, in-OrNull, in-OrDefault, in-Distinct, in-Resample, in-State, in-Merge}

pub returns : goal.returns
returns t c =
    let under : IsUnder (chain_of c.args.chain.now) (chain_of c.get.result.now) c.match-chain.suffix.1 = elim c.match-chain.branch [
      | in-If w ↦ under_of _ _ _ w.in-If.inner _ Suffix.If w.in-If.is (c.get.ensures ∙ ap (λ p. p.0.now) w.suffix-is) (ap (λ p. p.1) w.suffix-is) (under_if w.in-If.inner)
      | in-Array w ↦ under_of _ _ _ w.in-Array.inner _ Suffix.Array w.in-Array.is (c.get.ensures ∙ ap (λ p. p.0.now) w.suffix-is) (ap (λ p. p.1) w.suffix-is) (under_array w.in-Array.inner)
      | in-MapOf w ↦ under_of _ _ _ w.in-MapOf.inner _ Suffix.MapOf w.in-MapOf.is (c.get.ensures ∙ ap (λ p. p.0.now) w.suffix-is) (ap (λ p. p.1) w.suffix-is) (under_map w.in-MapOf.inner)
      | in-ForEach w ↦ under_of _ _ _ w.in-ForEach.inner _ Suffix.ForEach w.in-ForEach.is (c.get.ensures ∙ ap (λ p. p.0.now) w.suffix-is) (ap (λ p. p.1) w.suffix-is) (under_for_each w.in-ForEach.inner)
      | in-OrNull w ↦ under_of _ _ _ w.in-OrNull.inner _ Suffix.OrNull w.in-OrNull.is (c.get.ensures ∙ ap (λ p. p.0.now) w.suffix-is) (ap (λ p. p.1) w.suffix-is) (under_or_null w.in-OrNull.inner)
      | in-OrDefault w ↦ under_of _ _ _ w.in-OrDefault.inner _ Suffix.OrDefault w.in-OrDefault.is (c.get.ensures ∙ ap (λ p. p.0.now) w.suffix-is) (ap (λ p. p.1) w.suffix-is) (under_or_default w.in-OrDefault.inner)
      | in-Distinct w ↦ under_of _ _ _ w.in-Distinct.inner _ Suffix.Distinct w.in-Distinct.is (c.get.ensures ∙ ap (λ p. p.0.now) w.suffix-is) (ap (λ p. p.1) w.suffix-is) (under_distinct w.in-Distinct.inner)
      | in-Resample w ↦ under_of _ _ _ w.in-Resample.inner _ Suffix.Resample w.in-Resample.is (c.get.ensures ∙ ap (λ p. p.0.now) w.suffix-is) (ap (λ p. p.1) w.suffix-is) (under_resample _ _ _ w.in-Resample.inner)
      | in-State w ↦ under_of _ _ _ w.in-State.inner _ Suffix.State w.in-State.is (c.get.ensures ∙ ap (λ p. p.0.now) w.suffix-is) (ap (λ p. p.1) w.suffix-is) (under_state w.in-State.inner)
      | in-Merge w ↦ under_of _ _ _ w.in-Merge.inner _ Suffix.Merge w.in-Merge.is (c.get.ensures ∙ ap (λ p. p.0.now) w.suffix-is) (ap (λ p. p.1) w.suffix-is) (under_merge w.in-Merge.inner)
    ] in
    written _ _ _ _ c.extend_from_slice-2.result _ _ c.match-chain.suffix.1 under c.in_ok-write_chain.ensures c.suffix_name.ensures c.extend_from_slice-2.ensures.ok
