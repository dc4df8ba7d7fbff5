use Rattle.std.proofs.Common.{◌≡◌, ap, sym, ◌∙◌, Ok, rules}
use Rattle.agg_terms.specs.Chains as terms
use Rattle.pattern_texts.specs.Machine.{pattern_reader}
use Rattle.value_types.specs.Folds.{chain_of}
use Rattle.value_types.proofs.FoldLaws.{chain_of-Resample}
use Rattle.chain_params.specs.Literals.{range_of}
use Rattle.chain_params.proofs.Resampled.{resampled}
use Rattle.chain_params.proofs.chains.+read_links.Goals as goal

pub returns-in_ok-of-in-Resample-2 : goal.returns-in_ok-of-in-Resample-2
returns-in_ok-of-in-Resample-2 t c =
    let range = c.in_ok-range-in-Resample.range in
    let whole = resampled pattern_reader c.args.conditions c.args.leaf c.args.further_out range.intervals c.args.suffixes.now _ c.args.params.now
    c.split_at.result.0.now c.split_at.result.1.now c.saturating_sub-before.result (range_of range) (chain_of c.in_ok-of-in-Resample.of)
    c.in-len1-up.len_at_least c.in-Resample.is c.saturating_sub-before.ensures c.split_at.ensures.front c.split_at.ensures.back
    c.in_ok-range-in-Resample.ensures.range c.in_ok-range-in-Resample.ensures.intervals c.in_ok-of-in-Resample.ensures in
    let held = c.in_ok-of-in-Resample-2.of in
    let inside : chain_of c.in_ok-of-in-Resample.of ≡ chain_of held = sym (ap chain_of c.in_ok-of-in-Resample-2.ensures) in
    let built = whole ∙ ap (λ d. Ok (terms.Resample range.start range.end range.step d)) inside ∙ ap Ok (sym (chain_of-Resample held range.start range.end range.step)) in
    search (rules, built)
