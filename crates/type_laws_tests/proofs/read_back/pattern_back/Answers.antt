use Rattle.std.proofs.Common.{◌≡◌, arith, rules}
use Rattle.type_texts.specs.PatternTexts.{pattern_text}
use Rattle.value_types.specs.Folds.{pattern_of}
use Rattle.type_laws_tests.proofs.PatternsBack.{IsBack, read_back}
use Rattle.type_laws_tests.proofs.read_back.pattern_back.Goals as goal

pub returns : goal.returns
returns c =
    let p = pattern_of c.args.pattern.now in
    let n = c.args.conditions in
    let text : c.as_slice.result.now ≡ pattern_text p = search rules in
    let back : IsBack p c.read_pattern.result = read_back n p c.as_slice.result.now (pattern_text p) c.read_pattern.result text (c.law_patterns_read_back.ensures n n p c.requires.legal (omega arith)) c.read_pattern.ensures.only in
    record { same = back.same; memory = back.memory }
