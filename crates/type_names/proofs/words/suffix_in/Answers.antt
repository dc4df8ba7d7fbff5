use Rattle.std.proofs.Common.{◌∙◌, ap, nat_eq}
use Rattle.std.specs.List.{starts_with}
use Rattle.agg_typing.specs.Names.{suffix_text}
use Rattle.type_names.proofs.WordsRead.{begins, word-skip}
use Rattle.type_names.proofs.words.suffix_in.Goals as goal

pub returns-then-starts_with : goal.returns-then-starts_with
returns-then-starts_with c =
    let h = begins c.args.text.now c.suffix_name-name.result.now c.starts_with.result c.starts_with.ensures.value c.if-starts_with.true in
    cc (h, c.suffix_name-name.ensures, c.split_at.ensures.back)

pub loop-suffix-preserved : goal.loop-suffix-preserved
loop-suffix-preserved c =
    c.loop-suffix.invariant
    ∙ word-skip suffix_text c.args.words.now c.args.text.now c.loop-suffix.suffix-index _ c.starts_with.result c.loop-suffix-test.true
    (c.starts_with.ensures.value ∙ ap (starts_with nat_eq c.args.text.now) c.suffix_name-name.ensures)
    c.if-starts_with.false
