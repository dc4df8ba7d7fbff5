use Rattle.std.proofs.Common.{◌∙◌, ap, nat_eq}
use Rattle.std.specs.List.{starts_with}
use Rattle.agg_typing.specs.Names.{function_text}
use Rattle.type_names.proofs.WordsRead.{begins, word-skip}
use Rattle.type_names.proofs.words.function_in.Goals as goal

pub returns-then-starts_with : goal.returns-then-starts_with
returns-then-starts_with c =
    let h = begins c.args.text.now c.function_name-name.result.now c.starts_with.result c.starts_with.ensures.value c.if-starts_with.true in
    cc (h, c.function_name-name.ensures, c.split_at.ensures.back)

pub loop-leaf-preserved : goal.loop-leaf-preserved
loop-leaf-preserved c =
    c.loop-leaf.invariant
    ∙ word-skip function_text c.args.words.now c.args.text.now c.loop-leaf.leaf-index _ c.starts_with.result c.loop-leaf-test.true
    (c.starts_with.ensures.value ∙ ap (starts_with nat_eq c.args.text.now) c.function_name-name.ensures)
    c.if-starts_with.false
