use Rattle.std.proofs.Common.{◌≡◌, drop}
use Rattle.agg_typing.specs.Names.{function_text, word_of}
use Rattle.type_names.proofs.words.function_in.Given as goal

abbrev pub invariant-loop-leaf : goal.invariant-loop-leaf
invariant-loop-leaf l =
    word_of function_text l.words l.text ≡ word_of function_text (drop l.leaf-index l.words) l.text
