use Rattle.std.proofs.Common.{◌≡◌, drop}
use Rattle.agg_typing.specs.Names.{suffix_text, word_of}
use Rattle.type_names.proofs.words.suffix_in.Given as goal

abbrev pub invariant-loop-suffix : goal.invariant-loop-suffix
invariant-loop-suffix l =
    word_of suffix_text l.words l.text ≡ word_of suffix_text (drop l.suffix-index l.words) l.text
