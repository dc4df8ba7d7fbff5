use Rattle.std.proofs.Common.{length, map, reverse, ap, ◌∙◌, arith}
use Rattle.std.proofs.lemmas.List.{length-reverse}
use Rattle.agg_typing.specs.Parameters.{pattern_conditions}
use Rattle.agg_typing.specs.Suffixes.{arguments_reaching}
use Rattle.agg_typing.proofs.Allowed.{read-suffixes_of}
use Rattle.chain_params.specs.Literals.{literal_of}
use Rattle.pattern_texts.specs.Machine.{pattern_reader}
use Rattle.value_types.specs.Folds.{chain_of}
use Rattle.chain_types.proofs.calls.allowed_shape.Goals as goal

pub arg_count-requires : goal.arg_count-requires
arg_count-requires c =
    let suffixes = c.as_slice-suffixes.result.now in
    let same = read-suffixes_of pattern_reader (pattern_conditions (arguments_reaching (reverse suffixes) (length c.args.args.now))) c.args.shape.now.leaf
    (reverse suffixes) 1 (map literal_of c.args.params.now) (chain_of c.in_ok-chain.chain) c.in_ok-chain.ensures in
    let long = ap length same ∙ length-reverse suffixes ∙ ap length c.as_slice-suffixes.ensures in
    omega (arith, long, c.requires.suffixes)
