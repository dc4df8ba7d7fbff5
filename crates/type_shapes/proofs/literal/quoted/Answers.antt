use Rattle.std.proofs.Common.{◌∙◌, ap, Err}
use Rattle.type_shapes.proofs.OneText.{no_lone_backslash, no_bad_hex}
use Rattle.type_shapes.proofs.literal.quoted.Goals as goal

pub returns-in-Err-LoneBackslash : goal.returns-in-Err-LoneBackslash
returns-in-Err-LoneBackslash c = no_lone_backslash c.law_one_answer.ensures c.args.inside.now _ c.unescape.result (c.in-Err-LoneBackslash.is ∙ ap Err c.in-Err-LoneBackslash.field-0-is) c.unescape.ensures c.requires

pub returns-in-Err-BadHex : goal.returns-in-Err-BadHex
returns-in-Err-BadHex c = no_bad_hex c.law_one_answer.ensures c.args.inside.now _ c.unescape.result (c.in-Err-BadHex.is ∙ ap Err c.in-Err-BadHex.field-0-is) c.unescape.ensures c.requires
