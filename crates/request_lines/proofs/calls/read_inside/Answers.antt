use Rattle.request_lines.specs.proving.Letters.{letters_left}
use Rattle.request_lines.proofs.CallsRead.{empty_told, word_told, literal_told}
use Rattle.request_lines.proofs.calls.read_inside.Goals as goal

pub returns-in-Some : goal.returns-in-Some
returns-in-Some c = empty_told c.args.rest c.in-Some.closed c.in-Some.ensures.letters.0 c.read_optional.result c.in-Some.ensures.letters.1 c.in-Some.ensures.further c.read_optional.ensures

pub returns-in-Some-word : goal.returns-in-Some-word
returns-in-Some-word c =
    word_told c.args.rest c.in-Some-word.field-0.word.now c.in-Some-word.field-0.at (letters_left c.in-Some-word.field-0.behind) c.read_without_params.result c.in-Some-word.ensures.letters c.read_without_params.ensures

pub returns-in-None : goal.returns-in-None
returns-in-None c = literal_told c.args.rest c.read_with_params.result c.in_default.ensures.letters c.in-None.ensures.letters c.read_with_params.ensures
