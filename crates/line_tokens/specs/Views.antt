-- What a token of the code is in the definitions.
use Rattle.std.specs.Prelude.{ℕ}
use Rattle.line_tokens.specs.Tokens.{word, integer, decimal, quoted, open_bracket, close_bracket, comma, bad, Placed, tokens_of}
use Rattle.line_tokens.specs.Tokens as defined
use Rattle.line_tokens.specs.declared.token.Token.{Token}
use Rattle.line_tokens.specs.declared.token.Token.TheVariants as code

abbrev pub token_seen : Token → defined.Token
token_seen (code.Word text) = word text.now
token_seen (code.Integer text) = integer text.now
token_seen (code.Decimal text) = decimal text.now
token_seen (code.Quoted text) = quoted text.now
token_seen code.OpenBracket = open_bracket
token_seen code.CloseBracket = close_bracket
token_seen code.Comma = comma
token_seen code.Bad = bad

-- A token and its length.
abbrev pub with_length : Token × ℕ → defined.Token × ℕ
with_length t = (token_seen t.0, t.1)
