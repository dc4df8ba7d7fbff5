use Rattle.line_tokens.proofs.Quotes.{IsWithin}
use Rattle.line_tokens.proofs.quote.quoted_length.Given as goal

abbrev pub invariant-loop-byte : goal.invariant-loop-byte
invariant-loop-byte l = IsWithin l.text l.within l.count l.byte-index
