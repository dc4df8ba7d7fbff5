use Rattle.std.proofs.Common.{◌≡◌, false, length}
use Rattle.tsv_values.specs.proving.Reading.{behind_quote}
use Rattle.tsv_values.proofs.quotes.behind_quote.Given as goal

abbrev pub invariant-loop-at : goal.invariant-loop-at
invariant-loop-at l = behind_quote false l.rest ≡ behind_quote false l.text

abbrev pub decreases-loop-at : goal.decreases-loop-at
decreases-loop-at l = length l.rest
