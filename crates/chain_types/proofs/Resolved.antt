-- What the rules allow is legal.
use Rattle.std.proofs.Common.{◌≡◌, true, ℕ, List, Ok}
use Rattle.agg_terms.specs.Chains.{Chain, Ty}
use Rattle.agg_typing.specs.Legal.{are_legal_types}
use Rattle.agg_typing.specs.Literals.{Literal}
use Rattle.agg_typing.specs.Promises.{IsLegalCall}
use Rattle.agg_typing.specs.Typing.{allowed}
use Rattle.agg_typing.proofs.Allowed.{call_is_legal}
use Rattle.pattern_texts.specs.Machine.{pattern_reader}
use Rattle.pattern_texts.proofs.Law.{reader_gives}

-- an allowed chain is legal over legal types
pub allowed_legal : (name : List ℕ) (params : List Literal) (args : List Ty) (c : Chain) →
    allowed pattern_reader name params args ≡ Ok c → are_legal_types args ≡ true → IsLegalCall c args
allowed_legal name params args c h legal = (call_is_legal pattern_reader reader_gives name params args c h, legal)
