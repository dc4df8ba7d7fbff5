-- A name with too many suffixes.
use Rattle.std.proofs.Common.{◌≡◌, ℕ, List, length, reverse, Result, Ok, Err, false, nat_le, arith}
use Rattle.std.proofs.lemmas.List.{length-reverse}
use Rattle.std.proofs.lemmas.Bool.{lt-leb}
use Rattle.agg_terms.specs.Chains.{Ty}
use Rattle.agg_typing.specs.Faults.{TooManySuffixes, and_then}
use Rattle.agg_typing.specs.Literals.{Literal}
use Rattle.agg_typing.specs.Names.{Shape}
use Rattle.agg_typing.specs.Parameters.{PatternReader}
use Rattle.agg_typing.specs.Typing as rules
use Rattle.type_names.specs.Reads.{HasTooMany}

pub too_long : (reads : PatternReader) (params : List Literal) (args : List Ty) (r : Result Shape ℕ) → HasTooMany r →
    and_then (rules.known_name r) (λ (shape : Shape). rules.allowed_shape reads shape params args) ≡ Err TooManySuffixes
too_long reads params args (Ok shape) h =
    let long : length (reverse shape.suffixes) ≡ length shape.suffixes = length-reverse shape.suffixes in
    let no : nat_le (length (reverse shape.suffixes)) 8 ≡ false = lt-leb (length (reverse shape.suffixes)) 8 (omega (arith, h)) in
    rw no
too_long reads params args (Err at) h = absurd h
