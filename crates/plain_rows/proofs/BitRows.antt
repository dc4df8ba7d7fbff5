-- Bits of rows are bits of their type.
use Rattle.std.proofs.Common.{◌≡◌, ◌<◌, ◌^◌, ◌∙◌, ℕ, List, [], ◌∷◌, Option, Some, sym, subst}
use Rattle.agg_terms.specs.Chains.{BitOp, Ty}
use Rattle.agg_terms.specs.Lists.{Each}
use Rattle.agg_terms.specs.Values.{Value}
use Rattle.agg_meaning.specs.Feeds.{IfHere}
use Rattle.agg_meaning.specs.Functions.{arg, bit_op, bits_in, bits_of_rows, folded, number}
use Rattle.agg_meaning.proofs.BitLists.{folded_lt, residue_lt}

each_bits : (t : Ty) (L : List (List Value)) → Each (λ n. n < 2 ^ bits_in t) (bits_of_rows t L)
each_bits t [] = tt
each_bits t (r ∷ L) = (residue_lt (bits_in t) (number (arg 0 r)), each_bits t L)

pub folded_within : (op : BitOp) (t : Ty) (L : List (List Value)) (o : Option ℕ) (b : ℕ) →
    o ≡ folded (bit_op op) (bits_of_rows t L) → o ≡ Some b → b < 2 ^ bits_in t
folded_within op t L o b h e =
    subst (IfHere (λ n. n < 2 ^ bits_in t)) (sym h ∙ e) (folded_lt op (bits_in t) (bits_of_rows t L) (each_bits t L))
