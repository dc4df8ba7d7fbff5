-- A tuple that is read value by value.
use Rattle.std.proofs.Common.{◌≡◌, ◌<◌, ℕ, List, [], ◌∷◌, ◌++◌, length, Ok, Err, refl, sym, ap, ◌∙◌, append_assoc, append-nil, arith}
use Rattle.agg_terms.specs.Chains.{Ty}
use Rattle.agg_terms.specs.Types.{bare}
use Rattle.agg_terms.specs.Values.{Value}
use Rattle.agg_values.specs.declared.links.Peels.{Peels}
use Rattle.agg_values.specs.Peels.{peeled_types}
use Rattle.value_types.specs.declared.ty.Ty.{Ty as Code}
use Rattle.state_codec.specs.Reading.{Read, ◌>>=◌, both_at, made, row_at, value_at}
use Rattle.state_codec.specs.proving.Views.{with_front}

regroup : (front : List Value) (v : Value) (r : Read (List Value)) → with_front front (made (λ (p : Value × List Value). p.0 ∷ p.1) (r >>= λ y. Ok ((v, y.0), y.1))) ≡ with_front (front ++ v ∷ []) r
regroup front v (Ok y) = ap (λ (xs : List Value). Ok (xs, y.1)) (sym (append_assoc front (v ∷ []) y.0))
regroup front v (Err f) = refl

pub row_more : (whole : ℕ) (t : Ty) (ts : List Ty) (front : List Value) (v : Value) (bytes rest : List ℕ) → value_at whole (bare t) bytes ≡ Ok (v, rest)
    → with_front front (row_at whole (t ∷ ts) bytes) ≡ with_front (front ++ v ∷ []) (row_at whole ts rest)
unfolding both_at
row_more whole t ts front v bytes rest e =
    ap (λ (r : Read Value). with_front front (made (λ (p : Value × List Value). p.0 ∷ p.1) (r >>= λ x. row_at whole ts x.1 >>= λ y. Ok ((x.0, y.0), y.1)))) e
    ∙ regroup front v (row_at whole ts rest)

pub row_none : (whole : ℕ) (peels : Peels) (types : List Code) (front : List Value) (bytes : List ℕ) → length types < 1 → with_front front (row_at whole (peeled_types peels types) bytes) ≡ Ok (front, bytes)
row_none whole peels [] front bytes l = ap (λ (xs : List Value). Ok (xs, bytes)) (append-nil front)
row_none whole peels (t ∷ ts) front bytes l = absurd (omega (arith, l))

pub ruleset row_laws = (row_more, row_none)
