-- A Resample outside a chain that was read.
use Rattle.std.proofs.Common.{◌≡◌, ap, sym, ◌∙◌, ℕ, zero, suc, ◌+◌, ◌-◌, ◌*◌, ◌<◌, List, [], ◌∷◌, ◌++◌, length, get_or, take, drop, reverse, map, Result, Ok, refl, arith}
use Rattle.std.proofs.lemmas.List.{reverse-append, length-map, take-map, drop-map}
use Rattle.agg_terms.specs.declared.words.LeafName.{LeafName}
use Rattle.agg_terms.specs.declared.words.Suffix.{Suffix}
use Rattle.agg_terms.specs.Chains as terms
use Rattle.agg_typing.specs.Faults.{Fault, and_then}
use Rattle.agg_typing.specs.Parameters.{PatternReader, Range, interval_count, read_range, read_chain}
use Rattle.value_types.specs.declared.literal.Literal.{Literal}
use Rattle.chain_params.specs.Literals.{literal_of}

snoc : {X : Type 0} (ss : List X) (n : ℕ) (d : X) → length ss ≡ suc n → ss ≡ take n ss ++ (get_or ss n d ∷ [])
snoc [] n d h = cc h
snoc (x ∷ []) zero d h = refl
snoc (x ∷ []) (suc n) d h = absurd (omega arith)
snoc (x ∷ y ∷ ys) zero d h = absurd (omega arith)
snoc (x ∷ y ∷ ys) (suc n) d h = let k : length (y ∷ ys) ≡ suc n = omega arith in ap (λ z. x ∷ z) (snoc (y ∷ ys) n d k)

-- the last of a list is the first from behind
outermost : {X : Type 0} (ss : List X) (d : X) → 0 < length ss → reverse ss ≡ get_or ss (length ss - 1) d ∷ reverse (take (length ss - 1) ss)
outermost ss d h =
    let n : ℕ = length ss - 1 in
    let k : length ss ≡ suc n = omega arith in
    ap reverse (snoc ss n d k) ∙ reverse-append (take n ss) (get_or ss n d ∷ [])

then_is : (r : Result Range Fault) (range : Range) (next : Range → Result terms.Chain Fault) (c : terms.Chain) →
    r ≡ Ok range → next range ≡ Ok c → and_then r next ≡ Ok c
then_is r range next c h g = rw h g

chain_is : (r : Result terms.Chain Fault) (c : terms.Chain) (next : terms.Chain → terms.Chain) → r ≡ Ok c →
    and_then r (λ (d : terms.Chain). Ok (next d)) ≡ Ok (next c)
chain_is r c next h = rw h

-- the outermost Resample has the last three parameters, and the chain inside the front
under_resample : (reads : PatternReader) (n : ℕ) (f : LeafName) (o p : ℕ) (inner : List Suffix) (ps own last : List Literal) (m : ℕ) (range : Range)
    (c : terms.Chain) → m ≡ length ps - 3 → own ≡ take m ps → last ≡ drop m ps → read_range o m (map literal_of last) ≡ Ok range →
    p ≡ o * interval_count range → read_chain reads n f p inner (map literal_of own) ≡ Ok c →
    read_chain reads n f o (Suffix.Resample ∷ inner) (map literal_of ps) ≡ Ok (terms.Resample range.start range.end range.step c)
under_resample reads n f o p inner ps own last m range c count front back first product deeper =
    let all = map literal_of ps in
    let long : length all ≡ length ps = rw length-map in
    let k : length all - 3 ≡ m = ap (λ z. z - 3) long ∙ sym count in
    let behind : drop m all ≡ map literal_of last = drop-map literal_of m ps ∙ ap (map literal_of) (sym back) in
    let before : take m all ≡ map literal_of own = take-map literal_of m ps ∙ ap (map literal_of) (sym front) in
    let range_is : read_range o (length all - 3) (drop (length all - 3) all) ≡ Ok range =
    ap (λ z. read_range o z (drop z all)) k ∙ ap (read_range o m) behind ∙ first in
    let chain : read_chain reads n f (o * interval_count range) inner (take (length all - 3) all) ≡ Ok c =
    ap (λ z. read_chain reads n f (o * interval_count range) inner (take z all)) k
    ∙ ap (read_chain reads n f (o * interval_count range) inner) before
    ∙ ap (λ z. read_chain reads n f z inner (map literal_of own)) (sym product)
    ∙ deeper in
    then_is (read_range o (length all - 3) (drop (length all - 3) all)) range
    (λ (r : Range). and_then (read_chain reads n f (o * interval_count r) inner (take (length all - 3) all)) (λ (d : terms.Chain). Ok (terms.Resample r.start r.end r.step d)))
    (terms.Resample range.start range.end range.step c) range_is
    (chain_is (read_chain reads n f (o * interval_count range) inner (take (length all - 3) all)) c (terms.Resample range.start range.end range.step) chain)

-- the same, with the suffixes from the inside out
pub resampled : (reads : PatternReader) (n : ℕ) (f : LeafName) (o p : ℕ) (ss : List Suffix) (d : Suffix) (ps own last : List Literal) (m : ℕ) (range : Range)
    (c : terms.Chain) → 0 < length ss → get_or ss (length ss - 1) d ≡ Suffix.Resample → m ≡ length ps - 3 → own ≡ take m ps → last ≡ drop m ps →
    read_range o m (map literal_of last) ≡ Ok range → p ≡ o * interval_count range →
    read_chain reads n f p (reverse (take (length ss - 1) ss)) (map literal_of own) ≡ Ok c →
    read_chain reads n f o (reverse ss) (map literal_of ps) ≡ Ok (terms.Resample range.start range.end range.step c)
resampled reads n f o p ss d ps own last m range c some outer count front back first product deeper =
    ap (λ z. read_chain reads n f o z (map literal_of ps)) (outermost ss d some ∙ ap (λ z. z ∷ reverse (take (length ss - 1) ss)) outer)
    ∙ under_resample reads n f o p (reverse (take (length ss - 1) ss)) ps own last m range c count front back first product deeper
