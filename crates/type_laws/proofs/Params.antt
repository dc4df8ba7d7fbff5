-- The printed parameters of a chain are read as the chain's.
use Rattle.std.proofs.Common.{◌≡◌, ℕ, ◌-◌, ◌*◌, ◌^◌, ◌≤◌, ℤ, pos, int_lt, Bool, true, false, cond, nat_lt, nat_le, ◌&&◌, List, [], ◌∷◌, ◌++◌, length, take, drop, Some, None, Ok, refl, sym, ap, ◌∙◌, arith}
use Rattle.std.proofs.lemmas.Bool.{le-leb, leb-true, ltb-true, and_from, and_parts}
use Rattle.std.proofs.lemmas.List.{length-append}
use Rattle.std.proofs.Math.Seq.{take-append_seam, drop-append_seam}
use Rattle.agg_terms.specs.declared.words.LeafName.{LeafName}
use Rattle.agg_terms.specs.declared.words.Suffix.{Suffix}
use Rattle.agg_terms.specs.Chains.{Leaf, Chain}
use Rattle.agg_terms.specs.Chains as terms
use Rattle.agg_terms.specs.Types.{intervals}
use Rattle.agg_typing.specs.Faults.{and_then}
use Rattle.agg_typing.specs.Legal.{function_of, suffixes_of, is_pattern, leaf_in_range, is_range, in_range}
use Rattle.agg_typing.specs.Literals.{Literal, Int}
use Rattle.agg_typing.specs.Parameters.{Range, natural, is_int64, most_intervals, most_conditions, interval_count, read_range, read_leaf, read_chain}
use Rattle.pattern_texts.specs.Machine.{pattern_reader}
use Rattle.pattern_texts.proofs.Law.{law_only, reader_is}
use Rattle.type_texts.specs.ChainNames.{leaf_name}
use Rattle.type_texts.specs.PatternTexts.{pattern_text}
use Rattle.type_shapes.specs.ReadsBack.{leaf_literals, literals_of}
use Rattle.type_laws.proofs.Levels.{level_read}
use Rattle.type_laws.proofs.Patterns.{patterns_read_back}

-- ---- functions

natural_read : (low high n : ℕ) → low ≤ n → n ≤ high → natural low high (Int (pos n)) ≡ Some n
natural_read low high n l h = ap (λ t. cond t (Some n) None) (and_from _ _ (le-leb low n l) (le-leb n high h))

pattern_read : (n : ℕ) (p : terms.Pattern) → 1 ≤ n → n ≤ most_conditions → is_pattern n p ≡ true → pattern_reader (pattern_text p) n ≡ Ok p
pattern_read n p some few h = sym (reader_is n some few (pattern_text p)) ∙ law_only n few (pattern_text p) p (patterns_read_back n n p h (omega arith))

leaf_read : (n : ℕ) → 1 ≤ n → n ≤ most_conditions → (f : Leaf) → leaf_in_range n f ≡ true → read_leaf pattern_reader n (leaf_name f) (leaf_literals f) ≡ Ok f
leaf_read n some few terms.Count h = refl
leaf_read n some few terms.Sum h = refl
leaf_read n some few terms.Min h = refl
leaf_read n some few terms.Max h = refl
leaf_read n some few terms.ArgMin h = refl
leaf_read n some few terms.ArgMax h = refl
leaf_read n some few (terms.GroupBit terms.And) h = refl
leaf_read n some few (terms.GroupBit terms.Or) h = refl
leaf_read n some few (terms.GroupBit terms.Xor) h = refl
leaf_read n some few terms.UniqExact h = refl
leaf_read n some few terms.Retention h = refl
leaf_read n some few (terms.GroupArray None) h = refl
leaf_read n some few (terms.GroupArray (Some most)) h =
    let two = and_parts (nat_le 1 most) (nat_lt most (2 ^ 32)) h in
    let low = leb-true 1 most two.0 in
    let high = ltb-true most (2 ^ 32) two.1 in
    rw (natural_read 1 (2 ^ 32 - 1) most low (omega (arith, high)))
leaf_read n some few (terms.QuantileExact level) h = rw (level_read level (leb-true level (10 ^ 9) h))
leaf_read n some few (terms.WindowFunnel window strict) h =
    let high = ltb-true window (2 ^ 64) h in
    by_mode strict (natural_read 0 (2 ^ 64 - 1) window (omega arith) (omega (arith, high)))
  where
    by_mode : (strict : Bool) → natural 0 (2 ^ 64 - 1) (Int (pos window)) ≡ Some window → read_leaf pattern_reader n LeafName.WindowFunnel (leaf_literals (terms.WindowFunnel window strict)) ≡ Ok (terms.WindowFunnel window strict)
    by_mode true e = rw e
    by_mode false e = rw e
leaf_read n some few (terms.SequenceMatch pattern) h = rw (pattern_read n pattern some few h)

-- ---- chains

range_read : (further_out m : ℕ) (start end : ℤ) (step : ℕ) → is_range further_out start end step ≡ true
    → read_range further_out m (Int start ∷ Int end ∷ Int (pos step) ∷ []) ≡ Ok (record { start = start; end = end; step = step })
range_read o m start end step h =
    let few : Bool = nat_le (o * intervals start end step) most_intervals in
    let a = and_parts (is_int64 start) (is_int64 end && (int_lt start end && (nat_le 1 step && (nat_lt step (2 ^ 64) && few)))) h in
    let b = and_parts (is_int64 end) (int_lt start end && (nat_le 1 step && (nat_lt step (2 ^ 64) && few))) a.1 in
    let d = and_parts (int_lt start end) (nat_le 1 step && (nat_lt step (2 ^ 64) && few)) b.1 in
    let e = and_parts (nat_le 1 step) (nat_lt step (2 ^ 64) && few) d.1 in
    let f = and_parts (nat_lt step (2 ^ 64)) few e.1 in
    let high = ltb-true step (2 ^ 64) f.0 in
    let by = natural_read 1 (2 ^ 64 - 1) step (leb-true 1 step e.0) (omega (arith, high)) in
    rw (a.0, b.0, d.0, by, f.1)

-- the outermost Resample takes its three behind the others
resample_read : (n : ℕ) (f : LeafName) (o : ℕ) (inner : List Suffix) (own : List Literal) (start end : ℤ) (step : ℕ) (c : Chain) → is_range o start end step ≡ true
    → read_chain pattern_reader n f (o * intervals start end step) inner own ≡ Ok c
    → read_chain pattern_reader n f o (Suffix.Resample ∷ inner) (own ++ (Int start ∷ Int end ∷ Int (pos step) ∷ [])) ≡ Ok (terms.Resample start end step c)
resample_read n f o inner own start end step c h deeper =
    let three : List Literal = Int start ∷ Int end ∷ Int (pos step) ∷ [] in
    let long = length-append own three in
    let place : length (own ++ three) - 3 ≡ length own = omega (arith, long) in
    let behind : drop (length (own ++ three) - 3) (own ++ three) ≡ three = ap (λ k. drop k (own ++ three)) place ∙ drop-append_seam own three in
    let before : take (length (own ++ three) - 3) (own ++ three) ≡ own = ap (λ k. take k (own ++ three)) place ∙ take-append_seam own three in
    by_parts (length (own ++ three) - 3) (drop (length (own ++ three) - 3) (own ++ three)) (take (length (own ++ three) - 3) (own ++ three)) behind before
  where
    by_parts : (m : ℕ) (last front : List Literal) → last ≡ Int start ∷ Int end ∷ Int (pos step) ∷ [] → front ≡ own
        → and_then (read_range o m last) (λ (range : Range). and_then (read_chain pattern_reader n f (o * interval_count range) inner front) (λ (d : Chain). Ok (terms.Resample range.start range.end range.step d)))
        ≡ Ok (terms.Resample start end step c)
    by_parts m last front e g = rw (e, g, range_read o m start end step h, deeper)

-- A chain whose parameters are in their ranges is read from its function's name, its suffixes and its parameters.
pub chain_read : (n : ℕ) → 1 ≤ n → n ≤ most_conditions → (c : Chain) (o : ℕ) → in_range n o c ≡ true
    → read_chain pattern_reader n (leaf_name (function_of c)) o (suffixes_of c) (literals_of c) ≡ Ok c
chain_read n some few (terms.Of f) o h = rw (leaf_read n some few f h)
chain_read n some few (terms.If c) o h = rw (chain_read n some few c o h)
chain_read n some few (terms.Array c) o h = rw (chain_read n some few c o h)
chain_read n some few (terms.MapOf c) o h = rw (chain_read n some few c o h)
chain_read n some few (terms.ForEach c) o h = rw (chain_read n some few c o h)
chain_read n some few (terms.OrNull c) o h = rw (chain_read n some few c o h)
chain_read n some few (terms.OrDefault c) o h = rw (chain_read n some few c o h)
chain_read n some few (terms.Distinct c) o h = rw (chain_read n some few c o h)
chain_read n some few (terms.State c) o h = rw (chain_read n some few c o h)
chain_read n some few (terms.Merge c) o h = rw (chain_read n some few c o h)
chain_read n some few (terms.Resample start end step c) o h =
    let two = and_parts (is_range o start end step) (in_range n (o * intervals start end step) c) h in
    resample_read n (leaf_name (function_of c)) o (suffixes_of c) (literals_of c) start end step c two.0 (chain_read n some few c (o * intervals start end step) two.1)
