-- What the test of functions and types brings.
use Rattle.std.proofs.Common.{◌≡◌, true, List, refl, true≢false, sym, arith}
use Rattle.agg_terms.specs.Chains.{Leaf, SequenceMatch, Ty, WindowFunnel}
use Rattle.std.proofs.lemmas.List.{length-map}
use Rattle.value_types.specs.Folds.{item_of, link_of, pattern_of}
use Rattle.value_types.specs.declared.pattern.Pattern.{Pattern}
use Rattle.event_leaves.specs.proving.Patterns.{IsSearched}
use Rattle.event_leaves.specs.Served.{IsFunnelServed, IsMatch, IsMatchServed, is_funnel_served, is_match_served}

pub served : (f : Leaf) (ts : List Ty) → is_funnel_served f ts ≡ true → IsFunnelServed f ts
served (WindowFunnel window strict) ts e = (tt, grind (arith, e), grind (arith, e))
served _ ts e = absurd (true≢false (sym e))

pub match_served : (f : Leaf) (ts : List Ty) → is_match_served f ts ≡ true → IsMatchServed f ts
match_served (SequenceMatch p) ts e = ((grind (arith, e), grind (arith, e), grind (arith, e)), grind (arith, e), grind (arith, e))
match_served _ ts e = absurd (true≢false (sym e))

pub searched : (p : Pattern) → IsMatch (SequenceMatch (pattern_of p)) → IsSearched p
searched p k = record {
  some = omega (arith, k.0, length-map p.items item_of);
  most = omega (arith, k.1, length-map p.items item_of);
  links = omega (arith, k.2, length-map p.items item_of, length-map p.links link_of);
}
