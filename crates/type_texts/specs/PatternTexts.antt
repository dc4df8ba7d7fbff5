-- Patterns as they are printed (manual: "sequenceMatch", pattern syntax).
use Rattle.std.specs.Prelude.{ℕ, List, [], ◌∷◌, ◌++◌, codes}
use Rattle.agg_terms.specs.Chains.{PatItem, PatLink, Next, Gap, Time, Pattern}
use Rattle.agg_typing.specs.PatternWords.{item_text, bound_text}

-- nothing between neighbours, `.*`, or a bound on the time as `(?t<=10)`
abbrev pub link_text : PatLink → List ℕ
link_text Next = []
link_text Gap = codes ".*"
link_text (Time op n) = bound_text op n

-- Items, each with its link behind it; a gap stands once, and none at either end.
abbrev pub items_text : List PatItem → List PatLink → List ℕ
items_text [] links = []
items_text (i ∷ items) [] = item_text i ++ items_text items []
items_text (i ∷ items) (l ∷ links) = item_text i ++ (link_text l ++ items_text items links)

abbrev pub pattern_text : Pattern → List ℕ
pattern_text p = items_text p.items p.links
