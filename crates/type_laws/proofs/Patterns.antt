-- A printed pattern is one as it is written: a gap once, and none at either end.
use Rattle.std.proofs.Common.{◌≡◌, ℕ, ◌≤◌, true, List, [], ◌∷◌, ◌++◌, length, map, refl, ap, ◌∙◌, nat_le, ◌&&◌, arith}
use Rattle.std.specs.List.{list_all}
use Rattle.std.proofs.lemmas.Bool.{le-leb, leb-true, and_from, and_parts}
use Rattle.agg_terms.specs.Chains.{PatItem, Cond, Any, PatLink, Next, Gap, Time, Pattern}
use Rattle.agg_typing.specs.Legal.{is_item, is_link, are_linked, is_pattern}
use Rattle.pattern_texts.specs.Texts.{Join, next, gap, time, link_of, join_text, more_text, Written, written_text, written_pattern, Spells}
use Rattle.type_texts.specs.PatternTexts.{link_text, items_text, pattern_text}
use Rattle.agg_typing.specs.PatternWords.{item_text}
use Rattle.type_laws.specs.Patterns.{PatternsReadBack}

abbrev join_of : PatLink → Join
join_of Next = next
join_of Gap = gap 0
join_of (Time op n) = time op n

-- items behind the first, each with the link before it
abbrev joined : List PatItem → List PatLink → List (Join × PatItem)
joined (item ∷ items) (link ∷ links) = (join_of link, item) ∷ joined items links
joined items links = []

-- both grammars write a link alike
same_link : (l : PatLink) → join_text (join_of l) ≡ link_text l
same_link Next = refl
same_link Gap = refl
same_link (Time op n) = refl

link_back : (l : PatLink) → link_of (join_of l) ≡ l
link_back Next = refl
link_back Gap = refl
link_back (Time op n) = refl

-- linked items, as they are printed and as they are written
record Joined (item : PatItem) (items : List PatItem) (links : List PatLink) : Type 0 where
  text : item_text item ++ more_text (joined items links) 0 ≡ items_text (item ∷ items) links
  items_are : map (λ (part : Join × PatItem). part.1) (joined items links) ≡ items
  links_are : map (λ (part : Join × PatItem). link_of part.0) (joined items links) ≡ links

linked : (item : PatItem) (items : List PatItem) (links : List PatLink) → are_linked (item ∷ items) links ≡ true → Joined item items links
linked item [] [] h = record { text = refl; items_are = refl; links_are = refl }
linked item [] (l ∷ links) h = absurd cc
linked item (b ∷ items) [] h = absurd cc
linked item (b ∷ items) (l ∷ links) h =
    let more = linked b items links (and_parts (is_link item l b) (are_linked (b ∷ items) links) h).1 in
    record {
      text = ap (λ t. item_text item ++ (t ++ (item_text b ++ more_text (joined items links) 0))) (same_link l)
          ∙ ap (λ t. item_text item ++ (link_text l ++ t)) more.text;
      items_are = ap (λ z. b ∷ z) more.items_are;
      links_are = ap (λ k. k ∷ map (λ (part : Join × PatItem). link_of part.0) (joined items links)) (link_back l) ∙ ap (λ z. l ∷ z) more.links_are;
    }

-- a pattern over some conditions is one over more
item_of_more : (n m : ℕ) (i : PatItem) → n ≤ m → is_item n i ≡ true → is_item m i ≡ true
item_of_more n m Any few h = refl
item_of_more n m (Cond i) few h =
    let two = and_parts (nat_le 1 i) (nat_le i n) h in
    let most = leb-true i n two.1 in
    and_from _ _ two.0 (le-leb i m (omega (arith, most)))

items_of_more : (n m : ℕ) (is : List PatItem) → n ≤ m → list_all (is_item n) is ≡ true → list_all (is_item m) is ≡ true
items_of_more n m [] few h = refl
items_of_more n m (i ∷ is) few h =
    let two = and_parts (is_item n i) (list_all (is_item n) is) h in
    and_from _ _ (item_of_more n m i few two.0) (items_of_more n m is few two.1)

spelled : (n m : ℕ) (items : List PatItem) (links : List PatLink) → n ≤ m →
    (let p : Pattern = record { items = items; links = links } in is_pattern n p ≡ true → Spells m (pattern_text p) p)
spelled n m [] links few h = let two = and_parts (list_all (is_item n) []) (are_linked [] links) h in let none = two.1 in absurd cc
spelled n m (item ∷ items) links few h =
    let all = and_parts (nat_le (length (item ∷ items)) 64) (list_all (is_item n) (item ∷ items) && are_linked (item ∷ items) links) h in
    let two = and_parts (list_all (is_item n) (item ∷ items)) (are_linked (item ∷ items) links) all.1 in
    let more = linked item items links two.1 in
    let w : Written = record { lead = 0; first = item; more = joined items links; trail = 0 } in (
      w,
      more.text,
      (λ i. record { items = item ∷ more.items_are i; links = more.links_are i }),
      and_from _ _ all.0 (and_from _ _ (items_of_more n m (item ∷ items) few two.0) two.1),
    )

pub patterns_read_back : PatternsReadBack
patterns_read_back n m p h few = spelled n m p.items p.links few h
