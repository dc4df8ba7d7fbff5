-- The rules on a pattern, part by part as it is written.
use Rattle.std.proofs.Common.{◌≡◌, ℕ, ◌^◌, ◌<◌, ◌≤◌, Bool, true, List, [], ◌∷◌, length, map, refl, nat_lt, nat_le, ◌&&◌}
use Rattle.std.specs.List.{list_all}
use Rattle.std.proofs.lemmas.Bool.{le-leb, lt-ltb, leb-true, ltb-true, and_from, and_parts}
use Rattle.agg_terms.specs.Chains.{PatItem, Cond, Any, PatLink}
use Rattle.agg_typing.specs.Legal.{is_item, is_cond, is_link, are_linked, is_pattern}
use Rattle.pattern_texts.specs.Texts.{Join, next, gap, time, link_of, Written, written_pattern}

-- a condition is one of the conditions
abbrev pub ItemFits : ℕ → PatItem → Type 0
ItemFits conditions (Cond n) = (1 ≤ n) × (n ≤ conditions)
ItemFits conditions Any = Unit {0}

-- a time is a number of 64 bits, and stands between two conditions
abbrev pub JoinFits : Bool → Join → Bool → Type 0
JoinFits cond_before next cond_behind = Unit {0}
JoinFits cond_before (gap n) cond_behind = Unit {0}
JoinFits cond_before (time op n) cond_behind = (n < 2 ^ 64) × (cond_before ≡ true) × (cond_behind ≡ true)

-- the same of all items and joins, behind an item
abbrev pub MoreFits : ℕ → Bool → List (Join × PatItem) → Type 0
MoreFits conditions cond_before [] = Unit {0}
MoreFits conditions cond_before (part ∷ more) = JoinFits cond_before part.0 (is_cond part.1) × ItemFits conditions part.1 × MoreFits conditions (is_cond part.1) more

-- the rules on a pattern as it is written
pub record Fits (conditions : ℕ) (w : Written) : Type 0 where
  pub first : ItemFits conditions w.first
  pub more : MoreFits conditions (is_cond w.first) w.more
  pub count : length (written_pattern w).items ≤ 64

item_passes : (conditions : ℕ) (item : PatItem) → ItemFits conditions item → is_item conditions item ≡ true
item_passes conditions (Cond n) fits = and_from _ _ (le-leb 1 n fits.0) (le-leb n conditions fits.1)
item_passes conditions Any fits = refl

item_fits : (conditions : ℕ) (item : PatItem) → is_item conditions item ≡ true → ItemFits conditions item
item_fits conditions (Cond n) e = let p = and_parts (nat_le 1 n) (nat_le n conditions) e in (leb-true _ _ p.0, leb-true _ _ p.1)
item_fits conditions Any e = tt

join_passes : (a : PatItem) (join : Join) (b : PatItem) → JoinFits (is_cond a) join (is_cond b) → is_link a (link_of join) b ≡ true
join_passes a next b fits = refl
join_passes a (gap n) b fits = refl
join_passes a (time op n) b fits = and_from _ _ fits.1 (and_from _ _ fits.2 (lt-ltb _ _ fits.0))

join_fits : (a : PatItem) (join : Join) (b : PatItem) → is_link a (link_of join) b ≡ true → JoinFits (is_cond a) join (is_cond b)
join_fits a next b e = tt
join_fits a (gap n) b e = tt
join_fits a (time op n) b e =
    let p = and_parts (is_cond a) (is_cond b && nat_lt n (2 ^ 64)) e in
    let q = and_parts (is_cond b) (nat_lt n (2 ^ 64)) p.1 in
    (ltb-true _ _ q.1, p.0, q.0)

abbrev items_behind : List (Join × PatItem) → List PatItem
items_behind more = map (λ part. part.1) more

abbrev links_behind : List (Join × PatItem) → List PatLink
links_behind more = map (λ part. link_of part.0) more

more_pass : (conditions : ℕ) (a : PatItem) (more : List (Join × PatItem)) → MoreFits conditions (is_cond a) more
    → (list_all (is_item conditions) (items_behind more) ≡ true) × (are_linked (a ∷ items_behind more) (links_behind more) ≡ true)
more_pass conditions a [] fits = (refl, refl)
more_pass conditions a ((join, b) ∷ more) fits =
    let rest = more_pass conditions b more fits.2 in
    (and_from _ _ (item_passes conditions b fits.1) rest.0, and_from _ _ (join_passes a join b fits.0) rest.1)

more_fit : (conditions : ℕ) (a : PatItem) (more : List (Join × PatItem)) → list_all (is_item conditions) (items_behind more) ≡ true → are_linked (a ∷ items_behind more) (links_behind more) ≡ true
    → MoreFits conditions (is_cond a) more
more_fit conditions a [] items links = tt
more_fit conditions a ((join, b) ∷ more) items links =
    let i = and_parts (is_item conditions b) (list_all (is_item conditions) (items_behind more)) items in
    let l = and_parts (is_link a (link_of join) b) (are_linked (b ∷ items_behind more) (links_behind more)) links in
    (join_fits a join b l.0, item_fits conditions b i.0, more_fit conditions b more i.1 l.1)

-- what is written by the rules is a pattern
pub fits_is_pattern : (conditions : ℕ) (w : Written) → Fits conditions w → is_pattern conditions (written_pattern w) ≡ true
fits_is_pattern conditions w fits =
    let more = more_pass conditions w.first w.more fits.more in
    and_from _ _ (le-leb _ 64 fits.count) (and_from _ _ (and_from _ _ (item_passes conditions w.first fits.first) more.0) more.1)

-- a pattern that is written keeps to the rules
pub pattern_fits : (conditions : ℕ) (w : Written) → is_pattern conditions (written_pattern w) ≡ true → Fits conditions w
pattern_fits conditions w e =
    let p = written_pattern w in
    let whole = and_parts (nat_le (length p.items) 64) (list_all (is_item conditions) p.items && are_linked p.items p.links) e in
    let parts = and_parts (list_all (is_item conditions) p.items) (are_linked p.items p.links) whole.1 in
    let items = and_parts (is_item conditions w.first) (list_all (is_item conditions) (items_behind w.more)) parts.0 in
    record { first = item_fits conditions w.first items.0; more = more_fit conditions w.first w.more items.1 parts.1; count = leb-true _ _ whole.0 }
