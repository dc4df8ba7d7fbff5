-- The arms of -Resample.
use Rattle.std.proofs.Common.{◌≡◌, ◌≢◌, ℕ, zero, suc, ◌+◌, ◌<◌, ◌≤◌, max, ℤ, Bool, true, false, cond, List, [], ◌∷◌, ◌++◌, map, length, get_or, take, replicate, Option, Some, None, ◌⊎◌, inl, inr, refl, sym, ap, ap₂, ◌∙◌, subst, arith, Result, Vec, Global}
use Rattle.std.specs.Result.{OnOk}
use Rattle.std.proofs.Math.ListN.{set}
use Rattle.std.proofs.lemmas.Bool.{cases_eq}
use Rattle.std.proofs.lemmas.List.{length-map, length-set, get_or-set_same, get_or-set_other, map-append}
use Rattle.agg_terms.specs.Chains.{Chain, Resample, Ty}
use Rattle.agg_terms.specs.Lists.{Each, front}
use Rattle.agg_terms.specs.Types.{intervals, inward}
use Rattle.agg_terms.specs.Values.{Nil, Tree, Value, slots_tree}
use Rattle.agg_meaning.specs.Feeds.{Feed, as_key, last, opened}
use Rattle.agg_meaning.specs.Picks.{in_interval, is_inside}
use Rattle.agg_meaning.specs.Results.{blank}
use Rattle.agg_meaning.specs.States.{Joins, Takes, TakesFeeds}
use Rattle.agg_meaning.proofs.Slots.{resample_joins, resample_takes}
use Rattle.agg_meaning.proofs.Suffixed.{takes_none}
use Rattle.running_states.specs.declared.running.Running.{Running}
use Rattle.running_states.specs.declared.running.Running.TheVariants.{Slots}
use Rattle.running_states.specs.declared.running.Running.TheViews.{out-Running}
use Rattle.link_types.specs.Links.{inner_types}
use Rattle.running_states.specs.Shapes.{AreParts, IsState}
use Rattle.running_states.specs.Trees.{tree_in}
use Rattle.running_states.specs.Words.{Feeds, JoinsAll}
use Rattle.chain_links.specs.proving.Words.{IsWalked, JoinsPlaces}
use Rattle.row_parts.proofs.IntervalPlaces.{inside_one}
use Rattle.running_states.proofs.Layers.{out_Slots, tree_Slots}
use Rattle.running_states.proofs.Outcomes.{on_ok}
use Rattle.chain_links.proofs.SlotLists.{each_get, each_set, map_own, map_set}

-- as many blank trees
pub blank_more : {X : Type 0} (x : X) (n : ℕ) → replicate n x ++ x ∷ [] ≡ replicate (n + 1) x
blank_more x zero = refl
blank_more x (suc n) =
    let e : suc n + 1 ≡ suc (n + 1) = omega arith in
    subst (λ m. replicate (suc n) x ++ x ∷ [] ≡ replicate m x) (sym e) (ap (◌∷◌ x) (blank_more x n))

module _ (start end : ℤ) (step : ℕ) (c : Chain) (us : List Ty) where
  abbrev R : Chain
  R = Resample start end step c

  abbrev count : ℕ
  count = intervals start end step

  pub parts_are : (s : Running) (v : Vec Running Global) → s ≡ Slots v → IsState R us s → (length v.items ≡ count) × Each (IsState c us) v.items
  parts_are s v e k = subst (AreParts count (IsState c us)) (ap out-Running e ∙ out_Slots v) k

  pub are_parts : (s : Running) (v : Vec Running Global) → s ≡ Slots v → length v.items ≡ count → Each (IsState c us) v.items → IsState R us s
  are_parts s v e n k = subst (AreParts count (IsState c us)) (sym (ap out-Running e ∙ out_Slots v)) (n, k)

  -- the slot of the key's interval takes the row
  pub part_takes : (r : List Value) (p w : Vec Running Global) (j : ℕ) (k : ℤ) (x y : Running) → length p.items ≡ count → as_key (last Nil r) ≡ Some k → is_inside start end step j k ≡ true → j < count → x ≡ get_or p.items j x → w.items ≡ set p.items j y →
      Feeds c us (front r) x y → Feeds R us r (Slots p) (Slots w)
  part_takes r p w j k x y n e i l g m a = record {
    over = λ ts h.
        subst (λ t. Takes R ts r t (tree_in (Slots w))) (sym (tree_Slots p))
        (subst (λ t. Takes R ts r (slots_tree (map tree_in p.items)) t) (sym (tree_Slots w ∙ ap (λ z. slots_tree (map tree_in z)) m ∙ ap slots_tree (map_set tree_in p.items j y)))
        (resample_takes start end step c ts (opened c (front r), as_key (last Nil r)) (map tree_in p.items) (set (map tree_in p.items) j (tree_in y))
        (length-set (map tree_in p.items) j (tree_in y) ∙ length-map p.items tree_in ∙ n)
        (λ q b. here ts h q (cases_eq q j))));
  }
    where
      inside : j < length (map tree_in p.items)
      inside = omega (arith, length-map p.items tree_in, n, l)

      here : (ts : List Ty) → inner_types R ts ≡ us → (q : ℕ) → (q ≡ j) ⊎ (q ≡ j → ⊥) → TakesFeeds c (inward R ts) (in_interval start end step q (opened c (front r), as_key (last Nil r))) (get_or (map tree_in p.items) q (blank c)) (get_or (set (map tree_in p.items) j (tree_in y)) q (blank c))
      here ts h q (inl f) =
          subst (λ z. TakesFeeds c (inward R ts) (in_interval start end step z (opened c (front r), as_key (last Nil r))) (get_or (map tree_in p.items) z (blank c)) (get_or (set (map tree_in p.items) j (tree_in y)) z (blank c))) (sym f)
          (subst (λ fs. TakesFeeds c (inward R ts) fs (get_or (map tree_in p.items) j (blank c)) (get_or (set (map tree_in p.items) j (tree_in y)) j (blank c)))
          (sym (ap (λ o. in_interval start end step j (opened c (front r), o)) e ∙ ap (λ b. cond b (opened c (front r) ∷ []) []) i))
          (subst (λ t. TakesFeeds c (inward R ts) (opened c (front r) ∷ []) t (get_or (set (map tree_in p.items) j (tree_in y)) j (blank c))) (sym (map_own tree_in (blank c) p.items j x (omega (arith, n, l)) g))
          (subst (TakesFeeds c (inward R ts) (opened c (front r) ∷ []) (tree_in x)) (sym (get_or-set_same (map tree_in p.items) j (tree_in y) (blank c) inside)) (a.over (inward R ts) h))))
      here ts h q (inr f) =
          subst (λ fs. TakesFeeds c (inward R ts) fs (get_or (map tree_in p.items) q (blank c)) (get_or (set (map tree_in p.items) j (tree_in y)) q (blank c)))
          (sym (ap (λ o. in_interval start end step q (opened c (front r), o)) e ∙ ap (λ b. cond b (opened c (front r) ∷ []) []) (inside_one start end k step q j i f)))
          (subst (TakesFeeds c (inward R ts) [] (get_or (map tree_in p.items) q (blank c))) (sym (get_or-set_other (map tree_in p.items) j q (tree_in y) (blank c) f)) (takes_none c (inward R ts) (get_or (map tree_in p.items) q (blank c))))

  -- a key in no interval, or none, leaves the slots
  pub part_leaves : (r : List Value) (p : Vec Running Global) → length p.items ≡ count → ((q : ℕ) → in_interval start end step q (opened c (front r), as_key (last Nil r)) ≡ []) → Feeds R us r (Slots p) (Slots p)
  part_leaves r p n e = record {
    over = λ ts h.
        subst (λ t. Takes R ts r t t) (sym (tree_Slots p))
        (resample_takes start end step c ts (opened c (front r), as_key (last Nil r)) (map tree_in p.items) (map tree_in p.items) (length-map p.items tree_in ∙ n)
        (λ q b. subst (λ fs. TakesFeeds c (inward R ts) fs (get_or (map tree_in p.items) q (blank c)) (get_or (map tree_in p.items) q (blank c))) (sym (e q)) (takes_none c (inward R ts) (get_or (map tree_in p.items) q (blank c)))));
  }

  pub none_picks : (r : List Value) → as_key (last Nil r) ≡ None → (q : ℕ) → in_interval start end step q (opened c (front r), as_key (last Nil r)) ≡ []
  none_picks r e q = ap (λ o. in_interval start end step q (opened c (front r), o)) e

  pub outside_picks : (r : List Value) (k : ℤ) → as_key (last Nil r) ≡ Some k → ((q : ℕ) → is_inside start end step q k ≡ false) → (q : ℕ) → in_interval start end step q (opened c (front r), as_key (last Nil r)) ≡ []
  outside_picks r k e i q = ap (λ o. in_interval start end step q (opened c (front r), o)) e ∙ ap (λ b. cond b (opened c (front r) ∷ []) []) (i q)

  -- slots joined
  pub parts_join : (p q w : Vec Running Global) → length p.items ≡ count → length q.items ≡ count → JoinsPlaces c us p.items q.items (length q.items) w.items → JoinsAll R us (Slots p) (Slots q) (Slots w)
  parts_join p q w n m h = record {
    over = λ ts k.
        subst (λ t. Joins R ts t (tree_in (Slots q)) (tree_in (Slots w))) (sym (tree_Slots p))
        (subst (λ t. Joins R ts (slots_tree (map tree_in p.items)) t (tree_in (Slots w))) (sym (tree_Slots q))
        (subst (λ t. Joins R ts (slots_tree (map tree_in p.items)) (slots_tree (map tree_in q.items)) t) (sym (tree_Slots w))
        (let a = h.over (inward R ts) k in
        resample_joins start end step c ts (map tree_in p.items) (map tree_in q.items) (map tree_in w.items)
        (omega (arith, a.long, length-map p.items tree_in, n, m))
        (λ j l. a.done j (omega (arith, l, m))))));
  }

  pub long_join : (p q w : List Running) → length p ≡ count → length q ≡ count → JoinsPlaces c us p q (length q) w → length w ≡ count
  long_join p q w n m h = omega (arith, h.long, n, m)
