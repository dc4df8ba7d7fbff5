-- A row fed to the intervals of -Resample.
use Rattle.std.proofs.Common.{◌≡◌, ℕ, ◌<◌, ℤ, true, false, List, [], length, Some, sym, ◌∙◌, subst, Result, Vec, Global}
use Rattle.std.specs.Result.{OnOk}
use Rattle.agg_terms.specs.Chains.{Chain, Resample, Ty}
use Rattle.agg_terms.specs.Lists.{Each, front}
use Rattle.agg_terms.specs.Types.{intervals}
use Rattle.agg_terms.specs.Values.{Nil, Value}
use Rattle.agg_meaning.specs.Feeds.{as_key, last, opened}
use Rattle.agg_meaning.specs.Picks.{in_interval, is_inside}
use Rattle.running_states.specs.declared.running.Running.{Running}
use Rattle.running_states.specs.declared.running.Running.TheOpen.{Running-F}
use Rattle.running_states.specs.declared.running.Running.TheVariants.{Slots, rolls-Slots}
use Rattle.running_states.specs.declared.running.Running.TheViews.{out-Running, roll-Running, roll-out-Running}
use Rattle.running_states.specs.Shapes.{AreParts, IsState}
use Rattle.running_states.specs.Words.{Feeds}
use Rattle.chain_links.specs.proving.Words.{FeedsPart}
use Rattle.running_states.proofs.Outcomes.{on_ok}
use Rattle.chain_links.proofs.Parts.{are_parts, part_leaves, part_takes, parts_are}

-- what was found of a key whose numbers were cast, said of the numbers
module _ (start end : ℤ) (step : ℕ) where
  pub found_inside : (j : ℕ) (key : ℤ) {a b k : ℤ} → a ≡ start → b ≡ end → k ≡ key → (j < intervals a b step) × (is_inside a b step j k ≡ true) → (j < intervals start end step) × (is_inside start end step j key ≡ true)
  found_inside j key {a = a} {b = b} {k = k} s e q h =
      subst (λ x. (j < intervals x end step) × (is_inside x end step j key ≡ true)) s
      (subst (λ y. (j < intervals a y step) × (is_inside a y step j key ≡ true)) e (subst (λ z. (j < intervals a b step) × (is_inside a b step j z ≡ true)) q h))

  pub found_outside : (key : ℤ) {a b k : ℤ} → a ≡ start → b ≡ end → k ≡ key → ((j : ℕ) → is_inside a b step j k ≡ false) → (j : ℕ) → is_inside start end step j key ≡ false
  found_outside key {a = a} {b = b} {k = k} s e q h j =
      subst (λ x. is_inside x end step j key ≡ false) s (subst (λ y. is_inside a y step j key ≡ false) e (subst (λ z. is_inside a b step j z ≡ false) q (h j)))

module _ (start end : ℤ) (step : ℕ) (c : Chain) (us : List Ty) where
  abbrev R : Chain
  R = Resample start end step c

  module _ {A E : Type 0} (x : Result A E) (s v : Running) (p w : Vec Running Global) (e : s ≡ Slots p) (g : v ≡ Slots w) (k : IsState R us s) where
    pub part_kept : OnOk x (Each (IsState c us) w.items × (length w.items ≡ length p.items)) → OnOk x (IsState R us v)
    part_kept h = on_ok x (λ a. are_parts start end step c us v w g (a.1 ∙ (parts_are start end step c us s p e k).0) a.0) h

    pub part_fed : (r q : List Value) (j : ℕ) (key : ℤ) → as_key (last Nil r) ≡ Some key → (j < intervals start end step) × (is_inside start end step j key ≡ true) → q ≡ front r → OnOk x (FeedsPart c us q j p.items w.items) → OnOk x (Feeds R us r s v)
    part_fed r q j key i n f h = on_ok x (λ a.
        subst (λ t. Feeds R us r t v) (sym e) (subst (Feeds R us r (Slots p)) (sym g)
        (part_takes start end step c us r p w j key a.before a.after (parts_are start end step c us s p e k).0 i n.1 n.0 a.there a.put (subst (λ t. Feeds c us t a.before a.after) f a.row)))) h

  -- a row that no interval takes
  pub parts_stay : (r : List Value) (s : Running) → IsState R us s → ((q : ℕ) → in_interval start end step q (opened c (front r), as_key (last Nil r)) ≡ []) → Feeds R us r s s
  parts_stay r s k e = go (out-Running s) (roll-out-Running s) k
    where
      go : (l : Running-F Running) → roll-Running l ≡ s → AreParts (intervals start end step) (IsState c us) l → Feeds R us r s s
      go (Running-F.Int i) h k = absurd k
      go (Running-F.Boxed b) h k = absurd k
      go (Running-F.Slots v) h k = subst (λ t. Feeds R us r t t) (sym (rolls-Slots v) ∙ h) (part_leaves start end step c us r v k.0 e)
      go (Running-F.Keyed es) h k = absurd k
      go (Running-F.Rows d) h k = absurd k
