-- One turn of the loops over slots and over entries.
use Rattle.std.proofs.Common.{◌≡◌, ℕ, ◌+◌, ◌<◌, Bool, ◌||◌, List, [], ◌∷◌, ◌++◌, map, take, length, get_or, sym, ap, ap₂, ◌∙◌, subst}
use Rattle.std.proofs.lemmas.List.{map-append, take_more}
use Rattle.agg_terms.specs.Chains.{Chain, Ty}
use Rattle.agg_terms.specs.Values.{Tree, Value}
use Rattle.agg_meaning.specs.States.{IsFedChain, MeansChain}
use Rattle.value_types.specs.Folds.{value_of}
use Rattle.value_types.specs.declared.value.Value.{Value as Valued}
use Rattle.row_parts.specs.Rows.{pair_value}
use Rattle.running_states.specs.declared.running.Running.{Running}
use Rattle.running_states.specs.Entries.{entries_in}
use Rattle.running_states.specs.Trees.{tree_in}
use Rattle.chain_values.specs.proving.Finished.{AreFed, AreKeysFed, MeanKeys, MeanSlots}
use Rattle.chain_values.proofs.KeyValues.{keys_fed_more, keys_fed_none, keys_more, keys_none}
use Rattle.chain_values.proofs.SlotValues.{fed_more, fed_none, slots_more, slots_none}

map_more : {X Y : Type 0} (f : X → Y) (xs : List X) (i : ℕ) (x : X) → i < length xs → x ≡ get_or xs i x → map f (take (i + 1) xs) ≡ map f (take i xs) ++ f x ∷ []
map_more f xs i x l e = ap (map f) (take_more xs i x l) ∙ map-append f (take i xs) (get_or xs i x ∷ []) ∙ ap (λ z. map f (take i xs) ++ f z ∷ []) (sym e)

module _ (c : Chain) (ts : List Ty) where
  pub slots_step : (ss : List Running) (i : ℕ) (s : Running) (xs : List Valued) (v : Valued) → i < length ss → s ≡ get_or ss i s → MeanSlots c ts (map tree_in (take i ss)) (map value_of xs) →
      MeansChain c ts (tree_in s) (value_of v) → MeanSlots c ts (map tree_in (take (i + 1) ss)) (map value_of (xs ++ v ∷ []))
  slots_step ss i s xs v l e a h =
      subst (λ z. MeanSlots c ts z (map value_of (xs ++ v ∷ []))) (sym (map_more tree_in ss i s l e))
      (subst (MeanSlots c ts (map tree_in (take i ss) ++ tree_in s ∷ [])) (sym (map-append value_of xs (v ∷ [])))
      (slots_more c ts (map tree_in (take i ss)) (map value_of xs) (tree_in s) (value_of v) a h))

  pub fed_step : (ss : List Running) (i : ℕ) (s : Running) (b h : Bool) → i < length ss → s ≡ get_or ss i s → AreFed c ts (map tree_in (take i ss)) b →
      IsFedChain c ts (tree_in s) h → AreFed c ts (map tree_in (take (i + 1) ss)) (b || h)
  fed_step ss i s b h l e a k =
      subst (λ z. AreFed c ts z (b || h)) (sym (map_more tree_in ss i s l e)) (fed_more c ts (map tree_in (take i ss)) (tree_in s) b h a k)

  pub keys_step : (es : List (Valued × Running)) (i : ℕ) (e : Valued × Running) (qs : List (Valued × Valued)) (k v : Valued) → i < length es → e ≡ get_or es i e → value_of k ≡ value_of e.0 →
      MeanKeys c ts (entries_in (take i es)) (map pair_value qs) → MeansChain c ts (tree_in e.1) (value_of v) → MeanKeys c ts (entries_in (take (i + 1) es)) (map pair_value (qs ++ (k, v) ∷ []))
  keys_step es i e qs k v l g o a h =
      subst (λ z. MeanKeys c ts z (map pair_value (qs ++ (k, v) ∷ []))) (sym (map_more (λ e. (value_of e.0, tree_in e.1)) es i e l g))
      (subst (MeanKeys c ts (entries_in (take i es) ++ (value_of e.0, tree_in e.1) ∷ [])) (sym (map-append pair_value qs ((k, v) ∷ [])))
      (subst (λ z. MeanKeys c ts (entries_in (take i es) ++ (value_of e.0, tree_in e.1) ∷ []) (map pair_value qs ++ (z, value_of v) ∷ [])) (sym o)
      (keys_more c ts (entries_in (take i es)) (map pair_value qs) (value_of e.0) (tree_in e.1) (value_of v) a h)))

  pub keys_fed_step : (es : List (Valued × Running)) (i : ℕ) (e : Valued × Running) (b h : Bool) → i < length es → e ≡ get_or es i e → AreKeysFed c ts (entries_in (take i es)) b →
      IsFedChain c ts (tree_in e.1) h → AreKeysFed c ts (entries_in (take (i + 1) es)) (b || h)
  keys_fed_step es i e b h l g a k =
      subst (λ z. AreKeysFed c ts z (b || h)) (sym (map_more (λ e. (value_of e.0, tree_in e.1)) es i e l g)) (keys_fed_more c ts (entries_in (take i es)) (value_of e.0) (tree_in e.1) b h a k)

pub ruleset value_turns = (slots_none, slots_step, keys_none, keys_step)

pub ruleset fed_turns = (fed_none, fed_step, keys_fed_none, keys_fed_step)
