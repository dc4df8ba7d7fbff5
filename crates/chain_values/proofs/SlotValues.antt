-- Values slot by slot: those of -ForEach and -Resample.
use Rattle.std.proofs.Common.{◌≡◌, ℕ, zero, suc, ◌+◌, ◌<◌, ◌≤◌, ℤ, Bool, true, false, cond, ◌||◌, List, [], ◌∷◌, ◌++◌, length, get_or, ◌⊎◌, inl, inr, refl, sym, ap, ◌∙◌, subst, arith}
use Rattle.std.proofs.lemmas.Bool.{cases_lt}
use Rattle.std.proofs.lemmas.List.{length-append}
use Rattle.agg_terms.specs.Chains.{Chain, ForEach, Resample, Ty}
use Rattle.agg_terms.specs.Lists.{some}
use Rattle.agg_terms.specs.Types.{intervals, inward}
use Rattle.agg_terms.specs.Values.{Empty, Nil, Tree, Value, list_value, slots_tree}
use Rattle.agg_meaning.specs.Results.{blank}
use Rattle.agg_meaning.specs.States.{IsFedChain, MeansChain}
use Rattle.agg_meaning.proofs.Slots.{for_each_fed, for_each_means, resample_fed, resample_means}
use Rattle.chain_values.specs.proving.Finished.{AreFed, MeanSlots}

-- values slot by slot
get_past : {X : Type 0} (xs : List X) (d e : X) (i : ℕ) → i < length xs → get_or xs i d ≡ get_or xs i e
get_past [] d e i l = absurd (omega arith)
get_past (x ∷ xs) d e zero l = refl
get_past (x ∷ xs) d e (suc i) l = get_past xs d e i (omega arith)

pub slots_value : (c : Chain) (ts us : List Ty) (t : Tree) (tt : List Tree) (xs : List Value) (x : Value) → us ≡ inward (ForEach c) ts → t ≡ slots_tree tt → x ≡ list_value xs → MeanSlots c us tt xs → MeansChain (ForEach c) ts t x
slots_value c ts us t tt xs x e g h a =
    subst (λ z. MeansChain (ForEach c) ts z x) (sym g) (subst (MeansChain (ForEach c) ts (slots_tree tt)) (sym h)
    (for_each_means c ts tt xs a.long (λ i l. subst (λ y. MeansChain c y (get_or tt i (blank c)) (get_or xs i Nil)) e (subst (λ z. MeansChain c us z (get_or xs i Nil)) (get_past tt Empty (blank c) i l) (a.at i l)))))

pub slots_told : (c : Chain) (ts us : List Ty) (t : Tree) (tt : List Tree) (b : Bool) → us ≡ inward (ForEach c) ts → t ≡ slots_tree tt → AreFed c us tt b → IsFedChain (ForEach c) ts t b
slots_told c ts us t tt b e g a =
    subst (λ z. IsFedChain (ForEach c) ts z b) (sym g) (subst (IsFedChain (ForEach c) ts (slots_tree tt)) (sym a.whole)
    (for_each_fed c ts tt a.told a.long (λ i l. subst (λ y. IsFedChain c y (get_or tt i (blank c)) (get_or a.told i false)) e (subst (λ z. IsFedChain c us z (get_or a.told i false)) (get_past tt Empty (blank c) i l) (a.at i l)))))

module _ (start end : ℤ) (step : ℕ) (c : Chain) (ts us : List Ty) (t : Tree) (tt : List Tree) (e : us ≡ inward (Resample start end step c) ts) (g : t ≡ slots_tree tt) (n : length tt ≡ intervals start end step) where
  pub parts_value : (xs : List Value) (x : Value) → x ≡ list_value xs → MeanSlots c us tt xs → MeansChain (Resample start end step c) ts t x
  parts_value xs x h a =
      subst (λ z. MeansChain (Resample start end step c) ts z x) (sym g) (subst (MeansChain (Resample start end step c) ts (slots_tree tt)) (sym h)
      (resample_means start end step c ts tt xs (a.long ∙ n) (λ i l. subst (λ y. MeansChain c y (get_or tt i (blank c)) (get_or xs i Nil)) e (subst (λ z. MeansChain c us z (get_or xs i Nil)) (get_past tt Empty (blank c) i (omega (arith, l, n))) (a.at i (omega (arith, l, n)))))))

  pub parts_told : (b : Bool) → AreFed c us tt b → IsFedChain (Resample start end step c) ts t b
  parts_told b a =
      subst (λ z. IsFedChain (Resample start end step c) ts z b) (sym g) (subst (IsFedChain (Resample start end step c) ts (slots_tree tt)) (sym a.whole)
      (resample_fed start end step c ts tt a.told (a.long ∙ n) (λ i l. subst (λ y. IsFedChain c y (get_or tt i (blank c)) (get_or a.told i false)) e (subst (λ z. IsFedChain c us z (get_or a.told i false)) (get_past tt Empty (blank c) i (omega (arith, l, n))) (a.at i (omega (arith, l, n)))))))

-- one slot more
module _ (c : Chain) (ts : List Ty) where
  front_get : {X : Type 0} (xs : List X) (x d : X) (i : ℕ) → i < length xs → get_or (xs ++ x ∷ []) i d ≡ get_or xs i d
  front_get [] x d i l = absurd (omega arith)
  front_get (y ∷ xs) x d zero l = refl
  front_get (y ∷ xs) x d (suc i) l = front_get xs x d i (omega arith)

  end_get : {X : Type 0} (xs : List X) (x d : X) (i : ℕ) → i ≡ length xs → get_or (xs ++ x ∷ []) i d ≡ x
  end_get [] x d i e = subst (λ n. get_or (x ∷ []) n d ≡ x) (sym e) refl
  end_get (y ∷ xs) x d zero e = absurd (omega (arith, e))
  end_get (y ∷ xs) x d (suc i) e = end_get xs x d i (omega (arith, e))

  at_end : (n i : ℕ) → i < n + 1 → (i < n) ⊎ (i ≡ n)
  at_end n i l = go (cases_lt i n)
    where
      go : (i < n) ⊎ (n ≤ i) → (i < n) ⊎ (i ≡ n)
      go (inl h) = inl h
      go (inr h) = inr (omega (arith, l, h))

  pub slots_none : MeanSlots c ts [] []
  slots_none = record { long = refl; at = λ i l. absurd (omega arith) }

  pub slots_more : (tt : List Tree) (xs : List Value) (t : Tree) (x : Value) → MeanSlots c ts tt xs → MeansChain c ts t x → MeanSlots c ts (tt ++ t ∷ []) (xs ++ x ∷ [])
  slots_more tt xs t x a h = record {
    long = length-append xs (x ∷ []) ∙ ap (λ n. n + 1) a.long ∙ sym (length-append tt (t ∷ []));
    at = λ i l. here i (at_end (length tt) i (omega (arith, l, length-append tt (t ∷ []))));
  }
    where
      here : (i : ℕ) → (i < length tt) ⊎ (i ≡ length tt) → MeansChain c ts (get_or (tt ++ t ∷ []) i Empty) (get_or (xs ++ x ∷ []) i Nil)
      here i (inl l) = subst (λ z. MeansChain c ts z (get_or (xs ++ x ∷ []) i Nil)) (sym (front_get tt t Empty i l)) (subst (MeansChain c ts (get_or tt i Empty)) (sym (front_get xs x Nil i (omega (arith, l, a.long)))) (a.at i l))
      here i (inr e) = subst (λ z. MeansChain c ts z (get_or (xs ++ x ∷ []) i Nil)) (sym (end_get tt t Empty i e)) (subst (MeansChain c ts t) (sym (end_get xs x Nil i (e ∙ sym a.long))) h)

  pub fed_none : AreFed c ts [] false
  fed_none = record { told = []; long = refl; at = λ i l. absurd (omega arith); whole = refl }

  pub fed_more : (tt : List Tree) (t : Tree) (b h : Bool) → AreFed c ts tt b → IsFedChain c ts t h → AreFed c ts (tt ++ t ∷ []) (b || h)
  fed_more tt t b h a k = record {
    told = a.told ++ h ∷ [];
    long = length-append a.told (h ∷ []) ∙ ap (λ n. n + 1) a.long ∙ sym (length-append tt (t ∷ []));
    at = λ i l. here i (at_end (length tt) i (omega (arith, l, length-append tt (t ∷ []))));
    whole = ap (λ x. x || h) a.whole ∙ some_last a.told;
  }
    where
      here : (i : ℕ) → (i < length tt) ⊎ (i ≡ length tt) → IsFedChain c ts (get_or (tt ++ t ∷ []) i Empty) (get_or (a.told ++ h ∷ []) i false)
      here i (inl l) = subst (λ z. IsFedChain c ts z (get_or (a.told ++ h ∷ []) i false)) (sym (front_get tt t Empty i l)) (subst (IsFedChain c ts (get_or tt i Empty)) (sym (front_get a.told h false i (omega (arith, l, a.long)))) (a.at i l))
      here i (inr e) = subst (λ z. IsFedChain c ts z (get_or (a.told ++ h ∷ []) i false)) (sym (end_get tt t Empty i e)) (subst (IsFedChain c ts t) (sym (end_get a.told h false i (e ∙ sym a.long))) k)

      some_last : (bs : List Bool) → (some (λ x. x) bs || h) ≡ some (λ x. x) (bs ++ h ∷ [])
      some_last [] = one h
        where
          one : (x : Bool) → x ≡ cond x true false
          one true = refl
          one false = refl
      some_last (true ∷ bs) = refl
      some_last (false ∷ bs) = some_last bs
