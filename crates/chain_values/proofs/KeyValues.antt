-- Values at keys: those of -Map.
use Rattle.std.proofs.Common.{◌≡◌, ℕ, suc, ◌<◌, Bool, true, false, cond, ◌||◌, List, [], ◌∷◌, ◌++◌, map, length, get_or, refl, sym, ap, ap₂, ◌∙◌, subst, arith}
use Rattle.std.specs.Prelude.{flat_map}
use Rattle.std.proofs.lemmas.List.{length-map, map-append}
use Rattle.agg_terms.specs.Chains.{Chain, MapOf, Ty}
use Rattle.agg_terms.specs.Lists.{rest_of, some}
use Rattle.agg_terms.specs.Trees.{IsPlain}
use Rattle.agg_terms.specs.Types.{first_type, inward, key_type}
use Rattle.agg_terms.specs.Values.{Empty, Tree, Value, keyed_tree, map_value}
use Rattle.agg_meaning.specs.Feeds.{Feed, IsFeed}
use Rattle.agg_meaning.specs.Laws.{AreFeeds, IsLegal}
use Rattle.agg_meaning.specs.States.{IsFedChain, MeansChain, StandsFor}
use Rattle.agg_meaning.specs.Suffixes.{at_key, fed, keys_of, meaning, normal}
use Rattle.agg_meaning.proofs.ChainLaws.{keyed_same}
use Rattle.agg_meaning.proofs.Formed.{key_here}
use Rattle.agg_meaning.proofs.Kept.{each_flat_map}
use Rattle.chain_values.specs.proving.Finished.{AreFed, AreKeysFed, MeanKeys, MeanSlots}
use Rattle.chain_values.proofs.SlotValues.{fed_more, fed_none, slots_more, slots_none}

keyed : (c : Chain) (ts : List Ty) (L : List (Feed (MapOf c))) → AreFeeds (MapOf c) ts L → (k : Value) → AreFeeds c (inward (MapOf c) ts) (flat_map (at_key k) L)
keyed c ts L p k =
    each_flat_map (IsFeed (MapOf c) ts) (IsFeed c (inward (MapOf c) ts)) (at_key k) (λ f q. key_here (IsPlain (key_type (first_type ts))) (IsFeed c (inward (MapOf c) ts)) k f q) L p

-- values at keys
pub keys_value : (c : Chain) (ts us : List Ty) (t : Tree) (es : List (Value × Tree)) (xs : List (Value × Value)) (x : Value) → us ≡ inward (MapOf c) ts → t ≡ keyed_tree es → x ≡ map_value xs → MeanKeys c us es xs → MeansChain (MapOf c) ts t x
keys_value c ts us t es xs x e g h a = λ L l p m.
    let stands : StandsFor (MapOf c) ts L (keyed_tree es) = subst (StandsFor (MapOf c) ts L) g m in
    h ∙ ap map_value (by_entries L l p stands es (entries_are L stands) xs a.keys a.values)
  where
    key_ts : List Ty
    key_ts = inward (MapOf c) ts

    at : Value → List (Feed (MapOf c)) → List (Feed c)
    at k L = flat_map (at_key k) L

    entries_are : (L : List (Feed (MapOf c))) → StandsFor (MapOf c) ts L (keyed_tree es) → es ≡ map (λ k. (k, normal c key_ts (at k L))) (keys_of L)
    entries_are L s = keyed_same _ _ s

    table : (L : List (Feed (MapOf c))) → IsLegal (MapOf c) ts → AreFeeds (MapOf c) ts L → (ks : List Value) (qs : List (Value × Value)) → map (λ q. q.0) qs ≡ map {A = Value × Tree} (λ z. z.0) (map (λ k. (k, normal c key_ts (at k L))) ks) →
        MeanSlots c us (map {A = Value × Tree} (λ z. z.1) (map (λ k. (k, normal c key_ts (at k L))) ks)) (map (λ q. q.1) qs) → qs ≡ map (λ k. (k, meaning c key_ts (at k L))) ks
    table L l p [] [] n v = refl
    table L l p [] (q ∷ qs) n v = cc
    table L l p (k ∷ ks) [] n v = cc
    table L l p (k ∷ ks) (q ∷ qs) n v =
        ap₂ ◌∷◌ (ap₂ (λ y z. (y, z)) (head_of n)
        (subst (λ y. MeansChain c y (normal c key_ts (at k L)) q.1) e (v.at 0 (omega arith)) (at k L) l (fed_at L p k) refl))
        (table L l p ks qs (tail_of n) (record { long = (let o = v.long in omega (arith, o)); at = λ i b. v.at (suc i) (omega (arith, b)) }))
      where
        head_of : {a b : Value} {more rest : List Value} → (a ∷ more) ≡ (b ∷ rest) → a ≡ b
        head_of {a} w = ap (λ z. get_or z 0 a) w

        tail_of : {a b : Value} {more rest : List Value} → (a ∷ more) ≡ (b ∷ rest) → more ≡ rest
        tail_of w = ap rest_of w

        fed_at : (L : List (Feed (MapOf c))) → AreFeeds (MapOf c) ts L → (k : Value) → AreFeeds c key_ts (at k L)
        fed_at L p k = keyed c ts L p k

    by_entries : (L : List (Feed (MapOf c))) → IsLegal (MapOf c) ts → AreFeeds (MapOf c) ts L → StandsFor (MapOf c) ts L (keyed_tree es) → (fs : List (Value × Tree)) → fs ≡ map (λ k. (k, normal c key_ts (at k L))) (keys_of L) → (qs : List (Value × Value)) →
        map (λ q. q.0) qs ≡ map (λ z. z.0) fs → MeanSlots c us (map (λ z. z.1) fs) (map (λ q. q.1) qs) → qs ≡ map (λ k. (k, meaning c key_ts (at k L))) (keys_of L)
    by_entries L l p s fs w qs n v = table L l p (keys_of L) qs (n ∙ ap (map (λ z. z.0)) w) (subst (λ z. MeanSlots c us (map (λ y. y.1) z) (map (λ q. q.1) qs)) w v)

pub keys_told : (c : Chain) (ts us : List Ty) (t : Tree) (es : List (Value × Tree)) (b : Bool) → us ≡ inward (MapOf c) ts → t ≡ keyed_tree es → AreKeysFed c us es b → IsFedChain (MapOf c) ts t b
keys_told c ts us t es b e g a = λ L l p m.
    let w : es ≡ map (λ k. (k, normal c key_ts (at k L))) (keys_of L) = keyed_same _ _ (subst (StandsFor (MapOf c) ts L) g m) in
    a.values.whole ∙ table L l p (keys_of L) a.values.told (a.values.long ∙ length-map es (λ z. z.1) ∙ ap length w ∙ length-map (keys_of L) (λ k. (k, normal c key_ts (at k L))))
    (λ i o. subst (λ z. IsFedChain c us (get_or (map (λ y. y.1) z) i Empty) (get_or a.values.told i false)) w (a.values.at i (omega (arith, o, a.values.long))))
  where
    key_ts : List Ty
    key_ts = inward (MapOf c) ts

    at : Value → List (Feed (MapOf c)) → List (Feed c)
    at k L = flat_map (at_key k) L

    table : (L : List (Feed (MapOf c))) → IsLegal (MapOf c) ts → AreFeeds (MapOf c) ts L → (ks : List Value) (bs : List Bool) → length bs ≡ length ks →
        ((i : ℕ) → i < length bs → IsFedChain c us (get_or (map {A = Value × Tree} (λ z. z.1) (map (λ k. (k, normal c key_ts (at k L))) ks)) i Empty) (get_or bs i false)) →
        some (λ x. x) bs ≡ some (λ k. fed c key_ts (at k L)) ks
    table L l p [] [] n v = refl
    table L l p [] (q ∷ qs) n v = absurd (omega arith)
    table L l p (k ∷ ks) [] n v = absurd (omega arith)
    table L l p (k ∷ ks) (q ∷ qs) n v =
        ap₂ (λ y z. cond y true z)
        (subst (λ y. IsFedChain c y (normal c key_ts (at k L)) q) e (v 0 (omega arith)) (at k L) l (keyed c ts L p k) refl)
        (table L l p ks qs (omega arith) (λ i o. v (suc i) (omega (arith, o))))

-- one key more
module _ (c : Chain) (ts : List Ty) where
  pub keys_none : MeanKeys c ts [] []
  keys_none = record { keys = refl; values = slots_none c ts }

  pub keys_more : (es : List (Value × Tree)) (xs : List (Value × Value)) (k : Value) (t : Tree) (x : Value) → MeanKeys c ts es xs → MeansChain c ts t x → MeanKeys c ts (es ++ (k, t) ∷ []) (xs ++ (k, x) ∷ [])
  keys_more es xs k t x a h = record {
    keys = map-append (λ z. z.0) xs ((k, x) ∷ []) ∙ ap (λ z. z ++ k ∷ []) a.keys ∙ sym (map-append (λ z. z.0) es ((k, t) ∷ []));
    values = subst (λ z. MeanSlots c ts z (map (λ y. y.1) (xs ++ (k, x) ∷ []))) (sym (map-append (λ z. z.1) es ((k, t) ∷ []))) (subst (MeanSlots c ts (map (λ z. z.1) es ++ t ∷ [])) (sym (map-append (λ z. z.1) xs ((k, x) ∷ []))) (slots_more c ts (map (λ z. z.1) es) (map (λ z. z.1) xs) t x a.values h));
  }

  pub keys_fed_none : AreKeysFed c ts [] false
  keys_fed_none = record { values = fed_none c ts }

  pub keys_fed_more : (es : List (Value × Tree)) (k : Value) (t : Tree) (b h : Bool) → AreKeysFed c ts es b → IsFedChain c ts t h → AreKeysFed c ts (es ++ (k, t) ∷ []) (b || h)
  keys_fed_more es k t b h a f = record { values = subst (λ z. AreFed c ts z (b || h)) (sym (map-append (λ z. z.1) es ((k, t) ∷ []))) (fed_more c ts (map (λ z. z.1) es) t b h a.values f) }
