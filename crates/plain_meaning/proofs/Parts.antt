-- Answers gathered over several lists of rows: -ForEach, -Map and -Resample.
use Rattle.std.proofs.Common.{◌≡◌, ℕ, zero, suc, ◌+◌, ◌||◌, ℤ, Bool, true, false, cond, List, [], ◌∷◌, ◌++◌, get_or, length, map, take, refl, sym, ap, ap₂, ◌∙◌, subst, add-one, arith, ◌<◌}
use Rattle.std.proofs.lemmas.List.{map-append}
use Rattle.agg_terms.specs.Chains.{Chain, ForEach, MapOf, Resample, Ty}
use Rattle.agg_terms.specs.Lists.{places, some}
use Rattle.agg_terms.specs.Types.{intervals, inward}
use Rattle.agg_terms.specs.Values as family
use Rattle.agg_terms.specs.Values.{keyed_tree, list_value, map_value, slots_tree}
use Rattle.value_types.specs.declared.value.Value.{Value}
use Rattle.value_types.specs.Folds.{entry_of, tree_of, value_of}
use Rattle.plain_meaning.specs.declared.answer.Answer.{Answer}
use Rattle.plain_meaning.specs.declared.answer.Gathered.{Gathered}
use Rattle.plain_meaning.specs.declared.answer.Keyed.{Keyed}
use Rattle.plain_meaning.specs.proving.Answers.{Answers, AtKeys, Gathers}
use Rattle.plain_meaning.specs.proving.Images.{image_of}
use Rattle.plain_meaning.specs.Inward.{IsEvaluated, fed_of, meaning_of, normal_of, place_count, row_keys, rows_at, rows_at_key, rows_inside}
use Rattle.plain_meaning.proofs.Arms.{each_fed, each_means, each_normal, map_fed, map_means, map_normal, resample_fed, resample_means, resample_normal}

abbrev Rows : Type 0
Rows = List (List family.Value)

abbrev Types : Type 0
Types = List Ty

some-append : {X : Type 0} (p : X → Bool) (xs : List X) (x : X) → some p (xs ++ x ∷ []) ≡ (some p xs || p x)
some-append p [] x = last (p x)
  where
    last : (b : Bool) → cond b true false ≡ (false || b)
    last true = refl
    last false = refl
some-append p (y ∷ ys) x = go (p y) (some-append p ys x)
  where
    go : (b : Bool) → some p (ys ++ x ∷ []) ≡ (some p ys || p x) → cond b true (some p (ys ++ x ∷ [])) ≡ (cond b true (some p ys) || p x)
    go true e = refl
    go false e = e

pub gathers_none : (c : Chain) (ts : Types) (g : Gathered) → g.values ≡ [] → g.is_fed ≡ false → g.states ≡ [] → Gathers c ts [] g
gathers_none c ts g v b t = record { values = ap (map value_of) v; is_fed = b; states = ap (map tree_of) t }

pub gathers_more : (c : Chain) (ts : Types) (P : List Rows) (R : Rows) (g h : Gathered) (a : Answer) → Gathers c ts P g → Answers c ts R a →
    h.values ≡ g.values ++ a.value ∷ [] → h.is_fed ≡ (g.is_fed || a.is_fed) → h.states ≡ g.states ++ a.state ∷ [] → Gathers c ts (P ++ R ∷ []) h
gathers_more c ts P R g h a k m v b t = record {
  values = ap (map value_of) v ∙ map-append value_of g.values (a.value ∷ []) ∙ ap₂ (λ xs x. xs ++ x ∷ []) k.values m.value ∙ sym (map-append (meaning_of c ts) P (R ∷ []));
  is_fed = b ∙ ap₂ (λ x y. x || y) k.is_fed m.is_fed ∙ sym (some-append (fed_of c ts) P R);
  states = ap (map tree_of) t ∙ map-append tree_of g.states (a.state ∷ []) ∙ ap₂ (λ xs x. xs ++ x ∷ []) k.states m.state ∙ sym (map-append (normal_of c ts) P (R ∷ []));
}

places_next : (k n : ℕ) → places k (suc n) ≡ places k n ++ (k + n) ∷ []
places_next k zero = ap (λ i. i ∷ []) (let e : k ≡ k + 0 = omega arith in e)
places_next k (suc n) = ap (λ l. k ∷ l) (places_next (suc k) n ∙ ap (λ i. places (suc k) n ++ i ∷ []) (let e : suc k + n ≡ k + suc n = omega arith in e))

pub parts_next : (f : ℕ → Rows) (n : ℕ) → map f (places 0 (n + 1)) ≡ map f (places 0 n) ++ f n ∷ []
parts_next f n =
    ap (λ k. map f (places 0 k)) (add-one n)
    ∙ ap (map f) (places_next 0 n ∙ ap (λ i. places 0 n ++ i ∷ []) (let e : 0 + n ≡ n = omega arith in e))
    ∙ map-append f (places 0 n) (n ∷ [])

pub parts_more : (c : Chain) (ts : Types) (f : ℕ → Rows) (n : ℕ) (S : Rows) (g h : Gathered) (a : Answer) →
    Gathers c ts (map f (places 0 n)) g → S ≡ f n → Answers c ts S a →
    h.values ≡ g.values ++ a.value ∷ [] → h.is_fed ≡ (g.is_fed || a.is_fed) → h.states ≡ g.states ++ a.state ∷ [] →
    Gathers c ts (map f (places 0 (n + 1))) h
parts_more c ts f n S g h a k e m v b t =
    subst (λ P. Gathers c ts P h) (sym (parts_next f n))
    (gathers_more c ts (map f (places 0 n)) (f n) g h a k (subst (λ R. Answers c ts R a) e m) v b t)

-- -ForEach
pub each_evaluated : (x d : Chain) (ts us : Types) (R S : Rows) (i : ℕ) → x ≡ ForEach d → us ≡ inward (ForEach d) ts → S ≡ rows_at i R → IsEvaluated x ts R → IsEvaluated d us S
each_evaluated x d ts us R S i e f g h =
    let k : IsEvaluated (ForEach d) ts R = subst (λ l. IsEvaluated l ts R) e h in
    subst (λ l. IsEvaluated d l S) (sym f) (subst (λ l. IsEvaluated d (inward (ForEach d) ts) l) (sym g) (k i))

pub each_answers : (x d : Chain) (ts us : Types) (R : Rows) (n : ℕ) (g : Gathered) (a : Answer) → x ≡ ForEach d → us ≡ inward (ForEach d) ts → n ≡ place_count R →
    Gathers d us (map (λ i. rows_at i R) (places 0 n)) g →
    value_of a.value ≡ list_value (map value_of g.values) → a.is_fed ≡ g.is_fed → tree_of a.state ≡ slots_tree (map tree_of g.states) → Answers x ts R a
each_answers x d ts us R n g a e f h k v b t =
    let m : Gathers d (inward (ForEach d) ts) (map (λ i. rows_at i R) (places 0 (place_count R))) g =
    subst (λ l. Gathers d l (map (λ i. rows_at i R) (places 0 (place_count R))) g) f (subst (λ l. Gathers d us (map (λ i. rows_at i R) (places 0 l)) g) h k) in
    subst (λ l. Answers l ts R a) (sym e) (record {
      value = v ∙ ap list_value m.values ∙ sym (each_means d ts R);
      is_fed = b ∙ m.is_fed ∙ sym (each_fed d ts R);
      state = t ∙ ap slots_tree m.states ∙ sym (each_normal d ts R);
    })

-- -Resample
pub resample_evaluated : (start end : ℤ) (step : ℕ) (x d : Chain) (ts us : Types) (R S : Rows) (j : ℕ) → x ≡ Resample start end step d → us ≡ inward (Resample start end step d) ts →
    S ≡ rows_inside start end step j R → IsEvaluated x ts R → IsEvaluated d us S
resample_evaluated start end step x d ts us R S j e f g h =
    let k : IsEvaluated (Resample start end step d) ts R = subst (λ l. IsEvaluated l ts R) e h in
    subst (λ l. IsEvaluated d l S) (sym f) (subst (λ l. IsEvaluated d (inward (Resample start end step d) ts) l) (sym g) (k j))

pub resample_answers : (start end : ℤ) (step : ℕ) (x d : Chain) (ts us : Types) (R : Rows) (n : ℕ) (g : Gathered) (a : Answer) → x ≡ Resample start end step d →
    us ≡ inward (Resample start end step d) ts → n ≡ intervals start end step →
    Gathers d us (map (λ j. rows_inside start end step j R) (places 0 n)) g →
    value_of a.value ≡ list_value (map value_of g.values) → a.is_fed ≡ g.is_fed → tree_of a.state ≡ slots_tree (map tree_of g.states) → Answers x ts R a
resample_answers start end step x d ts us R n g a e f h k v b t =
    let m : Gathers d (inward (Resample start end step d) ts) (map (λ j. rows_inside start end step j R) (places 0 (intervals start end step))) g =
    subst (λ l. Gathers d l (map (λ j. rows_inside start end step j R) (places 0 (intervals start end step))) g) f
    (subst (λ l. Gathers d us (map (λ j. rows_inside start end step j R) (places 0 l)) g) h k) in
    subst (λ l. Answers l ts R a) (sym e) (record {
      value = v ∙ ap list_value m.values ∙ sym (resample_means start end step d ts R);
      is_fed = b ∙ m.is_fed ∙ sym (resample_fed start end step d ts R);
      state = t ∙ ap slots_tree m.states ∙ sym (resample_normal start end step d ts R);
    })

-- -Map
pub keys_none : (c : Chain) (ts : Types) (R : Rows) (k : Keyed) → k.pairs ≡ [] → k.is_fed ≡ false → k.entries ≡ [] → AtKeys c ts R [] k
keys_none c ts R k p b t = record { pairs = ap (map image_of) p; is_fed = b; entries = ap (map entry_of) t }

pub keys_more : (c : Chain) (ts : Types) (R S : Rows) (ks : List family.Value) (key : family.Value) (k l : Keyed) (a : Answer) →
    AtKeys c ts R ks k → S ≡ rows_at_key key R → Answers c ts S a →
    map image_of l.pairs ≡ map image_of k.pairs ++ (key, value_of a.value) ∷ [] → l.is_fed ≡ (k.is_fed || a.is_fed) →
    map entry_of l.entries ≡ map entry_of k.entries ++ (key, tree_of a.state) ∷ [] → AtKeys c ts R (ks ++ key ∷ []) l
keys_more c ts R S ks key k l a h e n p b t =
    let m : Answers c ts (rows_at_key key R) a = subst (λ z. Answers c ts z a) e n in
    record {
      pairs = p ∙ ap₂ (λ xs x. xs ++ (key, x) ∷ []) h.pairs m.value ∙ sym (map-append (λ y. (y, meaning_of c ts (rows_at_key y R))) ks (key ∷ []));
      is_fed = b ∙ ap₂ (λ x y. x || y) h.is_fed m.is_fed ∙ sym (some-append (fed_of c ts) (map (λ y. rows_at_key y R) ks) (rows_at_key key R))
          ∙ sym (ap (some (fed_of c ts)) (map-append (λ y. rows_at_key y R) ks (key ∷ [])));
      entries = t ∙ ap₂ (λ xs x. xs ++ (key, x) ∷ []) h.entries m.state ∙ sym (map-append (λ y. (y, normal_of c ts (rows_at_key y R))) ks (key ∷ []));
    }

pub map_evaluated : (x d : Chain) (ts us : Types) (R S : Rows) (key : family.Value) → x ≡ MapOf d → us ≡ inward (MapOf d) ts → S ≡ rows_at_key key R → IsEvaluated x ts R → IsEvaluated d us S
map_evaluated x d ts us R S key e f g h =
    let k : IsEvaluated (MapOf d) ts R = subst (λ l. IsEvaluated l ts R) e h in
    subst (λ l. IsEvaluated d l S) (sym f) (subst (λ l. IsEvaluated d (inward (MapOf d) ts) l) (sym g) (k key))

pub map_answers : (x d : Chain) (ts us : Types) (R : Rows) (ks : List family.Value) (k : Keyed) (a : Answer) → x ≡ MapOf d → us ≡ inward (MapOf d) ts → ks ≡ row_keys R →
    AtKeys d us R ks k → value_of a.value ≡ map_value (map image_of k.pairs) → a.is_fed ≡ k.is_fed → tree_of a.state ≡ keyed_tree (map entry_of k.entries) → Answers x ts R a
map_answers x d ts us R ks k a e f g h v b t =
    let m : AtKeys d (inward (MapOf d) ts) R (row_keys R) k =
    subst (λ l. AtKeys d l R (row_keys R) k) f (subst (λ l. AtKeys d us R l k) g h) in
    subst (λ l. Answers l ts R a) (sym e) (record {
      value = v ∙ ap map_value m.pairs ∙ sym (map_means d ts R);
      is_fed = b ∙ m.is_fed ∙ sym (map_fed d ts R);
      state = t ∙ ap keyed_tree m.entries ∙ sym (map_normal d ts R);
    })

-- the same where the inner chain, its types and the rows are lent
pub parts_turn : (c d : Chain) (ts us : Types) (f : ℕ → Rows) (n : ℕ) (S : Rows) (g h : Gathered) (a : Answer) →
    Gathers c ts (map f (places 0 n)) g → d ≡ c → us ≡ ts → S ≡ f n → Answers d us S a →
    h.values ≡ g.values ++ a.value ∷ [] → h.is_fed ≡ (g.is_fed || a.is_fed) → h.states ≡ g.states ++ a.state ∷ [] →
    Gathers c ts (map f (places 0 (n + 1))) h
parts_turn c d ts us f n S g h a k p q e m v b t =
    parts_more c ts f n S g h a k e (subst (λ x. Answers x ts S a) p (subst (λ x. Answers d x S a) q m)) v b t

keys_next : (xs : List Value) (i : ℕ) (x : Value) → i < length xs → x ≡ get_or xs i x → map value_of (take (i + 1) xs) ≡ map value_of (take i xs) ++ value_of x ∷ []
keys_next xs i x h e =
    ap (λ n. map value_of (take n xs)) (add-one i) ∙ go xs i h ∙ ap (λ y. map value_of (take i xs) ++ value_of y ∷ []) (sym e)
  where
    go : (xs : List Value) (i : ℕ) → i < length xs → map value_of (take (suc i) xs) ≡ map value_of (take i xs) ++ value_of (get_or xs i x) ∷ []
    go [] i h = absurd (omega arith)
    go (y ∷ ys) zero h = refl
    go (y ∷ ys) (suc i) h = ap (λ l. value_of y ∷ l) (go ys i (omega arith))

pub keys_turn : (c d : Chain) (ts us : Types) (R S : Rows) (xs : List Value) (i : ℕ) (x : Value) (k l : Keyed) (a : Answer) →
    AtKeys c ts R (map value_of (take i xs)) k → d ≡ c → us ≡ ts → i < length xs → x ≡ get_or xs i x → S ≡ rows_at_key (value_of x) R → Answers d us S a →
    map image_of l.pairs ≡ map image_of k.pairs ++ (value_of x, value_of a.value) ∷ [] → l.is_fed ≡ (k.is_fed || a.is_fed) →
    map entry_of l.entries ≡ map entry_of k.entries ++ (value_of x, tree_of a.state) ∷ [] →
    AtKeys c ts R (map value_of (take (i + 1) xs)) l
keys_turn c d ts us R S xs i x k l a h p q n e s m v b t =
    subst (λ z. AtKeys c ts R z l) (sym (keys_next xs i x n e))
    (keys_more c ts R S (map value_of (take i xs)) (value_of x) k l a h s (subst (λ z. Answers z ts S a) p (subst (λ z. Answers d z S a) q m)) v b t)
