-- The parts of a row that a suffix splits off or opens.
use Rattle.std.proofs.Common.{◌≡◌, sym, subst, Bool, true, List, [], ◌∷◌, map, None}
use Rattle.agg_terms.specs.Chains.{Arr, MapTy, Nullable, Signed, StateOf, Str, Ty, Whole}
use Rattle.agg_terms.specs.Lists.{Each, front}
use Rattle.agg_terms.specs.Trees.{IsPlain, IsValue}
use Rattle.agg_terms.specs.Types.{element, key_type, map_part}
use Rattle.agg_terms.specs.Values.{Nil, Value}
use Rattle.agg_terms.proofs.Lists.{entries_back, values_back}
use Rattle.agg_meaning.specs.Feeds.{AreValues, entries_of, items_of, last, tuples, zip_with}
use Rattle.agg_meaning.proofs.LeafTrees.{each_map}
use Rattle.agg_typing.specs.Faults.{ArgType}
use Rattle.agg_typing.specs.Kinds.{Arg, is_array, is_map, last_is}
use Rattle.agg_typing.proofs.Tests.{cond_none, types}
use Rattle.agg_terms.specs.Widths.{IsNarrow}

-- what holds of the last argument of a kind
pub last_value : (kind : Ty → Bool) (P : Value → Type 0) →
    (tells : (t : Ty) (v : Value) → kind t ≡ true → IsNarrow t → IsValue t v → P v) → P Nil →
    (args : List Arg) (r : List Value) → last_is kind args ≡ None → Each IsNarrow (types args) → AreValues (types args) r →
    P (last Nil r)
last_value kind P tells nil [] [] h n k = nil
last_value kind P tells nil [] (v ∷ vs) h n k = absurd k
last_value kind P tells nil (a ∷ args) [] h n k = absurd k
last_value kind P tells nil (a ∷ []) (v ∷ []) h n k = tells a.1 v (cond_none (kind a.1) None (ArgType a.0) h).0 n.0 k.0
last_value kind P tells nil (a ∷ []) (v ∷ w ∷ vs) h n k = absurd k.1
last_value kind P tells nil (a ∷ b ∷ args) (v ∷ []) h n k = absurd k.1
last_value kind P tells nil (a ∷ b ∷ args) (v ∷ w ∷ vs) h n k = last_value kind P tells nil (b ∷ args) (w ∷ vs) h n.1 k.1

pub front_values : (ts : List Ty) (r : List Value) → AreValues ts r → AreValues (front ts) (front r)
front_values [] [] k = tt
front_values [] (v ∷ vs) k = absurd k
front_values (t ∷ ts) [] k = absurd k
front_values (t ∷ []) (v ∷ []) k = tt
front_values (t ∷ []) (v ∷ w ∷ vs) k = absurd k.1
front_values (t ∷ u ∷ ts) (v ∷ []) k = absurd k.1
front_values (t ∷ u ∷ ts) (v ∷ w ∷ vs) k = (k.0, front_values (u ∷ ts) (w ∷ vs) k.1)

pub front_narrow : (ts : List Ty) → Each IsNarrow ts → Each IsNarrow (front ts)
front_narrow [] n = tt
front_narrow (t ∷ []) n = tt
front_narrow (t ∷ u ∷ ts) n = (n.0, front_narrow (u ∷ ts) n.1)

pub element_narrow : (t : Ty) → IsNarrow t → IsNarrow (element t)
element_narrow (Arr t) n = n
element_narrow (Whole m) n = n
element_narrow (Signed w) n = n
element_narrow Str n = n
element_narrow (MapTy k t) n = n
element_narrow (Nullable t) n = n
element_narrow (StateOf c ts) n = n

pub part_narrow : (t : Ty) → IsNarrow t → IsNarrow (map_part t)
part_narrow (MapTy k t) n = n.1
part_narrow (Arr t) n = n
part_narrow (Whole m) n = n
part_narrow (Signed w) n = n
part_narrow Str n = n
part_narrow (Nullable t) n = n
part_narrow (StateOf c ts) n = n

-- the elements of an array
abbrev pub IsArray : Ty → Type 0
IsArray t = is_array t ≡ true

items : (t : Ty) (v : Value) → IsArray t → IsValue t v → Each (IsValue (element t)) (items_of v)
items (Arr t) v h k =
    subst (λ w. Each (IsValue t) (items_of w)) (sym k.1) (subst (Each (IsValue t)) (sym (values_back k.0)) k.2)
items (Whole n) v h k = cc h
items (Signed w) v h k = cc h
items Str v h k = cc h
items (MapTy j t) v h k = cc h
items (Nullable t) v h k = cc h
items (StateOf c ts) v h k = cc h

zipped : {X Y Z : Type 0} (P : X → Type 0) (Q : Y → Type 0) (R : Z → Type 0) (f : X → Y → Z) →
    ((x : X) (y : Y) → P x → Q y → R (f x y)) → (xs : List X) (ys : List Y) → Each P xs → Each Q ys → Each R (zip_with f xs ys)
zipped P Q R f both [] ys p q = tt
zipped P Q R f both (x ∷ xs) [] p q = tt
zipped P Q R f both (x ∷ xs) (y ∷ ys) p q = (both x y p.0 q.0, zipped P Q R f both xs ys p.1 q.1)

-- the rows of elements at equal places
pub tuples_are : (ts : List Ty) (r : List Value) → Each IsArray ts → AreValues ts r → Each (AreValues (map element ts)) (tuples r)
tuples_are [] [] a k = tt
tuples_are [] (v ∷ vs) a k = absurd k
tuples_are (t ∷ ts) [] a k = absurd k
tuples_are (t ∷ []) (v ∷ []) a k =
    each_map (IsValue (element t)) (AreValues (element t ∷ [])) (λ x. x ∷ []) (λ x h. (h, tt)) (items_of v) (items t v a.0 k.0)
tuples_are (t ∷ []) (v ∷ w ∷ vs) a k = absurd k.1
tuples_are (t ∷ u ∷ ts) (v ∷ []) a k = absurd k.1
tuples_are (t ∷ u ∷ ts) (v ∷ w ∷ ws) a k =
    zipped (IsValue (element t)) (AreValues (map element (u ∷ ts))) (AreValues (map element (t ∷ u ∷ ts)))
    (λ x row. x ∷ row) (λ x row p q. (p, q)) (items_of v) (tuples (w ∷ ws)) (items t v a.0 k.0) (tuples_are (u ∷ ts) (w ∷ ws) a.1 k.1)

-- the entries of a map
pub entries_are : (t : Ty) (v : Value) → is_map t ≡ true → IsValue t v →
    Each (λ e. IsPlain (key_type t) e.0 × IsValue (map_part t) e.1) (entries_of v)
entries_are (MapTy j t) v h k =
    subst (λ w. Each (λ e. IsPlain j e.0 × IsValue t e.1) (entries_of w)) (sym k.1)
    (subst (Each (λ e. IsPlain j e.0 × IsValue t e.1)) (sym (entries_back k.0)) k.2)
entries_are (Arr t) v h k = cc h
entries_are (Whole n) v h k = cc h
entries_are (Signed w) v h k = cc h
entries_are Str v h k = cc h
entries_are (Nullable t) v h k = cc h
entries_are (StateOf c ts) v h k = cc h
