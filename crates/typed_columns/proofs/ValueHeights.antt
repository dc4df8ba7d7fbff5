-- How deeply a value is nested: the measure of copying it.
use Rattle.std.proofs.Common.{◌≡◌, ℕ, zero, suc, ◌+◌, ◌≤◌, ◌<◌, max, List, [], ◌∷◌, length, map, get_or, ap, sym, ◌∙◌, arith, subst, refl}
use Rattle.std.specs.Prelude.{Some}
use Rattle.std.specs.List.{slice_get}
use Rattle.std.proofs.lemmas.Option.{slice_get_within, get_or_from_slice_get}
use Rattle.std.proofs.lemmas.List.{length-map}
use Rattle.value_types.specs.declared.value.Value.{Value}
use Rattle.value_types.specs.declared.value.Value.TheVariants as value
use Rattle.value_types.specs.declared.value.Tree.TheOpen.{Value-F, Tree-F, KeyedTree-F}
use Rattle.value_types.specs.declared.value.Tree.TheFolds.{fold-Value, fold-roll-Value}

abbrev pub greatest : List ℕ → ℕ
greatest [] = 0
greatest (n ∷ ns) = max n (greatest ns)

abbrev tree_layer : Tree-F ℕ ℕ ℕ → ℕ
tree_layer layer = 0

abbrev value_layer : Value-F ℕ ℕ ℕ → ℕ
value_layer (Value-F.List items) = greatest items + 1
value_layer (Value-F.Pairs entries) = greatest (map (λ e. max e.0 e.1) entries) + 1
value_layer layer = 0

abbrev entry_layer : KeyedTree-F ℕ ℕ ℕ → ℕ
entry_layer layer = 0

-- how many arrays and maps stand one inside another
abbrev pub value_height : Value → ℕ
value_height = fold-Value ℕ ℕ ℕ tree_layer value_layer entry_layer

abbrev pub list_height : List Value → ℕ
list_height values = greatest (map value_height values)

abbrev pub entries_height : List (Value × Value) → ℕ
entries_height entries = greatest (map (λ e. max (value_height e.0) (value_height e.1)) entries)

pub value_height-List : (values : List Value) → value_height (value.List values) ≡ list_height values + 1
value_height-List values = ap value_height (sym (value.rolls-List values)) ∙ fold-roll-Value ℕ ℕ ℕ tree_layer value_layer entry_layer (Value-F.List values)

both : (entries : List (Value × Value)) →
    greatest (map (λ (e : ℕ × ℕ). max e.0 e.1) (map (λ (e : Value × Value). (value_height e.0, value_height e.1)) entries)) ≡ entries_height entries
both [] = refl
both (e ∷ entries) = ap (max (max (value_height e.0) (value_height e.1))) (both entries)

pub value_height-Pairs : (entries : List (Value × Value)) → value_height (value.Pairs entries) ≡ entries_height entries + 1
value_height-Pairs entries =
    ap value_height (sym (value.rolls-Pairs entries)) ∙ fold-roll-Value ℕ ℕ ℕ tree_layer value_layer entry_layer (Value-F.Pairs entries)
    ∙ ap (λ n. n + 1) (both entries)

element_at : (values : List Value) (i : ℕ) (d : Value) → i < length values → value_height (get_or values i d) ≤ list_height values
element_at [] i d h = absurd (omega arith)
element_at (v ∷ values) zero d h = omega arith
element_at (v ∷ values) (suc i) d h = omega (arith, element_at values i d (omega arith))

key_at : (entries : List (Value × Value)) (i : ℕ) (d : Value) → i < length entries → value_height (get_or (map (λ e. e.0) entries) i d) ≤ entries_height entries
key_at [] i d h = absurd (omega arith)
key_at (e ∷ entries) zero d h = omega arith
key_at (e ∷ entries) (suc i) d h = omega (arith, key_at entries i d (omega arith))

value_at : (entries : List (Value × Value)) (i : ℕ) (d : Value) → i < length entries → value_height (get_or (map (λ e. e.1) entries) i d) ≤ entries_height entries
value_at [] i d h = absurd (omega arith)
value_at (e ∷ entries) zero d h = omega arith
value_at (e ∷ entries) (suc i) d h = omega (arith, value_at entries i d (omega arith))

pub element_is_lower : (values : List Value) (i : ℕ) (v : Value) → slice_get values i ≡ Some v → value_height v ≤ list_height values
element_is_lower values i v is =
    subst (λ x. value_height x ≤ list_height values) (get_or_from_slice_get values i v v is) (element_at values i v (slice_get_within values i v is))

pub key_is_lower : (entries : List (Value × Value)) (i : ℕ) (k : Value) → slice_get (map (λ e. e.0) entries) i ≡ Some k → value_height k ≤ entries_height entries
key_is_lower entries i k is =
    let keys = map (λ (e : Value × Value). e.0) entries in
    subst (λ x. value_height x ≤ entries_height entries) (get_or_from_slice_get keys i k k is)
    (key_at entries i k (omega (arith, slice_get_within keys i k is, length-map entries (λ (e : Value × Value). e.0))))

pub value_is_lower : (entries : List (Value × Value)) (i : ℕ) (v : Value) → slice_get (map (λ e. e.1) entries) i ≡ Some v → value_height v ≤ entries_height entries
value_is_lower entries i v is =
    let values = map (λ (e : Value × Value). e.1) entries in
    subst (λ x. value_height x ≤ entries_height entries) (get_or_from_slice_get values i v v is)
    (value_at entries i v (omega (arith, slice_get_within values i v is, length-map entries (λ (e : Value × Value). e.1))))

pub ruleset height_laws = (value_height-List, value_height-Pairs, element_is_lower, key_is_lower, value_is_lower)
