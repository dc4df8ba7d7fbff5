-- The tests of values and trees at the code's own lists.
use Rattle.std.proofs.Common.{◌≡◌, ◌&&◌, Bool, true, ℕ, suc, ◌<◌, ◌^◌, nat_lt, get_or, List, [], ◌∷◌, map, refl, ap, ap₂, sym, ◌∙◌}
use Rattle.std.specs.List.{list_all}
use Rattle.std.proofs.lemmas.Bool.{lt-ltb}
use Rattle.std.proofs.lemmas.List.Folds.{list_all-map}
use Rattle.agg_terms.specs.Values as family
use Rattle.agg_terms.specs.Fitting.{has_entries, has_items}
use Rattle.agg_terms.proofs.Lists.{entries_back, values_back}
use Rattle.value_types.specs.declared.value.Value.{Value}
use Rattle.value_types.specs.declared.value.Value.TheVariants as value
use Rattle.value_types.specs.Folds.{value_of}
use Rattle.value_types.proofs.FoldLaws.{value_of-List, value_of-Pairs}

pub items_at : (test : family.Value → Bool) (v : Value) (xs : List Value) → v ≡ value.List xs → has_items (list_all test) (value_of v) ≡ list_all (λ x. test (value_of x)) xs
items_at test v xs e = ap (has_items (list_all test)) (ap value_of e ∙ value_of-List xs) ∙ ap (list_all test) (values_back (map value_of xs)) ∙ list_all-map test value_of xs

pub keys_at : (test : family.Value → Bool) (v : Value) (xs : List (Value × Value)) → v ≡ value.Pairs xs → has_entries (list_all (λ e. test e.0)) (value_of v) ≡ list_all (λ e. test (value_of e.0)) xs
keys_at test v xs e =
    ap (has_entries (list_all (λ e. test e.0))) (ap value_of e ∙ value_of-Pairs xs)
    ∙ ap (list_all (λ e. test e.0)) (entries_back (map (λ e. (value_of e.0, value_of e.1)) xs))
    ∙ list_all-map (λ e. test e.0) (λ e. (value_of e.0, value_of e.1)) xs

pub entries_at : (test : family.Value → Bool) (v : Value) (xs : List (Value × Value)) → v ≡ value.Pairs xs → has_entries (list_all (λ e. test e.1)) (value_of v) ≡ list_all (λ e. test (value_of e.1)) xs
entries_at test v xs e =
    ap (has_entries (list_all (λ e. test e.1))) (ap value_of e ∙ value_of-Pairs xs)
    ∙ ap (list_all (λ e. test e.1)) (entries_back (map (λ e. (value_of e.0, value_of e.1)) xs))
    ∙ list_all-map (λ e. test e.1) (λ e. (value_of e.0, value_of e.1)) xs

pub ruleset value_laws = (items_at, keys_at, entries_at)

pub all_bytes : (bytes : List ℕ) → ((i : ℕ) → get_or bytes i 0 < 256) → true ≡ list_all (λ b. nat_lt b (2 ^ 8)) bytes
all_bytes [] f = refl
all_bytes (b ∷ bs) f = ap₂ ◌&&◌ (sym (lt-ltb b (2 ^ 8) (f 0))) (all_bytes bs (λ i. f (suc i)))
