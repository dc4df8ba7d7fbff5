-- What is read is of its type.
use Rattle.std.proofs.Common.{◌≡◌, Bool, true, false, ◌&&◌, ◌||◌, List, [], ◌∷◌, map, refl, ap, ◌∙◌}
use Rattle.std.specs.List.{list_all}
use Rattle.std.proofs.lemmas.Bool.{and_parts}
use Rattle.agg_terms.specs.Chains as terms
use Rattle.agg_terms.specs.Fitting.{fits_plain, fits_value, has_entries, has_items, is_nil}
use Rattle.agg_terms.specs.Values as family
use Rattle.agg_terms.proofs.Lists.{entries_back, values_back}
use Rattle.value_types.specs.declared.value.Value.{Value}
use Rattle.value_types.specs.declared.value.Value.TheVariants as value
use Rattle.value_types.specs.Folds.{value_of}
use Rattle.value_types.proofs.FoldLaws.{value_of-List, value_of-Pairs}
use Rattle.scalar_texts.specs.States.{AllStates}
use Rattle.tsv_values.specs.Answer.{KeysArePlain}
use Rattle.tsv_values.proofs.ElementKinds.{pair_of}
use Rattle.tsv_values.proofs.Texts.{each_so}

all_map : {X Y : Type 0} (p : Y → Bool) (f : X → Y) (xs : List X) → list_all p (map f xs) ≡ list_all (λ x. p (f x)) xs
all_map p f [] = refl
all_map p f (x ∷ xs) = ap (λ b. p (f x) && b) (all_map p f xs)

pub fits_list : (t : terms.Ty) (xs : List Value) → list_all (λ v. fits_value t (value_of v)) xs ≡ true → fits_value (terms.Arr t) (value_of (value.List xs)) ≡ true
fits_list t xs h = ap (fits_value (terms.Arr t)) (value_of-List xs) ∙ ap (list_all (fits_value t)) (values_back (map value_of xs)) ∙ all_map (fits_value t) value_of xs ∙ h

pub fits_pairs : (k t : terms.Ty) (es : List (Value × Value)) → list_all (λ e. fits_plain k (value_of e.0) && fits_value t (value_of e.1)) es ≡ true → fits_value (terms.MapTy k t) (value_of (value.Pairs es)) ≡ true
fits_pairs k t es h =
    let test : family.Value × family.Value → Bool = λ e. fits_plain k e.0 && fits_value t e.1 in
    ap (fits_value (terms.MapTy k t)) (value_of-Pairs es) ∙ ap (list_all test) (entries_back (map pair_of es)) ∙ all_map test pair_of es ∙ h

pub stateless_keys : (t : terms.Ty) → AllStates (λ _. ⊥) t → KeysArePlain t
stateless_keys (terms.Arr t) h = stateless_keys t h
stateless_keys (terms.MapTy k t) h = (h.0, stateless_keys t h.1)
stateless_keys (terms.Nullable t) h = stateless_keys t h
stateless_keys (terms.Whole n) h = tt
stateless_keys (terms.Signed w) h = tt
stateless_keys terms.Str h = tt
stateless_keys (terms.StateOf c ts) h = tt

abbrev Pair : Type 0
Pair = family.Value × family.Value

items_so : (p q : family.Value → Bool) → ((v : family.Value) → p v ≡ true → q v ≡ true) → (v : family.Value) → has_items (list_all p) v ≡ true → has_items (list_all q) v ≡ true
items_so p q f (family.Items vs) h = each_so p q f (family.values_list vs) h
items_so p q f v h = absurd cc

entries_so : (p q : Pair → Bool) → ((e : Pair) → p e ≡ true → q e ≡ true) → (v : family.Value) → has_entries (list_all p) v ≡ true → has_entries (list_all q) v ≡ true
entries_so p q f (family.Pairs es) h = each_so p q f (family.entries_list es) h
entries_so p q f v h = absurd cc

either_so : (a b c : Bool) → (b ≡ true → c ≡ true) → (a || b) ≡ true → (a || c) ≡ true
either_so true b c f h = refl
either_so false b c f h = f h

-- a value without a state is a plain one
pub value_is_plain : (t : terms.Ty) (v : family.Value) → AllStates (λ _. ⊥) t → fits_value t v ≡ true → fits_plain t v ≡ true
value_is_plain (terms.Whole n) v s h = h
value_is_plain (terms.Signed w) v s h = h
value_is_plain terms.Str v s h = h
value_is_plain (terms.Arr t) v s h = items_so (fits_value t) (fits_plain t) (λ v. value_is_plain t v s) v h
value_is_plain (terms.MapTy k t) v s h =
    entries_so (λ e. fits_plain k e.0 && fits_value t e.1) (λ e. fits_plain k e.0 && fits_plain t e.1)
    (λ e both. let b = and_parts (fits_plain k e.0) (fits_value t e.1) both in rw (b.0) (value_is_plain t e.1 s.1 b.1)) v h
value_is_plain (terms.Nullable t) v s h = either_so (is_nil v) (fits_value t v) (fits_plain t v) (value_is_plain t v s) h
value_is_plain (terms.StateOf c ts) v s h = absurd s

pub entry_fits : (k t : terms.Ty) (a b : family.Value) → AllStates (λ _. ⊥) k × KeysArePlain t → (KeysArePlain k → fits_value k a ≡ true) → (KeysArePlain t → fits_value t b ≡ true) → (fits_plain k a && fits_value t b) ≡ true
entry_fits k t a b plain f g = rw (value_is_plain k a plain.0 (f (stateless_keys k plain.0))) (g plain.1)
