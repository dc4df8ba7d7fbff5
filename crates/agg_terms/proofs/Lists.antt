-- A list made into the family of values and trees is read back.
use Rattle.std.proofs.Common.{◌≡◌, List, [], ◌∷◌, refl, ap, ap₂}
use Rattle.agg_terms.specs.Values.{Value, Tree, values, values_list, entries, entries_list, table, table_list, trees, trees_list, keyed_trees, keyed_list}

pub values_back : (vs : List Value) → values_list (values vs) ≡ vs
values_back [] = refl
values_back (v ∷ vs) = ap (◌∷◌ v) (values_back vs)

pub entries_back : (es : List (Value × Value)) → entries_list (entries es) ≡ es
entries_back [] = refl
entries_back (e ∷ es) = ap (◌∷◌ e) (entries_back es)

pub table_back : (rs : List (List Value)) → table_list (table rs) ≡ rs
table_back [] = refl
table_back (r ∷ rs) = ap₂ ◌∷◌ (values_back r) (table_back rs)

pub trees_back : (ts : List Tree) → trees_list (trees ts) ≡ ts
trees_back [] = refl
trees_back (t ∷ ts) = ap (◌∷◌ t) (trees_back ts)

pub keyed_back : (es : List (Value × Tree)) → keyed_list (keyed_trees es) ≡ es
keyed_back [] = refl
keyed_back (e ∷ es) = ap (◌∷◌ e) (keyed_back es)
