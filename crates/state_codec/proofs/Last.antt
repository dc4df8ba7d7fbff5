-- Items in view of those before them, of which the last counts.
use Rattle.std.proofs.Common.{◌≡◌, List, [], ◌∷◌, ◌++◌, map, Ordering, refl, ap, ◌∙◌}
use Rattle.std.specs.Ordering.{is_le, is_lt}
use Rattle.agg_terms.specs.Values as family
use Rattle.value_types.specs.declared.value.KeyedTree.{KeyedTree}
use Rattle.value_types.specs.declared.value.Tree.TheFolds.{fold-roll-KeyedTree}
use Rattle.value_types.specs.Folds.{entry_of, entry_step, tree_step, value_of, value_step}
use Rattle.state_codec.specs.Reading.{holds_up, rises}
use Rattle.state_codec.specs.proving.Views.{behind, keys_of}

last_behind : {X Y : Type 0} (f : X → Y) (front : List X) (last : X) → behind (map f (front ++ last ∷ [])) ≡ f last ∷ behind (map f front)
last_behind f [] last = refl
last_behind {X = X} {Y = Y} f (x ∷ front) last = ap (λ (l : List Y). l ++ f x ∷ []) (last_behind f front last)

module _ {X Y : Type 0} (f : X → Y) (cmp : Y → Y → Ordering) (earlier front : List X) (last : X) (y : Y) where
  pub last_rises : earlier ≡ front ++ last ∷ [] → rises cmp (behind (map f earlier)) y ≡ is_lt (cmp (f last) y)
  last_rises e = ap (λ es. rises cmp (behind (map f es)) y) e ∙ ap (λ es. rises cmp es y) (last_behind f front last)

  pub last_holds : earlier ≡ front ++ last ∷ [] → holds_up cmp (behind (map f earlier)) y ≡ is_le (cmp (f last) y)
  last_holds e = ap (λ es. holds_up cmp (behind (map f es)) y) e ∙ ap (λ es. holds_up cmp es y) (last_behind f front last)

pub last_key : {X : Type 0} (f : X → family.Value × family.Tree) (cmp : family.Value → family.Value → Ordering) (earlier front : List X) (last : X) (y : family.Value) →
    earlier ≡ front ++ last ∷ [] → rises cmp (keys_of (behind (map f earlier))) y ≡ is_lt (cmp (f last).0 y)
last_key f cmp earlier front last y e =
    ap (λ es. rises cmp (keys_of (behind (map f es))) y) e ∙ ap (λ es. rises cmp (keys_of es) y) (last_behind f front last)

-- the key of an entry
pub entry_key : (e : KeyedTree) → (entry_of e).0 ≡ value_of e.key
entry_key e = ap (λ p. p.0) (fold-roll-KeyedTree family.Tree family.Value (family.Value × family.Tree) tree_step value_step entry_step (record { key = e.key; tree = e.tree }))

pub ruleset last_laws = (last_rises, last_holds, last_key)
