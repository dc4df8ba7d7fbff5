-- Equal images come from equal values: what a contract says of an image, it says of the value.
use Rattle.std.specs.Prelude.{◌≡◌}
use Rattle.value_types.specs.Folds.{chain_of, event_of, item_of, leaf_of, link_of, op_of, pattern_of, tree_of, ty_of, value_of}

-- different arguments have different images
abbrev pub IsOneToOne : {X Y : Type 0} → (X → Y) → Type 0
IsOneToOne {X} f = (a b : X) → f a ≡ f b → a ≡ b

-- each fold loses nothing
pub record FoldsLoseNothing : Type 0 where
  pub ops : IsOneToOne op_of
  pub items : IsOneToOne item_of
  pub links : IsOneToOne link_of
  pub patterns : IsOneToOne pattern_of
  pub leaves : IsOneToOne leaf_of
  pub chains : IsOneToOne chain_of
  pub types : IsOneToOne ty_of
  pub events : IsOneToOne event_of
  pub values : IsOneToOne value_of
  pub trees : IsOneToOne tree_of
