-- What a table asks for and comes to when it is merged, with the lists at hand equal to those of the plan.
use Rattle.std.proofs.Common.{◌≡◌, ℕ, ◌<◌, ◌≤◌, List, [], ◌∷◌, length, map, get_or, ap, sym, ◌∙◌, subst, arith}
use Rattle.std.specs.List.{All}
use Rattle.agg_terms.specs.Values.{Value}
use Rattle.agg_meaning.specs.Feeds.{AreValues}
use Rattle.agg_meaning.specs.Laws.{TreesAreNormal, TreesUnfold}
use Rattle.agg_typing.specs.Promises.{LegalIsLawful}
use Rattle.value_types.specs.Folds.{tree_of, ty_of}
use Rattle.value_types.specs.declared.ty.Ty.{Ty}
use Rattle.value_types.specs.declared.ty.Ty.TheVariants as rust
use Rattle.value_types.specs.declared.value.Tree.{Tree}
use Rattle.key_methods.specs.Kinds.{AreKeyTypes}
use Rattle.group_keys.specs.Sets.{IsSetOf, Places, PlacesKeysOf, count_in}
use Rattle.group_keys.specs.declared.key_set.KeySet.{KeySet}
use Rattle.state_columns.specs.Trees.{trees_in}
use Rattle.state_columns.specs.declared.column.StateColumn.{StateColumn}
use Rattle.group_tables.specs.Calls.{calls_of}
use Rattle.group_tables.specs.Groupings.{IsReady, view_of}
use Rattle.group_tables.specs.Merging.{AreTreesOf, IsStoredLine, TakesLine, TakesTable}
use Rattle.group_tables.specs.Tables.{AreColumns, IsTableOf}
use Rattle.group_tables.specs.proving.Joined.{AreJoined}
use Rattle.group_tables.specs.declared.grouping.GroupCall.{GroupCall}
use Rattle.group_tables.specs.declared.grouping.Grouping.{Grouping}
use Rattle.group_tables.specs.declared.table.GroupTable.{GroupTable}
use Rattle.group_tables.proofs.Agreeing.{each-all, each-weaker}
use Rattle.group_tables.proofs.Facts.{kinds}
use Rattle.group_tables.proofs.MergeLaws.{takes-line, takes-table}
use Rattle.group_tables.proofs.TableLaws.{columns-long, count-held, places-many, places-within, room-for, view-legal}

module _ (g : Grouping) (ready : IsReady g) (old : GroupTable) (made : IsTableOf g old) (types : List Ty) (calls : List GroupCall) (ts-is : types ≡ g.key_types) (cs-is : calls ≡ g.calls) where
  pub ask-types : AreKeyTypes types
  ask-types = subst AreKeyTypes (sym ts-is) (kinds g ready)

  pub ask-set : (t : GroupTable) → IsTableOf g t → IsSetOf types t.keys
  ask-set t is = subst (λ ts. IsSetOf ts t.keys) (sym ts-is) (is.1.keys, is.1.held)

  pub ask-shape : (t : GroupTable) → IsTableOf g t → (columns : List StateColumn) → columns ≡ t.columns.items → AreColumns calls columns
  ask-shape t is columns ds-is = subst (λ cs. AreColumns cs columns) (sym cs-is) (subst (AreColumns g.calls) (sym ds-is) is.1.shape)

  -- what was joined to the calls at hand was joined to those of the plan
  joined-there : (new : GroupTable) (count : ℕ) (ps : List ℕ) (later : List (List _)) → count ≡ count_in new.keys →
      AreJoined calls count ps later (map trees_in old.columns.items) (map trees_in new.columns.items) →
      AreJoined g.calls (count_in new.keys) ps later (map trees_in old.columns.items) (map trees_in new.columns.items)
  joined-there new count ps later count-is joined =
      subst (λ cs. AreJoined cs (count_in new.keys) ps later (map trees_in old.columns.items) (map trees_in new.columns.items)) cs-is
      (subst (λ n. AreJoined calls n ps later (map trees_in old.columns.items) (map trees_in new.columns.items)) count-is joined)

  -- ---- a later table
  module _ (later : GroupTable) (is : IsTableOf g later) (new-keys : KeySet) (ps : List ℕ) (placed : PlacesKeysOf types old.keys new-keys later.keys ps)
      (count : ℕ) (count-is : count ≡ count_in new-keys) (qs : List ℕ) (qs-is : qs ≡ ps) where
    placed-there : PlacesKeysOf g.key_types old.keys new-keys later.keys qs
    placed-there =
        subst (λ l. PlacesKeysOf g.key_types old.keys new-keys later.keys l) (sym qs-is)
        (subst (λ ts. PlacesKeysOf ts old.keys new-keys later.keys ps) ts-is placed)

    each-there : Places g.key_types old.keys new-keys is.1.keys qs
    each-there = placed-there.each is.1.keys is.1.held

    pub ask-room : All (λ s. length (trees_in s) ≤ count) old.columns.items
    ask-room = room-for g old made new-keys is.1.keys qs each-there count count-is

    pub ask-places : All (λ p. p < count) qs
    ask-places = places-within g.key_types old.keys new-keys is.1.keys qs (made.1.keys, made.1.held) each-there count count-is

    pub ask-many : (columns : List StateColumn) → columns ≡ later.columns.items → All (λ s. length qs ≡ length (trees_in s)) columns
    ask-many columns ds-is =
        let many = places-many g.key_types old.keys new-keys is.1.keys qs (made.1.keys, made.1.held) each-there in
        let count = count-held g.key_types later.keys is.1.keys is.1.held in
        each-all (λ s. length qs ≡ length (trees_in s)) columns
        (each-weaker (λ s. length (trees_in s) ≡ count_in later.keys) (λ s. length qs ≡ length (trees_in s)) (λ s e. many ∙ sym count ∙ sym e) columns (columns-long g later is columns ds-is))

    pub merged : (columns : List StateColumn) → columns ≡ later.columns.items → (new : GroupTable) → new.keys ≡ new-keys →
        AreJoined calls count qs (map trees_in columns) (map trees_in old.columns.items) (map trees_in new.columns.items) → AreColumns calls new.columns.items → TakesTable g later old new
    merged columns ds-is new keys-are joined shape =
        takes-table g old new later qs (subst (λ k. PlacesKeysOf g.key_types old.keys k later.keys qs) (sym keys-are) placed-there)
        (subst (λ ds. AreJoined g.calls (count_in new.keys) qs (map trees_in ds) (map trees_in old.columns.items) (map trees_in new.columns.items)) ds-is
        (joined-there new count qs (map trees_in columns) (count-is ∙ ap count_in (sym keys-are)) joined))
        (subst (λ cs. AreColumns cs new.columns.items) cs-is shape)

  -- ---- a line
  module _ (key : List Value) (trees : List Tree) (line : IsStoredLine g key (map tree_of trees)) where
    pub ask-values : AreValues (map ty_of types) key
    ask-values = subst (λ ts. AreValues (map ty_of ts) key) (sym ts-is) line.fits

    pub ask-trees : AreTreesOf (calls_of calls) (map tree_of trees)
    ask-trees = subst (λ cs. AreTreesOf (calls_of cs) (map tree_of trees)) (sym cs-is) line.states

    module _ (new-keys : KeySet) (place : ℕ) (placed : Places types old.keys new-keys (key ∷ []) (place ∷ [])) (count : ℕ) (count-is : count ≡ count_in new-keys) where
      line-placed : Places g.key_types old.keys new-keys (key ∷ []) (place ∷ [])
      line-placed = subst (λ ts. Places ts old.keys new-keys (key ∷ []) (place ∷ [])) ts-is placed

      pub ask-line-room : All (λ s. length (trees_in s) ≤ count) old.columns.items
      ask-line-room = room-for g old made new-keys (key ∷ []) (place ∷ []) line-placed count count-is

      pub ask-place : place < count
      ask-place = places-within g.key_types old.keys new-keys (key ∷ []) (place ∷ []) (made.1.keys, made.1.held) line-placed count count-is 0 place (omega arith)

      pub added : LegalIsLawful → TreesAreNormal → TreesUnfold → (new : GroupTable) → new.keys ≡ new-keys →
          AreJoined calls count (place ∷ []) (map (λ t. tree_of t ∷ []) trees) (map trees_in old.columns.items) (map trees_in new.columns.items) → AreColumns calls new.columns.items →
          TakesLine g key (map tree_of trees) old new
      added lawful normal unfold-law new keys-are joined shape =
          takes-line g (λ k. get_or g.types k rust.Str) ready.key_types_are (view-legal lawful (map ty_of g.types) (view_of g) ready.fits.calls) normal unfold-law old new key trees place line
          (subst (λ k. Places g.key_types old.keys k (key ∷ []) (place ∷ [])) (sym keys-are) line-placed)
          (joined-there new count (place ∷ []) (map (λ t. tree_of t ∷ []) trees) (count-is ∙ ap count_in (sym keys-are)) joined)
          (subst (λ cs. AreColumns cs new.columns.items) cs-is shape)
