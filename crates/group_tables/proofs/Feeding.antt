-- What a table asks for and comes to when rows are fed, with the lists at hand equal to those of the plan.
use Rattle.std.proofs.Common.{◌≡◌, ℕ, ◌-◌, ◌<◌, ◌≤◌, List, length, map, sym, ap, subst, ◌∙◌}
use Rattle.std.specs.List.{All}
use Rattle.agg_typing.specs.Promises.{LegalIsLawful}
use Rattle.columns.specs.Rows.{AreTyped}
use Rattle.typed_columns.specs.TypedValues.{TypedValues}
use Rattle.value_types.specs.Images.{TypesAreNarrow}
use Rattle.value_types.specs.declared.ty.Ty.{Ty}
use Rattle.key_methods.specs.Kinds.{AreKeyTypes}
use Rattle.key_columns.specs.Words.{AreKeyColumns, key_tuples}
use Rattle.group_keys.specs.Sets.{IsSetOf, Places, count_in}
use Rattle.group_keys.specs.declared.key_set.KeySet.{KeySet}
use Rattle.state_columns.specs.Trees.{trees_in}
use Rattle.group_tables.specs.proving.Fed.{AreFed}
use Rattle.group_tables.specs.Groupings.{IsReady}
use Rattle.group_tables.specs.proving.Rows.{rows_between}
use Rattle.group_tables.specs.Tables.{AreColumns, IsTableOf, TakesRowsOf}
use Rattle.group_tables.specs.declared.grouping.GroupCall.{GroupCall}
use Rattle.group_tables.specs.declared.grouping.Grouping.{Grouping}
use Rattle.group_tables.specs.declared.table.GroupTable.{GroupTable}
use Rattle.group_tables.proofs.Facts as facts
use Rattle.group_tables.proofs.TableLaws.{length-tuples, places-many, places-within, room-for, takes-rows}

module _ (g : Grouping) (ready : IsReady g) (old : GroupTable) (columns : List TypedValues) (from to : ℕ) (made : IsTableOf g old) (types-are : map (λ c. c.ty) columns ≡ g.types)
    (typed : AreTyped columns) (order : from ≤ to) (within : All (λ c. to ≤ length c.values) columns)
    (types : List Ty) (keys : List ℕ) (calls : List GroupCall) (ts-is : types ≡ g.key_types) (ks-is : keys ≡ g.keys) (cs-is : calls ≡ g.calls) where
  pub ask-set : IsSetOf types old.keys
  ask-set = subst (λ ts. IsSetOf ts old.keys) (sym ts-is) (made.1.keys, made.1.held)

  pub ask-types : AreKeyTypes types
  ask-types = subst AreKeyTypes (sym ts-is) (facts.kinds g ready)

  pub ask-keys : All (λ k. k < length columns) keys
  ask-keys = subst (All (λ k. k < length columns)) (sym ks-is) (facts.all-keys g ready columns types-are)

  pub ask-columns : AreKeyColumns types columns keys from to
  ask-columns =
      subst (λ ts. AreKeyColumns ts columns keys from to) (sym ts-is)
      (subst (λ ks. AreKeyColumns g.key_types columns ks from to) (sym ks-is) (facts.keys-stand g ready columns types-are from to order typed within))

  pub ask-shape : AreColumns calls old.columns.items
  ask-shape = subst (λ cs. AreColumns cs old.columns.items) (sym cs-is) made.1.shape

  pub ask-few : All (λ c. length c.columns ≤ 64) calls
  ask-few = subst (All (λ c. length c.columns ≤ 64)) (sym cs-is) (facts.few g ready columns types-are)

  pub ask-arguments : All (λ c. All (λ a. a < length columns) c.columns) calls
  ask-arguments = subst (All (λ c. All (λ a. a < length columns) c.columns)) (sym cs-is) (facts.arguments g ready columns types-are)

  module _ (new-keys : KeySet) (ps : List ℕ) (placed : Places types old.keys new-keys (key_tuples columns keys from (to - from)) ps) (count : ℕ) (count-is : count ≡ count_in new-keys)
      (qs : List ℕ) (qs-is : qs ≡ ps) where
    placed-there : Places g.key_types old.keys new-keys (key_tuples columns g.keys from (to - from)) qs
    placed-there =
        subst (λ l. Places g.key_types old.keys new-keys (key_tuples columns g.keys from (to - from)) l) (sym qs-is)
        (subst (λ ks. Places g.key_types old.keys new-keys (key_tuples columns ks from (to - from)) ps) ks-is
        (subst (λ ts. Places ts old.keys new-keys (key_tuples columns keys from (to - from)) ps) ts-is placed))

    pub ask-places : All (λ p. p < count) qs
    ask-places = places-within g.key_types old.keys new-keys (key_tuples columns g.keys from (to - from)) qs (made.1.keys, made.1.held) placed-there count count-is

    pub ask-many : length qs ≡ to - from
    ask-many =
        places-many g.key_types old.keys new-keys (key_tuples columns g.keys from (to - from)) qs (made.1.keys, made.1.held) placed-there
        ∙ length-tuples columns g.keys from (to - from)

    pub ask-room : All (λ s. length (trees_in s) ≤ count) old.columns.items
    ask-room = room-for g old made new-keys (key_tuples columns g.keys from (to - from)) qs placed-there count count-is

    pub fed-table : (new : GroupTable) → new.keys ≡ new-keys → AreFed calls count qs columns from (to - from) (map trees_in old.columns.items) (map trees_in new.columns.items) →
        AreColumns calls new.columns.items → LegalIsLawful → TypesAreNarrow → TakesRowsOf g (rows_between columns from (to - from)) old new
    fed-table new keys-are fed shape lawful narrow =
        takes-rows g old new columns from (to - from) qs
        (subst (λ k. Places g.key_types old.keys k (key_tuples columns g.keys from (to - from)) qs) (sym keys-are) placed-there)
        (subst (λ cs. AreFed cs (count_in new.keys) qs columns from (to - from) (map trees_in old.columns.items) (map trees_in new.columns.items)) cs-is
        (subst (λ n. AreFed calls n qs columns from (to - from) (map trees_in old.columns.items) (map trees_in new.columns.items)) (count-is ∙ ap count_in (sym keys-are)) fed))
        (subst (λ cs. AreColumns cs new.columns.items) cs-is shape)
        (facts.below g ready columns types-are) (facts.legal g ready columns types-are lawful)
        (facts.brought g ready columns types-are from to order typed within narrow)
