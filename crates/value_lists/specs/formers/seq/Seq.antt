-- How a `Seq` holds its items, so that a type may hold itself through one: as the list of them, which
-- is what its only field, a `Vec`, holds too.
use mathlib.Core.List.{List, []}
use mathlib.Core.Path.{◌≡◌, refl, sym}
use mathlib.Core.Former.{Former, children, list, this, via}
use base.Stored.{code_map}
use denote.Hole.Carrier.{list-listed, listed}
use denote.Hole.Fix.{over}
use denote.HoleLaws.{Alike}
use denote.HolePlaces.{Recodes, laid, struct_places}
use denote.Model.Placed.{view_places}
use denote.Param.Weighed.{Weighed, w_list}
use denote.RattleType.{RattleType}
use Rattle.std.specs.contracts.alloc.Global as allocator
use Rattle.std.specs.contracts.impls.GlobalAllocator.TheImpl.{ghosts}
use Rattle.std.specs.declared.alloc.Global.{Global}
use Rattle.std.specs.formers.vec.Vec as vec
use Rattle.value_lists.specs.contracts.seq.Seq as seq
use Rattle.value_lists.specs.contracts.seq.Seq.TheInside as fields
use Rattle.value_lists.specs.declared.seq.Seq.TheInside.{Inside}
use Rattle.value_lists.specs.declared.seq.Seq.TheView.{invariant, view}

abbrev pub the_former : Former {0} → Former {0}
the_former item = list item

abbrev pub the_weighed : {item : Former {0}} → Weighed item → Weighed (the_former item)
the_weighed weight = w_list weight

-- a type may end at an empty list
abbrev pub the_empty : List ⊥
the_empty = []

abbrev pub the_items : (X : Type 0) → List X → List X
the_items X items = items

pub the_items_listed : (X : Type 0) (items : List X) → listed _ (children (the_former this) X items) ≡ the_items X items
the_items_listed X items = list-listed X items

-- what the struct's field holds
abbrev held : Former {0}
held = via (vec.the_former this Global) Inside (λ X seq. seq.items) (λ X items. record { items = items }) (λ X seq. refl) (λ X items. refl)

module _ (From To : RattleType) (h : From.Denot → To.Denot) where
  fields_placed : Alike From To h → Alike (fields.the_row From) (fields.the_row To) (held.map From.Denot To.Denot h)
  fields_placed alike =
      struct_places (fields.the_type From) (fields.the_type To) (vec.mapped h, tt) _ (λ seq. refl) refl
      (laid _ _ _ (vec.the_places allocator.the_row ghosts From To h alike), tt)

  pub the_places : Alike From To h → Alike (seq.the_row From) (seq.the_row To) ((the_former this).map From.Denot To.Denot h)
  the_places alike =
      view_places held (list this) view (λ X Y f inside. refl) (λ X inside. refl) From.Denot To.Denot h
      (seq.the_row From).coded (seq.the_row To).coded (invariant From.Denot) (invariant To.Denot)
      (λ inside p q. refl) (λ inside p q. refl) (λ inside p. tt) (λ inside p. tt)
      (over (fields.the_row From)) (over (fields.the_row To)) (fields_placed alike)

  pub the_codes_placed : Recodes From To h → Recodes (seq.the_row From) (seq.the_row To) ((the_former this).map From.Denot To.Denot h)
  the_codes_placed same items = sym (code_map From.coded.code To.coded.code h (λ item. sym (same item)) items)
