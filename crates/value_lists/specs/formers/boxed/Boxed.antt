-- How a `Boxed` holds its value, so that a type may hold itself through one: as that value alone. The
-- place in memory and the allocator, which its only field has beside it, stay the same.
use mathlib.Core.Former.{Former, const, pair, this, via}
use mathlib.Core.Path.{refl}
use base.Fml.{ftrue}
use base.Stored.{gnil}
use denote.Hole.Fix.{over}
use denote.HoleLaws.{Alike}
use denote.HolePlaces.{Recodes, laid, one_value, struct_places}
use denote.Memory.{part_of}
use denote.Model.Placed.{view_places}
use denote.Param.Weighed.{Weighed}
use denote.RattleType.{RattleType}
use denote.RawPtr.{Ptr}
use denote.Sharing.{nothing}
use Rattle.std.specs.contracts.alloc.Global as allocator
use Rattle.std.specs.contracts.boxed.Box as box
use Rattle.std.specs.contracts.impls.GlobalAllocator.TheImpl.{ghosts}
use Rattle.std.specs.declared.alloc.Global.{Global}
use Rattle.std.specs.declared.boxed.Box.{Box}
use Rattle.value_lists.specs.contracts.boxed.Boxed as boxed
use Rattle.value_lists.specs.contracts.boxed.Boxed.TheInside as fields
use Rattle.value_lists.specs.declared.boxed.Boxed.TheInside.{Inside}
use Rattle.value_lists.specs.declared.boxed.Boxed.TheView.{invariant, view}

abbrev pub the_former : Former {0} → Former {0}
the_former value = value

abbrev pub the_weighed : {value : Former {0}} → Weighed value → Weighed (the_former value)
the_weighed weight = weight

-- what the struct's field holds: a value, beside its place and the allocator
abbrev held : Former {0}
held = via (pair (const (Ptr × Global)) this) Inside (λ X boxed. ((boxed.place.ptr, boxed.place.alloc), boxed.place.value))
    (λ X parts. record { place = record { ptr = parts.0.0; alloc = parts.0.1; value = parts.1 } }) (λ X boxed. refl) (λ X parts. refl)

-- the same place with another value in it
abbrev refilled : {X Y : Type 0} → Box X Global → Y → Box Y Global
refilled place value = record { ptr = place.ptr; alloc = place.alloc; value = value }

abbrev box_of : RattleType → RattleType
box_of Value = box.the_row Value allocator.the_row ghosts

module _ (From To : RattleType) (h : From.Denot → To.Denot) where
  box_placed : Alike From To h → Alike (box_of From) (box_of To) (λ place. refilled place (h place.value))
  unfolding part_of
  box_placed alike = record {
    mir_same = λ i. (box_of (one_value From (alike.mir_same i) (λ _. ftrue) (λ _ _. nothing) gnil)).mir;
    own_same = λ place i. (box_of (one_value From (alike.mir_same i) (alike.own_same place.value i) (alike.shr_same place.value i) gnil)).own_val (refilled place tt);
    shr_same = λ place i. (box_of (one_value From (alike.mir_same i) (alike.own_same place.value i) (alike.shr_same place.value i) gnil)).shr_at (refilled place tt);
  }

  fields_placed : Alike From To h → Alike (fields.the_row From) (fields.the_row To) (held.map From.Denot To.Denot h)
  fields_placed alike =
      struct_places (fields.the_type From) (fields.the_type To) ((λ place. refilled place (h place.value)), tt) _ (λ boxed. refl) refl
      (laid _ _ _ (box_placed alike), tt)

  pub the_places : Alike From To h → Alike (boxed.the_row From) (boxed.the_row To) ((the_former this).map From.Denot To.Denot h)
  the_places alike =
      view_places held this view (λ X Y f inside. refl) (λ X inside. refl) From.Denot To.Denot h
      (boxed.the_row From).coded (boxed.the_row To).coded (invariant From.Denot) (invariant To.Denot)
      (λ inside p q. refl) (λ inside p q. refl) (λ inside p. tt) (λ inside p. tt)
      (over (fields.the_row From)) (over (fields.the_row To)) (fields_placed alike)

  pub the_codes_placed : Recodes From To h → Recodes (boxed.the_row From) (boxed.the_row To) ((the_former this).map From.Denot To.Denot h)
  the_codes_placed same value = same value
