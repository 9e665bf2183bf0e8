-- How a `Boxed` holds the value of a type that contains itself through it.
-- It holds one value, the one that a clause sees, which lies in the box of its one field.
use mathlib.Core.Path.{refl}
use mathlib.Core.Former.{Former, this, const, pair, via}
use base.Stored.{gnil}
use base.Fml.{ftrue}
use denote.RattleType.{RattleType}
use denote.Memory.{part_of}
use denote.RawPtr.{Ptr}
use denote.Sharing.{nothing}
use denote.HoleLaws.{Alike}
use denote.HolePlaces.{Recodes, struct_places, laid, one_value}
use denote.Hole.Fix.{over}
use denote.Param.Weighed.{Weighed}
use denote.Model.Placed.{view_places}
use Rattle.std.specs.declared.boxed.Box.{Box}
use Rattle.std.specs.contracts.boxed.Box as std_box
use Rattle.std.specs.declared.alloc.Global.{Global}
use Rattle.std.specs.contracts.alloc.Global as global
use Rattle.std.specs.contracts.impls.GlobalAllocator.TheImpl.{ghosts}
use Rattle.ix_text.specs.declared.boxed.Boxed.TheInside.{Inside}
use Rattle.ix_text.specs.declared.boxed.Boxed.TheView.{view, invariant}
use Rattle.ix_text.specs.contracts.boxed.Boxed as seen
use Rattle.ix_text.specs.contracts.boxed.Boxed.TheInside as stored

abbrev pub the_former : Former {0} → Former {0}
the_former element = element

abbrev pub the_weighed : {element : Former {0}} → Weighed element → Weighed (the_former element)
the_weighed weighed = weighed

-- the struct as it lies in memory: a pointer and an allocator, and the value that the pointer leads to
abbrev stored_former : Former {0}
stored_former = via (pair (const (Ptr × Global)) this) Inside
    (λ X it. ((it.inner.ptr, it.inner.alloc), it.inner.value))
    (λ X parts. record { inner = record { ptr = parts.0.0; alloc = parts.0.1; value = parts.1 } })
    (λ X it. refl) (λ X parts. refl)

-- the same place with another value in it
abbrev refilled : {X Y : Type 0} → Box X Global → Y → Box Y Global
refilled place value = record { ptr = place.ptr; alloc = place.alloc; value = value }

abbrev box_of : RattleType → RattleType
box_of R = std_box.the_row R global.the_row ghosts

module _ (From To : RattleType) (h : From.Denot → To.Denot) where
  box_places : Alike From To h → Alike (box_of From) (box_of To) (λ place. refilled place (h place.value))
  unfolding part_of
  box_places alike = record {
    mir_same = λ i. (box_of (one_value From (alike.mir_same i) (λ _. ftrue) (λ _ _. nothing) gnil)).mir;
    own_same = λ place i. (box_of (one_value From (alike.mir_same i) (alike.own_same place.value i) (alike.shr_same place.value i) gnil)).own_val (refilled place tt);
    shr_same = λ place i. (box_of (one_value From (alike.mir_same i) (alike.own_same place.value i) (alike.shr_same place.value i) gnil)).shr_at (refilled place tt);
  }

  pub the_places : Alike From To h → Alike (seen.the_row From) (seen.the_row To) ((the_former this).map From.Denot To.Denot h)
  the_places alike = view_places stored_former this view (λ X Y f it. refl) (λ X it. refl) From.Denot To.Denot h (seen.the_row From).coded (seen.the_row To).coded
      (invariant From.Denot) (invariant To.Denot) (λ it p q. refl) (λ it p q. refl) (λ it p. tt) (λ it p. tt)
      (over (stored.the_row From)) (over (stored.the_row To))
      (struct_places (stored.the_type From) (stored.the_type To) ((λ place. refilled place (h place.value)), tt) _ (λ it. refl) refl (laid _ _ _ (box_places alike), tt))

  pub the_codes_placed : Recodes From To h → Recodes (seen.the_row From) (seen.the_row To) ((the_former this).map From.Denot To.Denot h)
  the_codes_placed recodes value = recodes value
