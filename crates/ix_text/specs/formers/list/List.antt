-- How a `List` holds the values of a type that contains itself through it.
-- The elements are the list that a clause sees, and lie where the elements of the vector in its one field lie.
use mathlib.Core.Path.{◌≡◌, refl, sym}
use mathlib.Core.List.{List, []}
use mathlib.Core.Former.{Former, this, list, via, children}
use base.Stored.{code_map}
use denote.RattleType.{RattleType}
use denote.HoleLaws.{Alike}
use denote.HolePlaces.{Recodes, struct_places, laid}
use denote.Hole.Carrier.{listed, list-listed}
use denote.Hole.Fix.{over}
use denote.Param.Weighed.{Weighed, w_list}
use denote.Model.Placed.{view_places}
use Rattle.std.specs.formers.vec.Vec as vector
use Rattle.std.specs.declared.alloc.Global.{Global}
use Rattle.std.specs.contracts.alloc.Global as global
use Rattle.std.specs.contracts.impls.GlobalAllocator.TheImpl.{ghosts}
use Rattle.ix_text.specs.declared.list.List.TheInside.{Inside}
use Rattle.ix_text.specs.declared.list.List.TheView.{view, invariant}
use Rattle.ix_text.specs.contracts.list.List as seen
use Rattle.ix_text.specs.contracts.list.List.TheInside as stored

abbrev pub the_former : Former {0} → Former {0}
the_former element = list element

abbrev pub the_weighed : {element : Former {0}} → Weighed element → Weighed (the_former element)
the_weighed weighed = w_list weighed

pub the_empty : List ⊥
the_empty = []

abbrev pub the_items : (X : Type 0) → List X → List X
the_items X elements = elements

pub the_items_listed : (X : Type 0) (elements : List X) → listed _ (children (the_former this) X elements) ≡ the_items X elements
the_items_listed X elements = list-listed X elements

-- the struct as it lies in memory: its vector
abbrev stored_former : Former {0}
stored_former = via (vector.the_former this Global) Inside (λ X it. it.items) (λ X vec. record { items = vec }) (λ X it. refl) (λ X vec. refl)

module _ (From To : RattleType) (h : From.Denot → To.Denot) where
  pub the_places : Alike From To h → Alike (seen.the_row From) (seen.the_row To) ((the_former this).map From.Denot To.Denot h)
  the_places alike = view_places stored_former (list this) view (λ X Y f it. refl) (λ X it. refl) From.Denot To.Denot h (seen.the_row From).coded (seen.the_row To).coded
      (invariant From.Denot) (invariant To.Denot) (λ it p q. refl) (λ it p q. refl) (λ it p. tt) (λ it p. tt)
      (over (stored.the_row From)) (over (stored.the_row To))
      (struct_places (stored.the_type From) (stored.the_type To) (vector.mapped h, tt) _ (λ it. refl) refl (laid _ _ _ (vector.the_places global.the_row ghosts From To h alike), tt))

  pub the_codes_placed : Recodes From To h → Recodes (seen.the_row From) (seen.the_row To) ((the_former this).map From.Denot To.Denot h)
  the_codes_placed recodes elements = sym (code_map From.coded.code To.coded.code h (λ x. sym (recodes x)) elements)
