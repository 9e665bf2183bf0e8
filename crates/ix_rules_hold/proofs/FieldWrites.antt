-- A write of a field that is done gives the path of the field what its value had, and changes nothing else but that field through slots that aren't spared.
use Rattle.std.specs.Prelude.{◌≡◌, ℕ, ◌<◌, ◌==◌, pos, Bool, true, false, not, ◌&&◌, List, length, slice_set, Option, Some, None, refl}
use Rattle.std.proofs.Common.{sym, ap, ◌∙◌, subst}
use Rattle.std.proofs.lemmas.Bool.{and_parts, false≢true}
use Rattle.ix_core.specs.declared.fact.Path.{Path}
use Rattle.ix_core.specs.declared.fact.Path.TheVariants.{Slot, FieldOf}
use Rattle.ix_core.specs.declared.op.OpKind.TheVariants as op
use Rattle.ix_core.specs.declared.program.Method.{Method}
use Rattle.ix_core.specs.Analysis.{IsWorld}
use Rattle.ix_core.specs.Heap.{Held, Num, Boolean, Null, At, Object, Heap, Kind, ObjectOf, ArrayOf, Places, value_at, object_at, array_cells, place_in, cell_of, field_value, int_of, size_of, with_cells, write_at}
use Rattle.ix_core.specs.Machine.{Limits, Effect, Done, at_place, operate}
use Rattle.ix_core.specs.Numbers.{HasInts, field_of, held_at, numbers_of}
use Rattle.ix_core.specs.Objects.{HeapKeeps, FrameKeeps, IsFree}
use Rattle.ix_core.specs.Tables.{Tables}
use Rattle.ix_core.specs.World.{World}
use Rattle.ix_core.proofs.Cases.{by_test, equal}
use Rattle.ix_core.proofs.Entered.{has_on}
use Rattle.ix_core.proofs.Heaps.{value_set, value_other, object_set, object_other, cells_length, written_same}
use Rattle.ix_facts.specs.Forget.{of_field}
use Rattle.ix_facts.specs.FieldSteps.{IsWritten}
use Rattle.ix_rules_hold.specs.MachineSteps.{own_slot}
use Rattle.ix_rules_hold.specs.FieldAccess.{HasFieldCells, HoldOthers, IsThisAlone, spared_by}
use Rattle.ix_rules_hold.proofs.FieldReads.{of_place}
use Rattle.ix_rules_hold.proofs.KeptNumbers.{not_true, same_true, both_true}
use Rattle.ix_rules_hold.proofs.MachineSteps.{of_done, of_through}

is_spared : (spared named : Bool) → (not spared && named) ≡ false → named ≡ true → spared ≡ true
is_spared true named e n = refl
is_spared false named e n = absurd (false≢true (sym e ∙ n))

other_cell : (cells : List Held) (cell : ℕ) (x : Held) (found : Option ℕ) → (found ≡ Some cell → ⊥) → cell_of (slice_set cells cell x) found ≡ cell_of cells found
other_cell cells cell x None apart = refl
other_cell cells cell x (Some other) apart = by_test (other == cell) (λ t. absurd (apart (ap Some (equal other cell t)))) (λ t. value_other cells cell other x t)

-- ---- the heap behind a write of the field `f`, through the slot `o`, of the object `k`, whose cell is the field's

module _ (place : Places) (slots : List Held) (heap : Heap) (cells : HasFieldCells place heap) (o f k cell : ℕ) (x : Held) (holds : value_at slots o ≡ At k) (placed : place_in place (object_at heap k).kind f ≡ Some cell) where
  abbrev new : Object
  new = with_cells (object_at heap k) (slice_set (object_at heap k).cells cell x)

  abbrev written : Heap
  written = write_at heap k cell x

  on : k < length heap
  on = has_on place heap k f cell placed

  sizes_stay : (held : Held) → size_of written held ≡ size_of heap held
  sizes_stay (Num n) = refl
  sizes_stay (Boolean answer) = refl
  sizes_stay Null = refl
  sizes_stay (At j) = ap pos (written_same (λ th. length (array_cells th.kind th.cells)) heap k new (cells_length (object_at heap k).kind (object_at heap k).cells cell x) j)

  field_stays : (j g : ℕ) → (j ≡ k → g ≡ f → ⊥) → field_value place written j g ≡ field_value place heap j g
  field_stays j g apart =
      by_test (j == k)
      (λ t.
      let is : j ≡ k = equal j k t in
      let here : field_value place written k g ≡ field_value place heap k g
      = ap (λ (th : Object). cell_of th.cells (place_in place th.kind g)) (object_set heap k new on)
      ∙ other_cell (object_at heap k).cells cell x (place_in place (object_at heap k).kind g) (λ e. apart is (cells.apart k g f cell e placed)) in
      subst (λ i. field_value place written i g ≡ field_value place heap i g) (sym is) here)
      (λ t. ap (λ (th : Object). cell_of th.cells (place_in place th.kind g)) (object_other heap k j new t))

  field_now : field_value place written k f ≡ x
  field_now =
      ap (λ (th : Object). cell_of th.cells (place_in place th.kind f)) (object_set heap k new on)
      ∙ (ap (cell_of (slice_set (object_at heap k).cells cell x)) placed ∙ value_set (object_at heap k).cells cell x (cells.room k f cell placed))

  path_now : held_at place slots written (FieldOf o f) ≡ x
  path_now = ap (field_of place written f) holds ∙ field_now

  through_stays : (g : ℕ) (held : Held) → ((j : ℕ) → held ≡ At j → j ≡ k → g ≡ f → ⊥) → field_of place written g held ≡ field_of place heap g held
  through_stays g (Num n) apart = refl
  through_stays g (Boolean answer) apart = refl
  through_stays g Null apart = refl
  through_stays g (At j) apart = field_stays j g (apart j refl)

  path_stays : (spared : ℕ → Bool) → HoldOthers spared slots o → (p : Path) → of_field f spared p ≡ false → held_at place slots written p ≡ held_at place slots heap p
  path_stays spared others (Slot s) e = refl
  path_stays spared others (FieldOf s g) e =
      through_stays g (value_at slots s) (λ j at is named. others s k (is_spared (spared s) (g == f) e (same_true g f named)) holds (at ∙ ap At is))

-- ---- the step

module _ (limits : Limits) (tables : Tables) (at : ℕ) (slots : List Held) (heap : Heap) (later : List Held) (after : Heap) (before : HasInts tables.place slots heap) (behind : HasInts tables.place later after) (cells : HasFieldCells tables.place heap) where
  module _ (o f v k cell : ℕ) (spared : ℕ → Bool) (others : HoldOthers spared slots o) (holds : value_at slots o ≡ At k) (placed : place_in tables.place (object_at heap k).kind f ≡ Some cell) (same : slots ≡ later) (now : write_at heap k cell (value_at slots v) ≡ after) where
    abbrev made : Heap
    made = write_at heap k cell (value_at slots v)

    stays : (held : Held) → size_of made held ≡ size_of heap held
    stays = sizes_stay tables.place slots heap cells o f k cell (value_at slots v) holds placed

    kept : (p : Path) → of_field f spared p ≡ false → held_at tables.place slots made p ≡ held_at tables.place slots heap p
    kept = path_stays tables.place slots heap cells o f k cell (value_at slots v) holds placed spared others

    value_now : held_at tables.place slots made (FieldOf o f) ≡ value_at slots v
    value_now = path_now tables.place slots heap cells o f k cell (value_at slots v) holds placed

    -- the numbers of a path in the slots and the heap behind
    behind_is : (p : Path) (held : Held) → held_at tables.place slots made p ≡ held
        → (int_of (held_at tables.place later after p) ≡ int_of held) × (size_of after (held_at tables.place later after p) ≡ size_of heap held)
    behind_is p held e =
        subst (λ h. (int_of (held_at tables.place later h p) ≡ int_of held) × (size_of h (held_at tables.place later h p) ≡ size_of heap held)) now
        (subst (λ l. (int_of (held_at tables.place l made p) ≡ int_of held) × (size_of made (held_at tables.place l made p) ≡ size_of heap held)) same
        (ap int_of e, ap (size_of made) e ∙ stays held))

    write_is : IsWritten o f v spared (numbers_of tables.place slots heap before) (numbers_of tables.place later after behind)
    write_is =
        let field = behind_is (FieldOf o f) (value_at slots v) value_now in
        record { others = λ p e. behind_is p (held_at tables.place slots heap p) (kept p e); int = field.0; size = field.1 }

  pub write_step : (o f v : ℕ) (spared : ℕ → Bool) → HoldOthers spared slots o → operate limits tables at slots heap (op.WriteField o f v) ≡ Done later after
      → IsWritten o f v spared (numbers_of tables.place slots heap before) (numbers_of tables.place later after behind)
  write_step o f v spared others e =
      let write : ℕ → ℕ → Effect = λ number cell. Done slots (write_at heap number cell (value_at slots v)) in
      let x = of_through later after limits tables at slots heap (value_at slots o) (λ number. at_place limits tables at slots heap (place_in tables.place (object_at heap number).kind f) (write number)) e in
      let y = of_place later after limits tables at slots heap (place_in tables.place (object_at heap x.0).kind f) (write x.0) x.2 in
      let done = of_done later after _ _ y.2 in
      write_is o f v x.0 y.0 spared others x.1 y.1 done.0 done.1

-- ---- what is spared

pub alone_spares : (method : Method) (slots : List Held) → IsThisAlone method slots → (through : ℕ) → HoldOthers (spared_by method through) slots through
alone_spares method slots alone through slot number is writes holds =
    let both = and_parts (own_slot method slot) (not (through == 0)) is in
    let own = and_parts method.constructor (slot == 0) both.0 in
    alone own.0 through number (λ z. not_true (through == 0) both.1 (same_true through 0 z)) (subst (λ s. value_at slots s ≡ At number) (equal slot 0 own.1) holds) writes

not_is : (b : Bool) → (b ≡ true → ⊥) → not b ≡ true
not_is b never = by_test b (λ t. absurd (never t)) (λ f. rw f refl)

pub spares_alone : (method : Method) (slots : List Held) → ((through : ℕ) → HoldOthers (spared_by method through) slots through) → IsThisAlone method slots
spares_alone method slots others constructor slot number apart this holds =
    others slot 0 number
    (both_true (both_true constructor refl) (not_is (slot == 0) (λ t. apart (equal slot 0 t)))) holds this

pub spares_none : (method : Method) → method.constructor ≡ false → (through slot : ℕ) → spared_by method through slot ≡ false
spares_none method plain through slot = rw plain refl

and_false : (b : Bool) → (b && false) ≡ false
and_false true = refl
and_false false = refl

pub this_spares_none : (method : Method) (slot : ℕ) → spared_by method 0 slot ≡ false
this_spares_none method slot = and_false (own_slot method slot)

-- ---- what a run keeps

in_kind : (world : World) → IsWorld world → (kind : Kind) (field other cell : ℕ) → place_in world.place kind field ≡ Some cell → place_in world.place kind other ≡ Some cell → field ≡ other
in_kind world tables (ObjectOf class) field other cell a b = tables.apart class field other cell a b
in_kind world tables (ArrayOf ty) field other cell a b = absurd cc

pub kept_cells : (world : World) → IsWorld world → (building : ℕ → Type 0) (heap : Heap) → HeapKeeps world building heap → HasFieldCells world.place heap
kept_cells world tables building heap keeps = record { room = keeps.room; apart = λ object. in_kind world tables (object_at heap object).kind }

pub kept_alone : (building : ℕ → Type 0) (method : Method) (slots : List Held) (heap : Heap) → FrameKeeps building method slots heap → IsThisAlone method slots
kept_alone building method slots heap keeps constructor slot number apart this holds =
    (subst (IsFree building heap) holds (keeps.free slot (λ own. apart own.1))).1 (keeps.this constructor number this)
