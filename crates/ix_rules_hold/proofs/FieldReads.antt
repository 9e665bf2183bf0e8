-- A read of a field that is done gives its target what the path of the field had.
use Rattle.std.specs.Prelude.{◌≡◌, ℕ, ◌<◌, false, List, length, slice_set, Option, Some, None, refl}
use Rattle.std.proofs.Common.{sym, ap, ◌∙◌, subst}
use Rattle.ix_core.specs.declared.fact.Path.{Path}
use Rattle.ix_core.specs.declared.fact.Path.TheVariants.{FieldOf}
use Rattle.ix_core.specs.declared.op.OpKind.TheVariants as op
use Rattle.ix_core.specs.Heap.{Held, Heap, value_at, object_at, place_in, cell_of, int_of, size_of}
use Rattle.ix_core.specs.Machine.{Limits, Effect, Done, assign, at_place, operate}
use Rattle.ix_core.specs.Numbers.{HasInts, field_of, held_at, numbers_of}
use Rattle.ix_core.specs.Tables.{Tables}
use Rattle.ix_core.proofs.Heaps.{value_set}
use Rattle.ix_facts.specs.Forget.{of_slot}
use Rattle.ix_facts.specs.FieldSteps.{IsRead}
use Rattle.ix_rules_hold.proofs.MachineSteps.{kept_held, of_done, of_through}

-- ---- the cell of a field

pub of_place : (later : List Held) (after : Heap) (limits : Limits) (tables : Tables) (at : ℕ) (slots : List Held) (heap : Heap) (found : Option ℕ) (next : ℕ → Effect)
    → at_place limits tables at slots heap found next ≡ Done later after → (cell : ℕ) × (found ≡ Some cell) × (next cell ≡ Done later after)
of_place later after limits tables at slots heap None next e = absurd cc
of_place later after limits tables at slots heap (Some cell) next e = (cell, refl, e)

module _ (limits : Limits) (tables : Tables) (at : ℕ) (slots : List Held) (heap : Heap) (later : List Held) (after : Heap) (before : HasInts tables.place slots heap) (behind : HasInts tables.place later after) where
  module _ (t o f : ℕ) (x : Held) (within : t < length slots) (source : held_at tables.place slots heap (FieldOf o f) ≡ x) (now : slice_set slots t x ≡ later) (same : heap ≡ after) where
    target : value_at later t ≡ x
    target = subst (λ l. value_at l t ≡ x) now (value_set slots t x within)

    path_kept : (p : Path) → of_slot t p ≡ false → held_at tables.place later heap p ≡ held_at tables.place slots heap p
    path_kept p e = subst (λ l. held_at tables.place l heap p ≡ held_at tables.place slots heap p) now (kept_held tables.place slots heap t x p e)

    read_is : IsRead t o f (numbers_of tables.place slots heap before) (numbers_of tables.place later after behind)
    read_is = record {
      others = λ p e. subst (λ h. (int_of (held_at tables.place later h p) ≡ int_of (held_at tables.place slots heap p)) × (size_of h (held_at tables.place later h p) ≡ size_of heap (held_at tables.place slots heap p))) same
          (ap int_of (path_kept p e), ap (size_of heap) (path_kept p e));
      int = ap int_of (target ∙ sym source);
      size = subst (λ h. size_of h (value_at later t) ≡ size_of heap (held_at tables.place slots heap (FieldOf o f))) same (ap (size_of heap) (target ∙ sym source));
    }

  pub read_step : (t o f : ℕ) → t < length slots → operate limits tables at slots heap (op.ReadField t o f) ≡ Done later after
      → IsRead t o f (numbers_of tables.place slots heap before) (numbers_of tables.place later after behind)
  read_step t o f within e =
      let read : ℕ → ℕ → Effect = λ number cell. assign limits tables at slots heap t (value_at (object_at heap number).cells cell) in
      let x = of_through later after limits tables at slots heap (value_at slots o) (λ number. at_place limits tables at slots heap (place_in tables.place (object_at heap number).kind f) (read number)) e in
      let y = of_place later after limits tables at slots heap (place_in tables.place (object_at heap x.0).kind f) (read x.0) x.2 in
      let done = of_done later after _ _ y.2 in
      read_is t o f (value_at (object_at heap x.0).cells y.0) within
      (ap (field_of tables.place heap f) x.1 ∙ ap (cell_of (object_at heap x.0).cells) y.1) done.0 done.1
