-- A new array and a write of a cell: what they keep, whatever the analysis.
use Rattle.std.specs.Prelude.{◌≡◌, ℕ, ◌+◌, ◌<◌, ◌≤◌, ◌==◌, nat_lt, pos, List, [], ◌∷◌, ◌++◌, length, slice_set, Option, Some, unwrap_or, refl}
use Rattle.std.proofs.Common.{arith, sym, ap, subst, ◌∙◌, inl}
use Rattle.std.proofs.lemmas.Bool.Decides.{nat_tests}
use Rattle.std.proofs.lemmas.List.{length-append, length-set}
use Rattle.std.proofs.lemmas.Option.{slice_get_past}
use Rattle.ix_core.specs.declared.claim.Type_.{Type_}
use Rattle.ix_core.specs.declared.program.Method.{Method}
use Rattle.ix_core.specs.Heap.{Held, Num, Null, At, Heap, Object, Kind, ArrayOf, nothing, value_at, object_at, array_cells, place_in, cell_of, field_value, reading_of, with_cells, write_at}
use Rattle.ix_core.specs.Objects.{Later, IsSame, MeetsFields, MeetsElement, kind_claims, IsFree, HeapKeeps, FrameKeeps, IsOwn, IsInput, StepKeeps}
use Rattle.ix_core.specs.Safe.{element_claims}
use Rattle.ix_core.specs.World.{World}
use Rattle.ix_core.proofs.Cases.{by_test, equal, differ}
use Rattle.ix_core.proofs.Entered.{none_some, at_pushed, has_on, meets_same, reading_later, field_on}
use Rattle.ix_core.proofs.FieldSteps.{at_kept}
use Rattle.ix_core.proofs.Heaps.{grown_old, grown_new, value_other, object_set, object_other}
use Rattle.ix_core.proofs.Stack.{free_set}
use Rattle.ix_core.proofs.Waiting.{later_push, free_later}
use Rattle.ix_core.proofs.Writes.{write_later}

module _ (world : World) (building : ℕ → Type 0) (method : Method) (slots : List Held) (heap : Heap) (keeps : HeapKeeps world building heap) (frame : FrameKeeps building method slots heap) (ty : Type_) (cells : List Held)
    (free : (place : ℕ) → IsFree building heap (value_at cells place)) (elements : (place : ℕ) → place < length cells → MeetsElement (element_claims ty) (value_at cells place)) where
  abbrev array : Object
  array = record { kind = ArrayOf ty; cells = cells }

  abbrev after : Heap
  after = heap ++ array ∷ []

  long : length after ≡ length heap + 1
  long = length-append heap (array ∷ [])

  later : Later heap after
  later = later_push heap array

  past : (object : ℕ) → length heap ≤ object → object_at heap object ≡ nothing
  past object le = ap (λ o. unwrap_or o nothing) (slice_get_past heap object le)

  -- no field of an object changes; the new array and what isn't there have none
  same : (object field : ℕ) → IsSame world heap after object field
  same object field =
      by_test (nat_lt object (length heap))
      (λ t. let lt : object < length heap = grind (arith, nat_tests) in sym (ap (λ (o : Object). cell_of o.cells (place_in world.place o.kind field)) (grown_old heap array object lt)))
      (λ t.
      let le : length heap ≤ object = grind (arith, nat_tests) in
      let before : field_value world.place heap object field ≡ Null = ap (λ (o : Object). cell_of o.cells (place_in world.place o.kind field)) (past object le) in
      by_test (object == length heap)
      (λ u.
      let new : object_at after object ≡ array = ap (object_at after) (equal object (length heap) u) ∙ grown_new heap array in
      before ∙ sym (ap (λ (o : Object). cell_of o.cells (place_in world.place o.kind field)) new))
      (λ u.
      let apart = differ object (length heap) u in
      let none : object_at after object ≡ nothing = (let l = long in let h : length after ≤ object = omega (arith, l, le, apart) in ap (λ o. unwrap_or o nothing) (slice_get_past after object h)) in
      before ∙ sym (ap (λ (o : Object). cell_of o.cells (place_in world.place o.kind field)) none)))

  array_built : (object : ℕ) → (building object → ⊥) → MeetsFields world after object
  array_built object other field has =
      by_test (nat_lt object (length heap))
      (λ t.
      let lt : object < length heap = grind (arith, nat_tests) in
      meets_same world heap after object field (λ f. reading_later heap after (field_value world.place heap object f) later (field_on world building heap keeps object f) ∙ ap (reading_of after) (same object f))
      (keeps.built object other field (has.0, ap (λ (o : Object). place_in world.place o.kind field) (sym (grown_old heap array object lt)) ∙ has.1)))
      (λ t.
      let le : length heap ≤ object = grind (arith, nat_tests) in
      let on = has_on world.place after object field has.0 has.1 in
      let is : object ≡ length heap = (let l = long in omega (arith, l, le, on)) in
      let new : object_at after object ≡ array = ap (object_at after) is ∙ grown_new heap array in
      none_some has.0 (subst (λ (o : Object). place_in world.place o.kind field ≡ Some has.0) new has.1))

  array_heap : HeapKeeps world building after
  array_heap = record {
    bound = λ object is. (let lt = keeps.bound object is in let l = long in omega (arith, lt, l));
    free = at_pushed nothing (λ k o. (place : ℕ) → IsFree building after (value_at o.cells place)) heap array
        (λ place. free_later building heap after (value_at cells place) later (free place))
        (λ k place. free_later building heap after (value_at (object_at heap k).cells place) later (keeps.free k place));
    built = array_built;
    elements = at_pushed nothing (λ k o. (place : ℕ) → place < length (array_cells o.kind o.cells) → MeetsElement (kind_claims o.kind) (value_at (array_cells o.kind o.cells) place)) heap array elements keeps.elements;
    room = at_pushed nothing (λ k o. (field place : ℕ) → place_in world.place o.kind field ≡ Some place → place < length o.cells) heap array (λ field place e. none_some place e) keeps.room;
  }

  -- A new array goes to a slot that may be assigned: its cells refer to no object under construction, and meet the claims on elements.
  pub array_keeps : (t : ℕ) → (IsInput method t → ⊥) → (IsOwn method t → ⊥) → StepKeeps world building method slots heap (slice_set slots t (At (length heap))) after
  array_keeps t other apart = record {
    later = later;
    heap_keeps = array_heap;
    frame_keeps = free_set building method slots after (Some t) (Some (At (length heap))) (λ a e own. apart (subst (IsOwn method) (sym (some_number t a e)) own))
        (λ a e. (let l = long in omega (arith, l), λ is. let lt = keeps.bound (length heap) is in absurd (omega (arith, lt))))
        (record { size = frame.size; made = frame.made; this = frame.this; free = λ slot own. free_later building heap after (value_at slots slot) later (frame.free slot own) });
    inputs = λ slot is. by_test (slot == t) (λ e. absurd (other (subst (IsInput method) (equal slot t e) is))) (λ e. sym (value_other slots t slot (At (length heap)) e));
    fields = λ object field. inl (same object field);
  }
    where
      some_number : (a b : ℕ) → ◌≡◌ {A = Option ℕ} (Some a) (Some b) → a ≡ b
      some_number a b e = ap (λ (o : Option ℕ). unwrap_or o 0) e

-- ---- cells

module _ (world : World) (building : ℕ → Type 0) (method : Method) (slots : List Held) (heap : Heap) (keeps : HeapKeeps world building heap) (frame : FrameKeeps building method slots heap) (number at : ℕ) (ty : Type_) (value : Held)
    (on : number < length heap) (is : (object_at heap number).kind ≡ ArrayOf ty) (free : IsFree building heap value) (meets : MeetsElement (element_claims ty) value) where
  abbrev new : Object
  new = with_cells (object_at heap number) (slice_set (object_at heap number).cells at value)

  abbrev written : Heap
  written = write_at heap number at value

  written_later : Later heap written
  written_later = write_later heap number new on refl (length-set (object_at heap number).cells at value)

  -- an array has no fields
  no_field : {A : Type 0} (field place : ℕ) → place_in world.place (object_at heap number).kind field ≡ Some place → A
  no_field field place e = none_some place (subst (λ kind. place_in world.place kind field ≡ Some place) is e)

  array_field : (kind : Kind) (cells : List Held) (field : ℕ) → kind ≡ ArrayOf ty → cell_of cells (place_in world.place kind field) ≡ Null
  array_field kind cells field e = ap (λ k. cell_of cells (place_in world.place k field)) e

  cell_same : (object field : ℕ) → IsSame world heap written object field
  cell_same object field =
      by_test (object == number)
      (λ t.
      let there : object_at written object ≡ new = ap (object_at written) (equal object number t) ∙ object_set heap number new on in
      let before : object_at heap object ≡ object_at heap number = ap (object_at heap) (equal object number t) in
      ap (λ (o : Object). cell_of o.cells (place_in world.place o.kind field)) before
      ∙ (array_field (object_at heap number).kind (object_at heap number).cells field is
      ∙ sym (ap (λ (o : Object). cell_of o.cells (place_in world.place o.kind field)) there ∙ array_field (object_at heap number).kind new.cells field is)))
      (λ t. sym (ap (λ (o : Object). cell_of o.cells (place_in world.place o.kind field)) (object_other heap number object new t)))

  -- A value goes to a cell: it refers to no object under construction, and meets the claims on elements.
  pub cell_keeps : StepKeeps world building method slots heap slots written
  cell_keeps = record {
    later = written_later;
    heap_keeps = record {
      bound = λ object under. (written_later object (keeps.bound object under)).on;
      free = at_kept nothing (λ k o. (place : ℕ) → IsFree building written (value_at o.cells place)) heap number new
          (λ place. free_later building heap written (value_at new.cells place) written_later (at_kept (Num (pos 0)) (λ j. IsFree building heap) (object_at heap number).cells at value free (keeps.free number) place))
          (λ k place. free_later building heap written (value_at (object_at heap k).cells place) written_later (keeps.free k place));
      built = λ object other field has.
          by_test (object == number)
          (λ t. no_field field has.0 (subst (λ (o : Object). place_in world.place o.kind field ≡ Some has.0) (ap (object_at written) (equal object number t) ∙ object_set heap number new on) has.1))
          (λ t.
          meets_same world heap written object field
          (λ f. reading_later heap written (field_value world.place heap object f) written_later (field_on world building heap keeps object f) ∙ ap (reading_of written) (cell_same object f))
          (keeps.built object other field (has.0, subst (λ (o : Object). place_in world.place o.kind field ≡ Some has.0) (object_other heap number object new t) has.1)));
      elements = at_kept nothing (λ k o. (place : ℕ) → place < length (array_cells o.kind o.cells) → MeetsElement (kind_claims o.kind) (value_at (array_cells o.kind o.cells) place)) heap number new new_elements keeps.elements;
      room = at_kept nothing (λ k o. (field place : ℕ) → place_in world.place o.kind field ≡ Some place → place < length o.cells) heap number new (λ field place e. no_field field place e) keeps.room;
    };
    frame_keeps = record { size = frame.size; made = frame.made; this = frame.this; free = λ slot own. free_later building heap written (value_at slots slot) written_later (frame.free slot own) };
    inputs = λ slot input. refl;
    fields = λ object field. inl (cell_same object field);
  }
    where
      cells_elements : (cells : List Held) → (object_at heap number).kind ≡ ArrayOf ty → ((place : ℕ) → place < length cells → MeetsElement (element_claims ty) (value_at cells place)) → (place : ℕ) → place < length cells
          → MeetsElement (element_claims ty) (value_at (slice_set cells at value) place)
      cells_elements cells kind all place lt = at_kept (Num (pos 0)) (λ j v. j < length cells → MeetsElement (element_claims ty) v) cells at value (λ h. meets) all place lt

      new_elements : (place : ℕ) → place < length (array_cells new.kind new.cells) → MeetsElement (kind_claims new.kind) (value_at (array_cells new.kind new.cells) place)
      new_elements =
          subst (λ k. (place : ℕ) → place < length (array_cells k new.cells) → MeetsElement (kind_claims k) (value_at (array_cells k new.cells) place)) (sym is)
          (λ place lt. cells_elements (object_at heap number).cells is
          (subst (λ k. (place : ℕ) → place < length (array_cells k (object_at heap number).cells) → MeetsElement (kind_claims k) (value_at (array_cells k (object_at heap number).cells) place)) is (keeps.elements number))
          place (subst (λ n. place < n) (length-set (object_at heap number).cells at value) lt))
