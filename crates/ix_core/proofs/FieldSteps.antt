-- A write and a read of a field: what they keep, whatever the analysis.
use Rattle.std.specs.Prelude.{◌≡◌, ◌⊎◌, ℕ, zero, suc, ◌<◌, ◌==◌, pos, List, [], ◌∷◌, length, slice_get, slice_set, Option, None, Some, unwrap_or, refl}
use Rattle.std.proofs.Common.{arith, sym, ap, ◌∙◌, subst, inl, inr, ⊎_elim}
use Rattle.std.proofs.lemmas.List.{length-set}
use Rattle.ix_core.specs.declared.program.Method.{Method}
use Rattle.ix_core.specs.Heap.{Held, Num, At, Heap, Object, Kind, ObjectOf, ArrayOf, nothing, value_at, object_at, array_cells, place_in, cell_of, field_value, reading_of, with_cells, write_at}
use Rattle.ix_core.specs.Objects.{Later, IsSame, HasField, MeetsFields, MeetsElement, kind_claims, IsFree, HeapKeeps, FrameKeeps, IsOwn, MayWrite, StepKeeps}
use Rattle.ix_core.specs.Analysis.{IsWorld}
use Rattle.ix_core.specs.World.{World}
use Rattle.ix_core.proofs.Heaps.{object_set, object_other, value_other, value_set}
use Rattle.ix_core.proofs.Waiting.{free_later}
use Rattle.ix_core.proofs.Entered.{has_on, meets_same, reading_later, field_on}
use Rattle.ix_core.proofs.Cases.{by_test, equal, differ}

pub at_kept : {T : Type 0} (d : T) (P : ℕ → T → Type 0) (xs : List T) (t : ℕ) (v : T) → P t v → ((k : ℕ) → P k (unwrap_or (slice_get xs k) d)) → (k : ℕ) → P k (unwrap_or (slice_get (slice_set xs t v) k) d)
at_kept d P [] t v here each k = each k
at_kept d P (x ∷ xs) zero v here each zero = here
at_kept d P (x ∷ xs) zero v here each (suc k) = each (suc k)
at_kept d P (x ∷ xs) (suc t) v here each zero = each zero
at_kept d P (x ∷ xs) (suc t) v here each (suc k) = at_kept d (λ j. P (suc j)) xs t v here (λ j. each (suc j)) k

-- an array has no field
no_elements : (world : World) (kind : Kind) (field at place : ℕ) (cells : List Held) → place_in world.place kind field ≡ Some at → place < length (array_cells kind cells) → MeetsElement (kind_claims kind) (value_at (array_cells kind cells) place)
no_elements world (ObjectOf class) field at place cells e lt = absurd (omega (arith, lt))
no_elements world (ArrayOf ty) field at place cells e lt = absurd cc

module _ (world : World) (tables : IsWorld world) (building : ℕ → Type 0) (method : Method) (slots : List Held) (heap : Heap) (keeps : HeapKeeps world building heap) (frame : FrameKeeps building method slots heap) where
  module _ (o f k at v : ℕ) (holds : value_at slots o ≡ At k) (placed : place_in world.place (object_at heap k).kind f ≡ Some at) where
    abbrev x : Held
    x = value_at slots v

    abbrev new : Object
    new = with_cells (object_at heap k) (slice_set (object_at heap k).cells at (value_at slots v))

    abbrev after : Heap
    after = write_at heap k at (value_at slots v)

    on : k < length heap
    on = has_on world.place heap k f at placed

    pub write_later : Later heap after
    write_later = λ j lt.
        let long : j < length after = subst (λ n. j < n) (sym (length-set heap k new)) lt in
        by_test (j == k)
        (λ t.
        let is : j ≡ k = equal j k t in
        let there : object_at after j ≡ new = ap (object_at after) is ∙ object_set heap k new on in
        record {
          on = long;
          kind = ap (λ i. (object_at heap i).kind) is ∙ sym (ap (λ (th : Object). th.kind) there);
          size = ap (λ i. length (object_at heap i).cells) is ∙ (sym (length-set (object_at heap k).cells at x) ∙ sym (ap (λ (th : Object). length th.cells) there));
        })
        (λ t.
        let there : object_at after j ≡ object_at heap j = object_other heap k j new t in
        record { on = long; kind = ap (λ (th : Object). th.kind) (sym there); size = ap (λ (th : Object). length th.cells) (sym there) })

    other_cell : (found : Option ℕ) → (found ≡ Some at → ⊥) → cell_of (object_at heap k).cells found ≡ cell_of (slice_set (object_at heap k).cells at (value_at slots v)) found
    other_cell None apart = refl
    other_cell (Some b) apart = by_test (b == at) (λ t. absurd (apart (ap Some (equal b at t)))) (λ t. sym (value_other (object_at heap k).cells at b x t))

    -- the field's object is one: its kind is a class
    same_field : (kind : Kind) (g : ℕ) → place_in world.place kind f ≡ Some at → place_in world.place kind g ≡ Some at → f ≡ g
    same_field (ObjectOf class) g a b = tables.apart class f g at a b
    same_field (ArrayOf ty) g a b = absurd cc

    -- every other field is as it was
    pub write_same : (object g : ℕ) → IsSame world heap after object g ⊎ ((object ≡ k) × (g ≡ f))
    write_same object g =
        by_test (object == k)
        (λ t.
        let is : object ≡ k = equal object k t in
        by_test (g == f)
        (λ u. inr (is, equal g f u))
        (λ u.
        let here : IsSame world heap after k g
        = other_cell (place_in world.place (object_at heap k).kind g) (λ e. differ g f u (sym (same_field (object_at heap k).kind g placed e)))
        ∙ sym (ap (λ (th : Object). cell_of th.cells (place_in world.place th.kind g)) (object_set heap k new on)) in
        inl (subst (λ i. IsSame world heap after i g) (sym is) here)))
        (λ t. inl (sym (ap (λ (th : Object). cell_of th.cells (place_in world.place th.kind g)) (object_other heap k object new t))))

    -- the field holds the value
    pub write_value : field_value world.place after k f ≡ x
    write_value =
        ap (λ (th : Object). cell_of th.cells (place_in world.place th.kind f)) (object_set heap k new on)
        ∙ (ap (cell_of (slice_set (object_at heap k).cells at x)) placed ∙ value_set (object_at heap k).cells at x (keeps.room k f at placed))

    -- What a write keeps, by what the method may write, and where the object is built by the claims of its fields.
    pub write_keeps : MayWrite world method o f → (IsOwn method v → ⊥) → ((IsOwn method o → ⊥) → MeetsFields world after k) → StepKeeps world building method slots heap slots after
    write_keeps may hidden meets =
        let later = write_later in
        let free_x : IsFree building heap x = frame.free v hidden in record {
          later = later;
          heap_keeps = record {
            bound = λ object is. (later object (keeps.bound object is)).on;
            free = at_kept nothing (λ j th. (place : ℕ) → IsFree building after (value_at th.cells place)) heap k new
                (λ place. free_later building heap after (value_at new.cells place) later (at_kept (Num (pos 0)) (λ j. IsFree building heap) (object_at heap k).cells at x free_x (keeps.free k) place))
                (λ j place. free_later building heap after (value_at (object_at heap j).cells place) later (keeps.free j place));
            built = λ object other field has.
                by_test (object == k)
                (λ t.
                let is : object ≡ k = equal object k t in
                subst (λ i. MeetsFields world after i) (sym is) (meets (λ own. other (subst building (sym is) (frame.this own.0 k (subst (λ q. value_at slots q ≡ At k) own.1 holds))))) field has)
                (λ t.
                let there : object_at after object ≡ object_at heap object = object_other heap k object new t in
                meets_same world heap after object field
                (λ g. reading_later heap after (field_value world.place heap object g) later (field_on world building heap keeps object g) ∙ ap (reading_of after) (sym (ap (λ (th : Object). cell_of th.cells (place_in world.place th.kind g)) there)))
                (keeps.built object other field (subst (λ (th : Object). HasField world th.kind field) there has)));
            elements = at_kept nothing (λ j th. (place : ℕ) → place < length (array_cells th.kind th.cells) → MeetsElement (kind_claims th.kind) (value_at (array_cells th.kind th.cells) place)) heap k new
                (λ place lt. no_elements world (object_at heap k).kind f at place new.cells placed lt) keeps.elements;
            room = at_kept nothing (λ j th. (field place : ℕ) → place_in world.place th.kind field ≡ Some place → place < length th.cells) heap k new
                (λ field place e. subst (λ n. place < n) (sym (length-set (object_at heap k).cells at x)) (keeps.room k field place e)) keeps.room;
          };
          frame_keeps = record { size = frame.size; made = frame.made; this = frame.this; free = λ slot other. free_later building heap after (value_at slots slot) later (frame.free slot other) };
          inputs = λ slot is. refl;
          fields = λ object g. ⊎_elim (λ same. inl same)
              (λ is. inr (record { through = o; at = holds ∙ ap At (sym is.0); may = subst (MayWrite world method o) (sym is.1) may }))
              (write_same object g);
        }
