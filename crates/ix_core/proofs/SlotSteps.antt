-- An assignment of a slot: what it keeps, whatever the analysis.
use Rattle.std.specs.Prelude.{◌≡◌, ℕ, ◌==◌, List, slice_set, Option, Some, unwrap_or, refl}
use Rattle.std.proofs.Common.{sym, ap, subst, inl}
use Rattle.ix_core.specs.declared.program.Method.{Method}
use Rattle.ix_core.specs.Heap.{Held, At, Heap, value_at, object_at, place_in}
use Rattle.ix_core.specs.Objects.{MeetsField, IsFree, HeapKeeps, FrameKeeps, IsOwn, IsInput, StepKeeps}
use Rattle.ix_core.specs.World.{World}
use Rattle.ix_core.proofs.Cases.{by_test, equal}
use Rattle.ix_core.proofs.Heaps.{value_other}
use Rattle.ix_core.proofs.Stack.{free_set}
use Rattle.ix_core.proofs.Waiting.{later_refl}

pub some_number : (a b : ℕ) → ◌≡◌ {A = Option ℕ} (Some a) (Some b) → a ≡ b
some_number a b e = ap (λ (o : Option ℕ). unwrap_or o 0) e

module _ (world : World) (building : ℕ → Type 0) (method : Method) (slots : List Held) (heap : Heap) (keeps : HeapKeeps world building heap) (frame : FrameKeeps building method slots heap) where
  -- A read of a field of an object that is built: its claims are met, and what is read is free.
  pub read_meets : (o f k at : ℕ) → value_at slots o ≡ At k → place_in world.place (object_at heap k).kind f ≡ Some at → (IsOwn method o → ⊥) → MeetsField world heap k f
  read_meets o f k at holds placed other = keeps.built k (subst (IsFree building heap) holds (frame.free o other)).1 f (at, placed)

  -- An assignment of a free value to a slot that may be assigned.
  pub assign_keeps : (t : ℕ) (x : Held) → IsFree building heap x → (IsInput method t → ⊥) → (IsOwn method t → ⊥) → StepKeeps world building method slots heap (slice_set slots t x) heap
  assign_keeps t x free other apart = record {
    later = later_refl heap;
    heap_keeps = keeps;
    frame_keeps = free_set building method slots heap (Some t) (Some x) (λ a e own. apart (subst (IsOwn method) (sym (some_number t a e)) own)) (λ a e. free) frame;
    inputs = λ slot is. by_test (slot == t) (λ e. absurd (other (subst (IsInput method) (equal slot t e) is))) (λ e. sym (value_other slots t slot x e));
    fields = λ object field. inl refl;
  }

  pub read_keeps : (t k at : ℕ) → (IsInput method t → ⊥) → (IsOwn method t → ⊥) → StepKeeps world building method slots heap (slice_set slots t (value_at (object_at heap k).cells at)) heap
  read_keeps t k at other apart = assign_keeps t (value_at (object_at heap k).cells at) (keeps.free k at) other apart
