-- What has wrapped once has wrapped for good.
use Rattle.std.proofs.Common.{◌≡◌, ℕ, zero, suc, ◌+◌, Bool, true, false, List, [], ◌∷◌, length, Option, Some, None, refl, sym, ap, ◌∙◌, arith}
use Rattle.std.specs.Prelude.{if◌then◌else◌}
use Rattle.std.proofs.lemmas.Bool.{false≢true}
use Rattle.ix_core.specs.declared.op.CallOp.{CallOp}
use Rattle.ix_core.specs.Heap.{Held}
use Rattle.ix_core.specs.Machine.{Ending, State, Waiting, Move, Go, Wrap, Tell, Enter, Leave, Stop, CallKind, no_limits, HeapFull, FrameFull, called, callee_of, entered, is_past, lacks_cells, stopped, resumed, result_of, moved, step, step_from, next_move, run}
use Rattle.ix_core.specs.Tables.{Tables}
use Rattle.ix_core.specs.Tasks.{Tasks}

either_wrapped : (b : Bool) (first second : State) → first.wrapped ≡ true → second.wrapped ≡ true → (if b then first else second).wrapped ≡ true
either_wrapped true first second a c = a
either_wrapped false first second a c = c

module _ (tables : Tables) where
  called_wrapped : (kind : CallKind) (call : CallOp) (place : ℕ) (tasks : Tasks) (state : State) (callee : Option ℕ) → state.wrapped ≡ true → (called no_limits tables kind call place tasks state callee).wrapped ≡ true
  called_wrapped kind call place tasks state None is = is
  called_wrapped kind call place tasks state (Some method) is =
      either_wrapped (lacks_cells no_limits tables kind state.heap) (stopped (HeapFull place) state)
      (if is_past no_limits.frames (length state.below + 2) then stopped (FrameFull place) state else entered tables kind call method tasks state) is
      (either_wrapped (is_past no_limits.frames (length state.below + 2)) (stopped (FrameFull place) state) (entered tables kind call method tasks state) is is)

  resumed_wrapped : (result : Option Held) (state : State) (below : List Waiting) → state.wrapped ≡ true → (resumed result state below).wrapped ≡ true
  resumed_wrapped result state [] is = is
  resumed_wrapped result state (waiting ∷ below) is = is

  moved_wrapped : (move : Move) (state : State) → state.wrapped ≡ true → (moved no_limits tables move state).wrapped ≡ true
  moved_wrapped (Go tasks slots heap) state is = is
  moved_wrapped (Wrap tasks slots heap) state is = refl
  moved_wrapped (Tell value tasks) state is = is
  moved_wrapped (Enter kind call place tasks) state is = called_wrapped kind call place tasks state (callee_of tables kind call state.now.slots state.heap) is
  moved_wrapped (Leave returned) state is = resumed_wrapped (result_of (tables.routines state.now.method) state.now.slots returned) state state.below is
  moved_wrapped (Stop ending) state is = is

  from_wrapped : (ended : Option Ending) (state : State) → state.wrapped ≡ true → (step_from no_limits tables ended state).wrapped ≡ true
  from_wrapped None state is = moved_wrapped (next_move no_limits tables state) state is
  from_wrapped (Some ending) state is = is

  stays_wrapped : (steps : ℕ) (state : State) → state.wrapped ≡ true → (run no_limits tables steps state).wrapped ≡ true
  stays_wrapped zero state is = is
  stays_wrapped (suc steps) state is = stays_wrapped steps (step no_limits tables state) (from_wrapped state.ended state is)

  not_yet : (b : Bool) (steps : ℕ) (state : State) → state.wrapped ≡ b → (run no_limits tables steps state).wrapped ≡ false → b ≡ false
  not_yet true steps state is late = absurd (false≢true (sym late ∙ stays_wrapped steps state is))
  not_yet false steps state is late = refl

  -- what hasn't wrapped behind more steps hadn't before
  pub unwrapped_before : (steps more : ℕ) (state : State) → (run no_limits tables (steps + more) state).wrapped ≡ false → (run no_limits tables steps state).wrapped ≡ false
  unwrapped_before zero more state late =
      let none : zero + more ≡ more = omega arith in
      not_yet state.wrapped more state refl (ap (λ n. (run no_limits tables n state).wrapped) (sym none) ∙ late)
  unwrapped_before (suc steps) more state late =
      let some : suc steps + more ≡ suc (steps + more) = omega arith in
      unwrapped_before steps more (step no_limits tables state) (ap (λ n. (run no_limits tables n state).wrapped) (sym some) ∙ late)
