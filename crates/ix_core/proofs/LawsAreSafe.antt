-- A program with an analysis that keeps the laws, from good starts, is safe.
use Rattle.std.specs.Prelude.{◌≡◌, ℕ, ◌+◌, Bool, true, false, if◌then◌else◌, List, [], ◌∷◌, length, Option, None, Some, refl}
use Rattle.std.proofs.Common.{sym, ap, ◌∙◌}
use Rattle.std.proofs.lemmas.Bool.{false≢true}
use Rattle.ix_core.specs.declared.fact.Profile.{Profile}
use Rattle.ix_core.specs.declared.fact.Profile.TheVariants.{Ideal, Int32}
use Rattle.ix_core.specs.declared.op.CallOp.{CallOp}
use Rattle.ix_core.specs.declared.program.Program.{Program}
use Rattle.ix_core.specs.Heap.{Held, Heap}
use Rattle.ix_core.specs.declared.claim.Type_.{Type_}
use Rattle.ix_core.specs.Formed.{is_formed}
use Rattle.ix_core.specs.TypedStates.{StateTyped, NowTyped}
use Rattle.ix_core.proofs.FormedParts.{locals_of}
use Rattle.ix_core.proofs.TypedStarts.{start_typed}
use Rattle.ix_core.proofs.TypedRuns.{step_typed}
use Rattle.ix_core.specs.Machine.{Limits, State, Waiting, Move, Go, Wrap, Tell, Enter, Leave, Stop, Ending, CallKind, HeapFull, FrameFull, is_past, step, step_from, next_move, moved, resumed, called, entered, stopped, lacks_cells, result_of, callee_of}
use Rattle.ix_core.specs.Safe.{Begins, Counts, Safe, start}
use Rattle.ix_core.specs.Tasks.{Tasks}
use Rattle.ix_core.specs.Waits.{Knowledge, Good, Uncounted, Runs, Ends}
use Rattle.ix_core.specs.Analysis.{Laws}
use Rattle.ix_core.specs.Tables.{Tables}
use Rattle.ix_core.specs.World.{World, tables_in, world_of}
use Rattle.ix_core.proofs.GoodIsSafe.{good_is_safe}
use Rattle.ix_core.proofs.Stack.{step_good}

-- ---- what wrapped stays so

module _ (limits : Limits) (tables : Tables) where
  wrapped_resumed : (value : Option Held) (state : State) (below : List Waiting) → (resumed value state below).wrapped ≡ state.wrapped
  wrapped_resumed value state [] = refl
  wrapped_resumed value state (w ∷ below) = refl

  wrapped_if : (b : Bool) (one other : State) (t : Bool) → one.wrapped ≡ t → other.wrapped ≡ t → (if b then one else other).wrapped ≡ t
  wrapped_if true one other t x y = x
  wrapped_if false one other t x y = y

  wrapped_called : (kind : CallKind) (call : CallOp) (place : ℕ) (tasks : Tasks) (state : State) (found : Option ℕ) → (called limits tables kind call place tasks state found).wrapped ≡ state.wrapped
  wrapped_called kind call place tasks state None = refl
  wrapped_called kind call place tasks state (Some m) =
      wrapped_if (lacks_cells limits tables kind state.heap) (stopped (HeapFull place) state) _ state.wrapped refl
      (wrapped_if (is_past limits.frames (length state.below + 2)) (stopped (FrameFull place) state) (entered tables kind call m tasks state) state.wrapped refl refl)

  wrapped_moved : (move : Move) (state : State) → (moved limits tables move state).wrapped ≡ false → state.wrapped ≡ false
  wrapped_moved (Go tasks slots heap) state clear = clear
  wrapped_moved (Wrap tasks slots heap) state clear = absurd (false≢true (sym clear))
  wrapped_moved (Tell value tasks) state clear = clear
  wrapped_moved (Enter kind call place tasks) state clear = sym (wrapped_called kind call place tasks state (callee_of tables kind call state.now.slots state.heap)) ∙ clear
  wrapped_moved (Leave returned) state clear = sym (wrapped_resumed (result_of (tables.routines state.now.method) state.now.slots returned) state state.below) ∙ clear
  wrapped_moved (Stop ending) state clear = clear

  wrapped_step : (ended : Option Ending) (state : State) → (step_from limits tables ended state).wrapped ≡ false → state.wrapped ≡ false
  wrapped_step None state clear = wrapped_moved (next_move limits tables state) state clear
  wrapped_step (Some ending) state clear = clear

  -- what the profile doesn't count it doesn't count after a step either
  uncounted : (profile : Profile) (state : State) → Counts profile (step limits tables state) → Counts profile state
  uncounted Ideal state counts = wrapped_step state.ended state counts
  uncounted Int32 state counts = tt

module _ (profile : Profile) (world : World) (Typed : ℕ → Tasks → List Held → Heap → Type 0) (know : Knowledge) (laws : Laws profile world Typed know) where
  pub good_next : (limits : Limits) (state : State) → Typed state.now.method state.now.tasks state.now.slots state.heap → Good world know profile state → Good world know profile (step limits (tables_in world) state)
  good_next limits state typed (Uncounted past) = Uncounted (λ counts. past (uncounted limits (tables_in world) profile state counts))
  good_next limits state typed (Runs is running) = step_good profile world Typed know laws limits state typed running is
  good_next limits state typed (Ends ending is fine) = Ends ending (ap (λ (s : State). s.ended) (ap (λ e. step_from limits (tables_in world) e state) is) ∙ is) fine

module _ (program : Program) (locals : List (List Type_)) (formed : is_formed program locals ≡ true) where
  -- the types of a method's locals
  abbrev pub types_in : ℕ → List Type_
  types_in number = locals_of program locals formed number

  pub laws_are_safe : (know : Knowledge) (profile : Profile) → Laws profile (world_of program) (NowTyped program types_in) know
      → ((method : ℕ) (inputs : _) → Begins program method inputs → Good (world_of program) know profile (start program method inputs))
      → Safe program profile
  laws_are_safe know profile laws starts =
      good_is_safe program know profile (StateTyped program types_in)
      (λ method inputs begins. (start_typed program locals formed method inputs begins.entry, starts method inputs begins))
      (λ limits state typed. step_typed program locals formed limits state typed)
      (λ limits state typed good. good_next profile (world_of program) (NowTyped program types_in) know laws limits state (record { heap_typed = typed.heap; frame_typed = typed.now }) good)
