-- Steps that print nothing, one after another.
use Rattle.std.proofs.Common.{◌≡◌, ℕ, ◌+◌, Bool, true, List, [], ◌++◌, append-nil, Option, None, refl, ap, sym, ◌∙◌, subst, arith}
use Rattle.ix_core.specs.declared.op.Op.{Op}
use Rattle.ix_core.specs.Code.{Code, Do}
use Rattle.ix_core.specs.Heap.{Held, Heap}
use Rattle.ix_core.specs.Machine.{Limits, State, Frame, Waiting, Ending, Effect, Done, Wrapped, with_limits, frame, operate, effect_then, moved, event_from, event_values, step, step_event, run, printed, printed_from, Event}
use Rattle.ix_core.specs.Tables.{Tables}
use Rattle.ix_core.specs.Tasks.{Tasks, code_then}
use Rattle.ix_machine_state.specs.declared.room.Room.{Room}
use Rattle.ix_machine_state.specs.Fits.{IsFreeFor}
use Rattle.ix_machine_state.specs.Room.{code_above, code_values}
use Rattle.ix_machine.specs.Quiet.{LeadsTo}
use Rattle.ix_machine.specs.Turns.{state_with}
use Rattle.ix_machine.proofs.ManySteps.{run_more, printed_more}

pub no_steps : (limits : Limits) (tables : Tables) (state : State) → LeadsTo limits tables 0 state state
no_steps limits tables state = record { state = refl; quiet = refl }

pub leads_on : (limits : Limits) (tables : Tables) (steps more : ℕ) (from middle to : State) → LeadsTo limits tables steps from middle → LeadsTo limits tables more middle to
    → LeadsTo limits tables (steps + more) from to
leads_on limits tables steps more from middle to first second = record {
  state = run_more limits tables steps more from ∙ (ap (run limits tables more) first.state ∙ second.state);
  quiet = printed_more limits tables steps more from
      ∙ (ap (λ values. values ++ printed limits tables more (run limits tables steps from)) first.quiet ∙ (ap (printed limits tables more) first.state ∙ second.quiet));
}

-- ---- and then a step

pub then_step : (limits : Limits) (tables : Tables) (steps : ℕ) (from middle to : State) → LeadsTo limits tables steps from middle → to ≡ step limits tables middle → to ≡ run limits tables (steps + 1) from
then_step limits tables steps from middle to leads is = is ∙ (sym (ap (step limits tables) leads.state) ∙ sym (run_more limits tables steps 1 from))

-- which tells what all these steps print
pub then_tells : (limits : Limits) (tables : Tables) (steps : ℕ) (from middle : State) (event : Event) → LeadsTo limits tables steps from middle → middle.ended ≡ None → event ≡ step_event limits tables middle
    → event_values event ≡ printed limits tables (steps + 1) from
then_tells limits tables steps from middle event leads goes is =
    ap event_values is ∙ sym (printed_more limits tables steps 1 from
    ∙ (ap (λ values. values ++ printed limits tables 1 (run limits tables steps from)) leads.quiet
    ∙ (ap (printed limits tables 1) leads.state ∙ (ap (printed_from limits tables 1 middle) goes ∙ append-nil (event_values (step_event limits tables middle))))))

abbrev pub state_ended : Frame → List Waiting → Heap → Bool → Option Ending → State
state_ended now below heap wrapped ended = record { now = now; below = below; heap = heap; wrapped = wrapped; ended = ended }

-- the same where that the run goes on is known of its ending, and that the limit is the same
module _ (most same frames : ℕ) (tables : Tables) (steps : ℕ) (first now : Frame) (below : List Waiting) (heap next : Heap) (before after : Bool) (ended : Option Ending)
    (leads : LeadsTo (with_limits most frames) tables steps (state_with first below heap before) (state_with now below next after)) (goes : ended ≡ None) (is : same ≡ most) where
  leads_there : LeadsTo (with_limits most frames) tables steps (state_ended first below heap before ended) (state_ended now below next after ended)
  leads_there = subst (λ (how : Option Ending). LeadsTo (with_limits most frames) tables steps (state_ended first below heap before how) (state_ended now below next after how)) (sym goes) leads

  pub goes_then : (to : State) → to ≡ step (with_limits same frames) tables (state_ended now below next after ended)
      → to ≡ run (with_limits most frames) tables (steps + 1) (state_ended first below heap before ended)
  goes_then to stepped =
      then_step (with_limits most frames) tables steps (state_ended first below heap before ended) (state_ended now below next after ended) to leads_there
      (stepped ∙ ap (λ cells. step (with_limits cells frames) tables (state_ended now below next after ended)) is)

  pub tells_then : (event : Event) → event ≡ step_event (with_limits same frames) tables (state_ended now below next after ended)
      → event_values event ≡ printed (with_limits most frames) tables (steps + 1) (state_ended first below heap before ended)
  tells_then event told =
      then_tells (with_limits most frames) tables steps (state_ended first below heap before ended) (state_ended now below next after ended) event leads_there goes
      (told ∙ ap (λ cells. step_event (with_limits cells frames) tables (state_ended now below next after ended)) is)

-- ---- an operation

module _ (limits : Limits) (tables : Tables) (method : ℕ) (op : Op) (rest : Code) (tasks : Tasks) (slots next : List Held) (heap after : Heap) (below : List Waiting) (wrapped : Bool) where
  abbrev before : State
  before = state_with (frame method (code_then (Do op rest) tasks) slots) below heap wrapped

  abbrev then_state : Effect → State
  then_state effect = moved limits tables (effect_then effect op.span.from (code_then rest tasks)) before

  abbrev then_values : Effect → List Held
  then_values effect = event_values (event_from (effect_then effect op.span.from (code_then rest tasks)) (then_state effect).ended) ++ []

  pub done_leads : operate limits tables op.span.from slots heap op.kind ≡ Done next after
      → LeadsTo limits tables 1 (state_with (frame method (code_then (Do op rest) tasks) slots) below heap wrapped) (state_with (frame method (code_then rest tasks) next) below after wrapped)
  done_leads is = record { state = ap then_state is; quiet = ap then_values is }

  pub wrapped_leads : operate limits tables op.span.from slots heap op.kind ≡ Wrapped next after
      → LeadsTo limits tables 1 (state_with (frame method (code_then (Do op rest) tasks) slots) below heap wrapped) (state_with (frame method (code_then rest tasks) next) below after true)
  wrapped_leads is = record { state = ap then_state is; quiet = ap then_values is }

-- after other steps, where it is the first of the code that is left
pub op_leads : (most same frames : ℕ) (tables : Tables) (steps : ℕ) (from : State) (method named : ℕ) (code : Code) (op : Op) (rest : Code) (tasks : Tasks) (slots next : List Held) (heap after : Heap) (below : List Waiting) (wrapped later : Bool)
    → same ≡ most → named ≡ method → code ≡ Do op rest
    → LeadsTo (with_limits most frames) tables steps from (state_with (frame method (code_then code tasks) slots) below heap wrapped)
    → LeadsTo (with_limits same frames) tables 1 (state_with (frame named (code_then (Do op rest) tasks) slots) below heap wrapped) (state_with (frame named (code_then rest tasks) next) below after later)
    → LeadsTo (with_limits most frames) tables (steps + 1) from (state_with (frame method (code_then rest tasks) next) below after later)
op_leads most same frames tables steps from method named code op rest tasks slots next heap after below wrapped later cells stays first leads one =
    leads_on (with_limits most frames) tables steps 1 from (state_with (frame method (code_then (Do op rest) tasks) slots) below heap wrapped) (state_with (frame method (code_then rest tasks) next) below after later)
    (subst (λ (c : Code). LeadsTo (with_limits most frames) tables steps from (state_with (frame method (code_then c tasks) slots) below heap wrapped)) first leads)
    (subst (λ (m : ℕ). LeadsTo (with_limits most frames) tables 1 (state_with (frame m (code_then (Do op rest) tasks) slots) below heap wrapped) (state_with (frame m (code_then rest tasks) next) below after later)) stays
    (subst (λ (n : ℕ). LeadsTo (with_limits n frames) tables 1 (state_with (frame named (code_then (Do op rest) tasks) slots) below heap wrapped) (state_with (frame named (code_then rest tasks) next) below after later)) cells one))

-- what is behind it needs no more room
pub free_behind : (below : ℕ) (room : Room) (code : Code) (op : Op) (rest : Code) → code ≡ Do op rest → IsFreeFor below room code → IsFreeFor below room rest
free_behind below room code op rest is free = record {
  above = omega (arith, ap code_above is, free.above);
  values = omega (arith, ap code_values is, free.values);
}
