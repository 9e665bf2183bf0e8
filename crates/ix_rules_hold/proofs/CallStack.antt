-- The stack while a call runs: the caller waits below the callee and what it calls, and the step that returns gives the caller's frame its value.
use Rattle.std.specs.Prelude.{◌≡◌, ℕ, zero, suc, ◌+◌, ◌<◌, ◌≤◌, Bool, true, false, if◌then◌else◌, List, [], ◌∷◌, ◌++◌, length, Option, Some, None, refl}
use Rattle.std.proofs.Common.{arith, sym, ap, ◌∙◌, subst}
use Rattle.std.proofs.lemmas.List.{length-append}
use Rattle.ix_core.specs.declared.op.CallOp.{CallOp}
use Rattle.ix_core.specs.Heap.{Held}
use Rattle.ix_core.specs.Machine.{CallKind, Limits, Ending, HeapFull, FrameFull, State, Waiting, Move, Go, Wrap, Tell, Enter, Leave, Stop, frame, callee_of, target_of, result_of, resumed, entered, called, stopped, lacks_cells, is_past, moved, next_move, step, step_from, run}
use Rattle.ix_core.specs.Tables.{Tables}
use Rattle.ix_core.specs.Tasks.{Tasks}
use Rattle.ix_rules_hold.specs.CallEffects.{HasReturned}

module _ (limits : Limits) (tables : Tables) where
  pub step_is : (state : State) → state.ended ≡ None → (move : Move) → next_move limits tables state ≡ move → step limits tables state ≡ moved limits tables move state
  step_is state running move next = ap (λ e. step_from limits tables e state) running ∙ ap (λ m. moved limits tables m state) next

  run_step : (n : ℕ) (state : State) → run limits tables (suc n) state ≡ step limits tables (run limits tables n state)
  run_step zero state = refl
  run_step (suc n) state = run_step n (step limits tables state)

  -- ---- a frame that waits, above others

  module _ (w : Waiting) (bottom : List Waiting) where
    abbrev Waits : State → Type 0
    Waits state = (above : List Waiting) × (state.below ≡ above ++ (w ∷ bottom))

    waits_if : (test : Bool) (ending : Ending) (state other : State) → Waits state → Waits other → Waits (if test then stopped ending state else other)
    waits_if true ending state other first second = first
    waits_if false ending state other first second = second

    waits_call : (state : State) → Waits state → (kind : CallKind) (call : CallOp) (place : ℕ) (tasks : Tasks) (found : Option ℕ) → Waits (called limits tables kind call place tasks state found)
    waits_call state waits kind call place tasks None = waits
    waits_call state waits kind call place tasks (Some method) =
        let more : Waiting = record { frame = frame state.now.method tasks state.now.slots; target = target_of tables kind call } in
        waits_if (lacks_cells limits tables kind state.heap) (HeapFull place) state _ waits
        (waits_if (is_past limits.frames (length state.below + 2)) (FrameFull place) state (entered tables kind call method tasks state) waits
        (more ∷ waits.0, ap (λ below. more ∷ below) waits.1))

    waits_leave : (result : Option Held) (state : State) (above : List Waiting) → length bottom < length (resumed result state (above ++ (w ∷ bottom))).below → Waits (resumed result state (above ++ (w ∷ bottom)))
    waits_leave result state [] deeper = absurd (omega (arith, deeper))
    waits_leave result state (x ∷ above) deeper = (above, refl)

    waits_move : (state : State) → Waits state → (move : Move) → length bottom < length (moved limits tables move state).below → Waits (moved limits tables move state)
    waits_move state waits (Go tasks slots heap) deeper = waits
    waits_move state waits (Wrap tasks slots heap) deeper = waits
    waits_move state waits (Tell value tasks) deeper = waits
    waits_move state waits (Stop ending) deeper = waits
    waits_move state waits (Enter kind call place tasks) deeper = waits_call state waits kind call place tasks (callee_of tables kind call state.now.slots state.heap)
    waits_move state waits (Leave returned) deeper =
        let result = result_of (tables.routines state.now.method) state.now.slots returned in
        subst (λ below. length bottom < length (resumed result state below).below → Waits (resumed result state below)) (sym waits.1) (waits_leave result state waits.0) deeper

    waits_step : (state : State) → Waits state → (ended : Option Ending) → state.ended ≡ ended → length bottom < length (step limits tables state).below → Waits (step limits tables state)
    waits_step state waits (Some ending) is deeper = subst Waits (sym (ap (λ e. step_from limits tables e state) is)) waits
    waits_step state waits None is deeper =
        subst (λ (s : State). length bottom < length s.below → Waits s) (sym (step_is state is (next_move limits tables state) refl)) (waits_move state waits (next_move limits tables state)) deeper

    waits_run : (n : ℕ) (state : State) → Waits state → ((count : ℕ) → count ≤ n → length bottom < length (run limits tables count state).below) → Waits (run limits tables n state)
    waits_run zero state waits deeper = waits
    waits_run (suc n) state waits deeper = waits_run n (step limits tables state) (waits_step state waits state.ended refl (deeper 1 (omega (arith)))) (λ count le. deeper (suc count) (omega (arith, le)))

    -- ---- the step that returns

    none_above : (result : Option Held) (last : State) (above : List Waiting) → length (resumed result last (above ++ (w ∷ bottom))).below ≡ length bottom → above ≡ []
    none_above result last [] same = refl
    none_above result last (x ∷ above) same = let a = length-append above (w ∷ bottom) in absurd (omega (arith, a, same))

    if_depth : (test : Bool) (ending : Ending) (last other : State) → length last.below ≤ length other.below → length last.below ≤ length (if test then stopped ending last else other).below
    if_depth true ending last other le = omega (arith)
    if_depth false ending last other le = le

    called_depth : (last : State) (kind : CallKind) (call : CallOp) (place : ℕ) (tasks : Tasks) (found : Option ℕ) → length last.below ≤ length (called limits tables kind call place tasks last found).below
    called_depth last kind call place tasks None = omega (arith)
    called_depth last kind call place tasks (Some method) =
        if_depth (lacks_cells limits tables kind last.heap) (HeapFull place) last _
        (if_depth (is_past limits.frames (length last.below + 2)) (FrameFull place) last (entered tables kind call method tasks last) (omega (arith)))

    back_by : (last : State) → Waits last → length bottom < length last.below → (move : Move) → length (moved limits tables move last).below ≡ length bottom
        → (result : Option Held) × (moved limits tables move last ≡ resumed result last (w ∷ bottom))
    back_by last waits deeper (Go tasks slots heap) same = absurd (omega (arith, deeper, same))
    back_by last waits deeper (Wrap tasks slots heap) same = absurd (omega (arith, deeper, same))
    back_by last waits deeper (Tell value tasks) same = absurd (omega (arith, deeper, same))
    back_by last waits deeper (Stop ending) same = absurd (omega (arith, deeper, same))
    back_by last waits deeper (Enter kind call place tasks) same =
        let le = called_depth last kind call place tasks (callee_of tables kind call last.now.slots last.heap) in absurd (omega (arith, deeper, same, le))
    back_by last waits deeper (Leave returned) same =
        let result = result_of (tables.routines last.now.method) last.now.slots returned in
        let none = none_above result last waits.0 (subst (λ below. length (resumed result last below).below ≡ length bottom) waits.1 same) in
        (result, ap (resumed result last) (waits.1 ∙ ap (λ above. above ++ (w ∷ bottom)) none))

    back_from : (last : State) → Waits last → length bottom < length last.below → (ended : Option Ending) → last.ended ≡ ended → length (step limits tables last).below ≡ length bottom
        → (result : Option Held) × (step limits tables last ≡ resumed result last (w ∷ bottom))
    back_from last waits deeper (Some ending) is same =
        let still = ap (λ (s : State). length s.below) (ap (λ e. step_from limits tables e last) is) in
        absurd (omega (arith, deeper, same, still))
    back_from last waits deeper None is same =
        let does = step_is last is (next_move limits tables last) refl in
        let back = back_by last waits deeper (next_move limits tables last) (ap (λ (s : State). length s.below) (sym does) ∙ same) in
        (back.0, does ∙ back.1)

  -- ---- a state that calls

  module _ (state : State) (running : state.ended ≡ None) (kind : CallKind) (call : CallOp) (place : ℕ) (tasks : Tasks) (m : ℕ)
      (next : next_move limits tables state ≡ Enter kind call place tasks) (found : callee_of tables kind call state.now.slots state.heap ≡ Some m) where
    abbrev pub caller_waits : Waiting
    caller_waits = record { frame = frame state.now.method tasks state.now.slots; target = target_of tables kind call }

    not_stopped : (test : Bool) (ending : Ending) (other : State) → length state.below < length (if test then stopped ending state else other).below → (if test then stopped ending state else other) ≡ other
    not_stopped true ending other deep = absurd (omega (arith, deep))
    not_stopped false ending other deep = refl

    still_running : (test : Bool) (ending : Ending) (other : State) → (if test then stopped ending state else other).ended ≡ None → (if test then stopped ending state else other) ≡ other
    still_running true ending other e = absurd cc
    still_running false ending other e = refl

    calls : step limits tables state ≡ called limits tables kind call place tasks state (Some m)
    calls = step_is state running (Enter kind call place tasks) next ∙ ap (called limits tables kind call place tasks state) found

    abbrev within_frames : State
    within_frames = if is_past limits.frames (length state.below + 2) then stopped (FrameFull place) state else entered tables kind call m tasks state

    pub has_entered : length state.below < length (step limits tables state).below → step limits tables state ≡ entered tables kind call m tasks state
    has_entered deeper =
        let deep = subst (λ (s : State). length state.below < length s.below) calls deeper in
        let first = not_stopped (lacks_cells limits tables kind state.heap) (HeapFull place) within_frames deep in
        let second = not_stopped (is_past limits.frames (length state.below + 2)) (FrameFull place) (entered tables kind call m tasks state) (subst (λ (s : State). length state.below < length s.below) first deep) in
        calls ∙ (first ∙ second)

    goes_deeper : (step limits tables state).ended ≡ None → length state.below < length (step limits tables state).below
    goes_deeper running_on =
        let on = subst (λ (s : State). s.ended ≡ None) calls running_on in
        let first = still_running (lacks_cells limits tables kind state.heap) (HeapFull place) within_frames on in
        let second = still_running (is_past limits.frames (length state.below + 2)) (FrameFull place) (entered tables kind call m tasks state) (subst (λ (s : State). s.ended ≡ None) first on) in
        subst (λ (s : State). length state.below < length s.below) (sym (calls ∙ (first ∙ second))) (omega (arith))

    -- a call that has returned went on for two steps or more: the state behind it is the caller's, with the value in the target
    pub returns_to : (steps : ℕ) → HasReturned limits tables state steps
        → (n : ℕ) × (steps ≡ suc (suc n)) × (result : Option Held) × (run limits tables steps state ≡ resumed result (run limits tables (suc n) state) (caller_waits ∷ state.below))
    returns_to zero has = let begun = has.begun in absurd (omega (arith, begun))
    returns_to (suc zero) has = let deep = goes_deeper has.goes_on in let back = has.back in absurd (omega (arith, deep, back))
    returns_to (suc (suc n)) has =
        let deeper : (count : ℕ) → count ≤ n → length state.below < length (run limits tables count (step limits tables state)).below
        = λ count le. has.deeper (suc count) (omega (arith)) (omega (arith, le)) in
        let waits : Waits caller_waits state.below (step limits tables state)
        = subst (Waits caller_waits state.below) (sym (has_entered (deeper 0 (omega (arith))))) ([], refl) in
        let is = run_step n (step limits tables state) in
        let back = back_from caller_waits state.below (run limits tables n (step limits tables state)) (waits_run caller_waits state.below n (step limits tables state) waits deeper) (deeper n (omega (arith)))
        (run limits tables n (step limits tables state)).ended refl (ap (λ (s : State). length s.below) (sym is) ∙ has.back) in
        (n, refl, back.0, is ∙ back.1)
