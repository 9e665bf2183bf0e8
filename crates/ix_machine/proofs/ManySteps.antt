-- So many steps, and then more.
use Rattle.std.proofs.Common.{◌≡◌, ℕ, zero, suc, ◌+◌, [], ◌++◌, append_assoc, Option, None, Some, refl, ap, sym, ◌∙◌, arith}
use Rattle.ix_core.specs.Machine.{Limits, State, Ending, step, step_event, run, printed, printed_from, event_values}
use Rattle.ix_core.specs.Tables.{Tables}

-- ---- final states

final_steps : (limits : Limits) (tables : Tables) (state : State) (ended : Option Ending) (how : Ending) → state.ended ≡ ended → ended ≡ Some how → step limits tables state ≡ state
final_steps limits tables state None how is final = absurd (cc)
final_steps limits tables state (Some other) how is final = rw is refl

-- a final state stays
pub final_stays : (limits : Limits) (tables : Tables) (steps : ℕ) (state : State) (how : Ending) → state.ended ≡ Some how → run limits tables steps state ≡ state
final_stays limits tables zero state how is = refl
final_stays limits tables (suc steps) state how is =
    ap (run limits tables steps) (final_steps limits tables state (Some how) how is refl) ∙ final_stays limits tables steps state how is

final_from : (limits : Limits) (tables : Tables) (steps : ℕ) (state : State) (how : Ending) → printed_from limits tables steps state (Some how) ≡ []
final_from limits tables zero state how = refl
final_from limits tables (suc steps) state how = refl

-- and prints nothing
pub final_is_quiet : (limits : Limits) (tables : Tables) (steps : ℕ) (state : State) (how : Ending) → state.ended ≡ Some how → printed limits tables steps state ≡ []
final_is_quiet limits tables steps state how is = ap (printed_from limits tables steps state) is ∙ final_from limits tables steps state how

-- ---- more steps

pub run_more : (limits : Limits) (tables : Tables) (steps more : ℕ) (state : State) → run limits tables (steps + more) state ≡ run limits tables more (run limits tables steps state)
run_more limits tables zero more state = let none : zero + more ≡ more = omega arith in ap (λ n. run limits tables n state) none
run_more limits tables (suc steps) more state =
    let some : suc steps + more ≡ suc (steps + more) = omega arith in
    ap (λ n. run limits tables n state) some ∙ run_more limits tables steps more (step limits tables state)

printed_more_from : (limits : Limits) (tables : Tables) (steps more : ℕ) (state : State) (ended : Option Ending) → state.ended ≡ ended
    → printed_from limits tables (steps + more) state ended ≡ printed_from limits tables steps state ended ++ printed limits tables more (run limits tables steps state)
printed_more_from limits tables zero more state ended is =
    let none : zero + more ≡ more = omega arith in
    ap (λ n. printed_from limits tables n state ended) none ∙ ap (printed_from limits tables more state) (sym is)
printed_more_from limits tables (suc steps) more state None is =
    let next : State = step limits tables state in
    let some : suc steps + more ≡ suc (steps + more) = omega arith in
    ap (λ n. printed_from limits tables n state None) some
    ∙ (ap (λ values. event_values (step_event limits tables state) ++ values) (printed_more_from limits tables steps more next next.ended refl)
    ∙ sym (append_assoc (event_values (step_event limits tables state)) (printed limits tables steps next) (printed limits tables more (run limits tables steps next))))
printed_more_from limits tables (suc steps) more state (Some how) is =
    let some : suc steps + more ≡ suc (steps + more) = omega arith in
    ap (λ n. printed_from limits tables n state (Some how)) some
    ∙ sym (ap (printed limits tables more) (final_stays limits tables (suc steps) state how is) ∙ final_is_quiet limits tables more state how is)

-- what so many steps print, and then what more steps print
pub printed_more : (limits : Limits) (tables : Tables) (steps more : ℕ) (state : State)
    → printed limits tables (steps + more) state ≡ printed limits tables steps state ++ printed limits tables more (run limits tables steps state)
printed_more limits tables steps more state = printed_more_from limits tables steps more state state.ended refl
