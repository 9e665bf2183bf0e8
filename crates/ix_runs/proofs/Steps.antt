-- Many steps, some at a time.
use Rattle.std.proofs.Common.{◌≡◌, ℕ, ◌+◌, List, [], ◌∷◌, ◌++◌, append_assoc, append-nil, Option, None, Some, option_map, is_none, false, refl, ap, sym, ◌∙◌}
use Rattle.ix_core.specs.Heap.{Held}
use Rattle.ix_core.specs.Machine.{Limits, State, Ending, run, printed}
use Rattle.ix_core.specs.Tables.{Tables}
use Rattle.ix_machine.proofs.ManySteps.{final_is_quiet, run_more, printed_more}
use Rattle.ix_runs.specs.Texts.{value_line, value_lines, printed_lines}

-- a final state prints nothing
pub final_prints : (limits : Limits) (tables : Tables) (steps : ℕ) (state : State) (how : Ending) → state.ended ≡ Some how → printed_lines limits tables steps state ≡ []
final_prints limits tables steps state how is = ap value_lines (final_is_quiet limits tables steps state how is)

-- ---- some steps

lines_append : (first second : List Held) → value_lines (first ++ second) ≡ value_lines first ++ value_lines second
lines_append [] second = refl
lines_append (value ∷ values) second = ap (λ rest. value_line value ++ rest) (lines_append values second) ∙ sym (append_assoc (value_line value) (value_lines values) (value_lines second))

-- what the next of the steps that are left print, and then the others
pub printed_next : (limits : Limits) (tables : Tables) (left made less : ℕ) (state next : State) → left ≡ made + less → next ≡ run limits tables made state
    → printed_lines limits tables left state ≡ printed_lines limits tables made state ++ printed_lines limits tables less next
printed_next limits tables left made less state next is went =
    ap (λ n. printed_lines limits tables n state) is ∙ (ap value_lines (printed_more limits tables made less state)
    ∙ (lines_append (printed limits tables made state) (printed limits tables less (run limits tables made state))
    ∙ ap (λ s. printed_lines limits tables made state ++ printed_lines limits tables less s) (sym went)))

pub run_next : (limits : Limits) (tables : Tables) (left made less : ℕ) (state next : State) → left ≡ made + less → next ≡ run limits tables made state
    → run limits tables less next ≡ run limits tables left state
run_next limits tables left made less state next is went =
    ap (run limits tables less) went ∙ (sym (run_more limits tables made less state) ∙ sym (ap (λ n. run limits tables n state) is))

pub line_alone : (value : Held) → value_lines (value ∷ []) ≡ value_line value
line_alone value = append-nil (value_line value)

ended_from : (ended : Option Ending) → (ended ≡ None → ⊥) → (how : Ending) × (ended ≡ Some how)
ended_from None not_none = absurd (not_none refl)
ended_from (Some how) not_none = (how, refl)

-- a state that isn't one that goes on is final
pub is_final : (state : State) → (state.ended ≡ None → ⊥) → (how : Ending) × (state.ended ≡ Some how)
is_final state not_none = ended_from state.ended not_none

is_some_state : {A : Type 0} (tell : A → Ending) (outcome : Option A) (ended : Option Ending) → option_map tell outcome ≡ ended → is_none outcome ≡ false → ended ≡ None → ⊥
is_some_state tell None ended is told none = cc
is_some_state tell (Some how) ended is told none = cc

-- an outcome that is told is final
pub told_final : {A : Type 0} (tell : A → Ending) (outcome : Option A) (state : State) → option_map tell outcome ≡ state.ended → is_none outcome ≡ false → (how : Ending) × (state.ended ≡ Some how)
told_final tell outcome state is told = is_final state (is_some_state tell outcome state.ended is told)
