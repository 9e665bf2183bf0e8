-- What a run writes: a line for each value that it prints, and for each access where that is asked, and at last the line of its outcome.
use Rattle.std.specs.Prelude.{ℕ, pos, Bool, true, false, List, [], ◌∷◌, ◌++◌}
use Rattle.ix_core.specs.declared.program.Program.{Program}
use Rattle.ix_core.specs.Heap.{Held, Num, Boolean, Null, At}
use Rattle.ix_core.specs.Machine.{State, Limits, run, printed}
use Rattle.ix_core.specs.Tables.{Tables, tables_of}
use Rattle.ix_core.specs.Traces.{Observation, Printed, Accessed, trace}
use Rattle.ix_report.specs.Outcomes.{last_line}
use Rattle.ix_report.specs.Runs.{access, printed_int, printed_bool}

-- the line of a printed value; a program has no statement that prints a reference
abbrev pub value_line : Held → List ℕ
value_line (Num number) = printed_int number
value_line (Boolean answer) = printed_bool answer
value_line Null = []
value_line (At number) = []

abbrev pub value_lines : List Held → List ℕ
value_lines [] = []
value_lines (value ∷ values) = value_line value ++ value_lines values

-- the lines of the values that so many steps print
abbrev pub printed_lines : Limits → Tables → ℕ → State → List ℕ
printed_lines limits tables steps state = value_lines (printed limits tables steps state)

-- ---- with a line for each access, in the source with that text

abbrev pub seen_line : List ℕ → Observation → List ℕ
seen_line text (Printed value) = value_line value
seen_line text (Accessed cell) = access text cell.index (pos cell.size) cell.place

abbrev pub seen_lines : List ℕ → List Observation → List ℕ
seen_lines text [] = []
seen_lines text (seen ∷ more) = seen_line text seen ++ seen_lines text more

-- the lines of the accesses and the printed values of so many steps
abbrev pub trace_lines : List ℕ → Limits → Tables → ℕ → State → List ℕ
trace_lines text limits tables steps state = seen_lines text (trace limits tables steps state)

-- the lines of the printed values, with those of the accesses or without
abbrev pub lines_of : Bool → List ℕ → Limits → Tables → ℕ → State → List ℕ
lines_of true text limits tables steps state = trace_lines text limits tables steps state
lines_of false text limits tables steps state = printed_lines limits tables steps state

-- all that a run of at most so many steps writes, of a source with that text
abbrev pub run_text : Bool → Program → List ℕ → Limits → ℕ → State → List ℕ
run_text traced program text limits steps state =
    let last : State = run limits (tables_of program) steps state in lines_of traced text limits (tables_of program) steps state ++ last_line program text steps last.ended last.wrapped
