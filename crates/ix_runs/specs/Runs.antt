-- What a run answers.
use Rattle.std.specs.Prelude.{◌≡◌, ℕ, Bool, List, [], Result, Ok, Err}
use Rattle.ix_core.specs.declared.program.Program.{Program}
use Rattle.ix_core.specs.Machine.{State, with_limits, run}
use Rattle.ix_core.specs.Tables.{tables_of}
use Rattle.ix_machine.specs.declared.start.StartError.{StartError}
use Rattle.ix_machine.specs.declared.start.StartError.TheVariants as start
use Rattle.ix_machine.specs.Starts.{Starts}
use Rattle.ix_report.specs.Runs as text
use Rattle.ix_runs.specs.declared.running.RunEnd.{RunEnd}
use Rattle.ix_runs.specs.declared.running.RunEnd.TheVariants as end
use Rattle.ix_runs.specs.Ends.{end_of}
use Rattle.ix_runs.specs.Texts.{run_text}
use Rattle.ix_words.specs.declared.values.Limits.{Limits}
use Rattle.ix_words.specs.Words.{Text}
use Rattle.ix_replies.specs.Answer.{Answer, out_answer, err_answer}
use Rattle.ix_replies.specs.declared.status.Status.{Status}
use Rattle.ix_replies.specs.declared.status.Status.TheVariants.{Done, Stopped, StepsSpent, InputsRefused}

-- the line on a run that doesn't begin
abbrev pub refusal_text : Program → StartError → List ℕ
refusal_text program start.NotEntry = text.no_entry
refusal_text program start.WrongCount = text.wrong_count
refusal_text program (start.WrongKind number) = text.wrong_kind number
refusal_text program (start.Unmet method number claim) = text.unmet program method number claim
refusal_text program start.InputsTooLarge = text.too_large
refusal_text program start.Memory = []

abbrev pub status_of : RunEnd → Status
status_of end.Ended = Done
status_of end.Stopped = Stopped
status_of end.StepsSpent = StepsSpent

-- the answer of a run from this state: what it prints, with its accesses or without, and how it ends after at most so many steps
abbrev pub run_answer : Bool → Program → List ℕ → Limits → State → Answer
run_answer traced program bytes limits state =
    out_answer (status_of (end_of (run (with_limits limits.cells limits.frames) (tables_of program) limits.steps state).ended))
    (run_text traced program bytes (with_limits limits.cells limits.frames) limits.steps state)

abbrev pub start_answer : Bool → Program → List ℕ → Limits → Result State StartError → Answer
start_answer traced program bytes limits (Ok state) = run_answer traced program bytes limits state
start_answer traced program bytes limits (Err why) = err_answer InputsRefused (refusal_text program why)

-- This is the answer to a run of the program, which is that of these bytes, by an entry and words.
abbrev pub RunAnswers : Bool → Program → List ℕ → Limits → Text → List Text → Answer → Type 0
RunAnswers traced program bytes limits entry words answer =
    (begun : Result State StartError) × Starts program entry words limits.cells begun × (answer ≡ start_answer traced program bytes limits begun)
