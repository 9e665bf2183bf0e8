-- A run whose status says how it ended is one that began.
use Rattle.std.proofs.Common.{◌≡◌, ◌≤◌, ◌<◌, ◌≢◌, ℕ, List, Bool, true, Result, Ok, Err, ap, sym, ◌∙◌, refl}
use Rattle.ix_core.specs.declared.program.Program.{Program}
use Rattle.ix_core.specs.Machine.{State}
use Rattle.ix_machine.specs.declared.start.StartError.{StartError}
use Rattle.ix_machine.specs.Starts.{Starts, no_entry, wrong_count, wrong_kind, not_met, too_large, begins}
use Rattle.ix_machine.proofs.Entered.{entered}
use Rattle.ix_runs.specs.declared.running.RunEnd.{RunEnd}
use Rattle.ix_runs.specs.declared.running.RunEnd.TheVariants as end
use Rattle.ix_words.specs.declared.values.Limits.{Limits}
use Rattle.ix_words.specs.Words.{Text}
use Rattle.ix_replies.specs.Answer.{Answer}
use Rattle.ix_replies.specs.Statuses.{is_answer}
use Rattle.ix_replies.specs.declared.status.Status.TheVariants.{Rejected, Limit, InputsRefused}
use Rattle.ix_runs.specs.Runs.{RunAnswers, start_answer, status_of}
use Rattle.ix_runs.specs.Entering.{Entering}

pub not_limit : (made : RunEnd) → Limit ≡ status_of made → ⊥
not_limit end.Ended is = cc
not_limit end.Stopped is = cc
not_limit end.StepsSpent is = cc

pub not_rejected : (made : RunEnd) → Rejected ≡ status_of made → ⊥
not_rejected end.Ended is = cc
not_rejected end.Stopped is = cc
not_rejected end.StepsSpent is = cc

not_refused : (made : RunEnd) → InputsRefused ≡ status_of made → ⊥
not_refused end.Ended is = cc
not_refused end.Stopped is = cc
not_refused end.StepsSpent is = cc

-- the status says how a run ended, so it speaks of no fault
pub made_answers : (made : RunEnd) → is_answer (status_of made) ≡ true
made_answers end.Ended = refl
made_answers end.Stopped = refl
made_answers end.StepsSpent = refl

begun : (program : Program) (entry : Text) (words : List Text) (cells : ℕ) (started : Result State StartError) → Starts program entry words cells started → (state : State) → started ≡ Ok state
    → Entering program entry words
begun program entry words cells _ (no_entry none) state is = absurd (cc)
begun program entry words cells _ (wrong_count method found count) state is = absurd (cc)
begun program entry words cells _ (wrong_kind method number found count wrong) state is = absurd (cc)
begun program entry words cells _ (not_met method inputs unmet given first) state is = absurd (cc)
begun program entry words cells _ (too_large method inputs given met past) state is = absurd (cc)
begun program entry words cells _ (begins method inputs given met room) state is =
    record { method = method; inputs = inputs; given = given; begins = entered program entry words method inputs given met }

started : (traced : Bool) (program : Program) (bytes : List ℕ) (limits : Limits) (entry : Text) (words : List Text) (begun_as : Result State StartError) → Starts program entry words limits.cells begun_as
    → (answer : Answer) → answer ≡ start_answer traced program bytes limits begun_as → (made : RunEnd) → answer.status ≡ status_of made → Entering program entry words
started traced program bytes limits entry words (Ok state) starts answer is made status = begun program entry words limits.cells (Ok state) starts state refl
started traced program bytes limits entry words (Err why) starts answer is made status = absurd (not_refused made (sym (ap (λ (a : Answer). a.status) is) ∙ status))

pub run_enters : (traced : Bool) (program : Program) (bytes : List ℕ) (limits : Limits) (entry : Text) (words : List Text) (answer : Answer) → RunAnswers traced program bytes limits entry words answer
    → (made : RunEnd) → answer.status ≡ status_of made → Entering program entry words
run_enters traced program bytes limits entry words answer right made status = started traced program bytes limits entry words right.0 right.1 answer right.2 made status
