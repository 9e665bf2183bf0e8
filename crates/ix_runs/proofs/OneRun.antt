-- One answer to a run is right, and its status speaks of no fault.
use Rattle.std.proofs.Common.{◌≡◌, ℕ, true, List, Option, Some, None, Bool, Result, Ok, Err, ap, sym, ◌∙◌, refl}
use Rattle.ix_core.specs.declared.program.Program.{Program}
use Rattle.ix_core.specs.Machine.{State, Ending}
use Rattle.ix_core.specs.Machine as ending
use Rattle.ix_machine.specs.declared.start.StartError.{StartError}
use Rattle.ix_machine.proofs.OneStart.{starts_one}
use Rattle.ix_runs.specs.Ends.{end_of}
use Rattle.ix_words.specs.declared.values.Limits.{Limits}
use Rattle.ix_words.specs.Words.{Text}
use Rattle.ix_replies.specs.Answer.{Answer}
use Rattle.ix_replies.specs.Statuses.{is_answer}
use Rattle.ix_runs.specs.Runs.{RunAnswers, start_answer, status_of}

pub runs_one : (traced : Bool) (program : Program) (bytes : List ℕ) (limits : Limits) (entry : Text) (words : List Text) (one other : Answer)
    → RunAnswers traced program bytes limits entry words one → RunAnswers traced program bytes limits entry words other → other ≡ one
runs_one traced program bytes limits entry words one other a b =
    b.2 ∙ ap (start_answer traced program bytes limits) (starts_one program entry words limits.cells b.0 a.0 b.1 a.1) ∙ sym a.2

-- ---- answers speak of no fault

end_answers : (end : Option Ending) → is_answer (status_of (end_of end)) ≡ true
end_answers None = refl
end_answers (Some (ending.Ended value)) = refl
end_answers (Some (ending.Outside index size place)) = refl
end_answers (Some (ending.Negative size place)) = refl
end_answers (Some (ending.NullUsed place)) = refl
end_answers (Some (ending.ZeroDivisor place)) = refl
end_answers (Some (ending.Thrown name place)) = refl
end_answers (Some (ending.HeapFull place)) = refl
end_answers (Some (ending.FrameFull place)) = refl

pub start_answers : (traced : Bool) (program : Program) (bytes : List ℕ) (limits : Limits) (begun : Result State StartError) → is_answer (start_answer traced program bytes limits begun).status ≡ true
start_answers traced program bytes limits (Ok state) = end_answers _
start_answers traced program bytes limits (Err why) = refl
