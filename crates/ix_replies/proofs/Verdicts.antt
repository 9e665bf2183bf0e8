-- What the status of a verdict says of the errors.
use Rattle.std.proofs.Common.{◌≡◌, ◌≢◌, ℕ, true, List, [], ◌∷◌, length, refl}
use Rattle.ix_core.specs.declared.error.Error.{Error}
use Rattle.ix_core.specs.declared.program.Program.{Program}
use Rattle.ix_report.specs.Reports.{report, told}
use Rattle.ix_report.specs.Runs.{bench_rejected}
use Rattle.ix_replies.specs.Answer.{out_answer}
use Rattle.ix_replies.specs.Statuses.{is_answer}
use Rattle.ix_replies.specs.declared.status.Status.TheVariants.{Done, Rejected}
use Rattle.ix_replies.specs.Said.{verdict, bench_verdict}

pub verdict_rejected : (file bytes : List ℕ) (program : Program) (errors : List Error) → length errors ≢ 0
    → verdict file bytes program errors ≡ out_answer Rejected (report program file bytes errors)
verdict_rejected file bytes program [] some = absurd (some refl)
verdict_rejected file bytes program (error ∷ errors) some = refl

pub bench_rejected_is : (count : ℕ) (program : Program) (errors : List Error) → length errors ≢ 0
    → bench_verdict count program errors ≡ out_answer Rejected (bench_rejected count (length (told program errors)))
bench_rejected_is count program [] some = absurd (some refl)
bench_rejected_is count program (error ∷ errors) some = refl

pub verdict_done : (file bytes : List ℕ) (program : Program) (errors : List Error) → (verdict file bytes program errors).status ≡ Done → errors ≡ []
verdict_done file bytes program [] done = refl
verdict_done file bytes program (error ∷ errors) done = absurd (cc)

-- ---- verdicts speak of no fault

pub verdict_answers : (name bytes : List ℕ) (program : Program) (errors : List Error) → is_answer (verdict name bytes program errors).status ≡ true
verdict_answers name bytes program [] = refl
verdict_answers name bytes program (error ∷ errors) = refl

pub bench_answers : (count : ℕ) (program : Program) (errors : List Error) → is_answer (bench_verdict count program errors).status ≡ true
bench_answers count program [] = refl
bench_answers count program (error ∷ errors) = refl
