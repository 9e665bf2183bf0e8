-- What is said of a program with these errors, of a file that was not read, and to words that are no command.
use Rattle.std.specs.Prelude.{ℕ, List, [], ◌∷◌, ◌++◌, length, codes}
use Rattle.ix_core.specs.declared.error.Error.{Error}
use Rattle.ix_core.specs.declared.program.Program.{Program}
use Rattle.ix_report.specs.Reports.{report, told}
use Rattle.ix_report.specs.Texts.{line, accepted}
use Rattle.ix_report.specs.Runs.{bench_accepted, bench_rejected}
use Rattle.ix_replies.specs.Answer.{Answer, out_answer, err_answer}
use Rattle.ix_replies.specs.declared.status.Status.TheVariants.{Done, Rejected, Usage}
use Rattle.ix_replies.specs.Counts.{counts_of}

-- the answer to words that are no command
abbrev pub usage : Answer
usage = err_answer Usage (line (codes "usage: indexcheck check FILE | run FILE CLASS.METHOD -- INPUTS | bench N | verify FILE CERT | guard FILE"))

-- what is said of a file that was not read
abbrev pub read_failed : List ℕ → List ℕ
read_failed file = file ++ line (codes ": read failed")

-- the answer of `check` on a source with this program and these errors
abbrev pub verdict : List ℕ → List ℕ → Program → List Error → Answer
verdict name bytes program [] = out_answer Done (accepted (counts_of program).methods (counts_of program).accesses)
verdict name bytes program (error ∷ errors) = out_answer Rejected (report program name bytes (error ∷ errors))

-- the answer of `bench`, which counts the lines
abbrev pub bench_verdict : ℕ → Program → List Error → Answer
bench_verdict count program [] = out_answer Done (bench_accepted count (counts_of program).methods (counts_of program).accesses)
bench_verdict count program (error ∷ errors) = out_answer Rejected (bench_rejected count (length (told program (error ∷ errors))))
