-- What an accepted program is counted by: the methods that are written, and the array accesses.
use Rattle.std.specs.Prelude.{ℕ, List, count_by}
use Rattle.ix_core.specs.declared.program.Method.{Method}
use Rattle.ix_core.specs.declared.program.Program.{Program}
use Rattle.ix_replies.specs.declared.counts.Counts.{Counts}

abbrev pub written_in : List Method → ℕ
written_in methods = count_by (λ method. method.written) methods

abbrev pub counts_of : Program → Counts
counts_of program = record { methods = written_in program.methods; accesses = program.accesses }
