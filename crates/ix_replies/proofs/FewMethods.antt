-- A formed program has at most 4096 methods that are written.
use Rattle.std.proofs.Common.{◌≡◌, ℕ, ◌≤◌, true, arith}
use Rattle.std.proofs.lemmas.Bool.{and_parts}
use Rattle.std.proofs.lemmas.Bool.Decides.{nat_tests}
use Rattle.ix_core.specs.declared.program.Program.{Program}
use Rattle.ix_core.specs.Formed.{Formed, at_most}
use Rattle.ix_replies.specs.Counts.{written_in}

few : (count : ℕ) → at_most count 4096 ≡ true → count ≤ 4096
few count h = grind (arith, nat_tests)

pub few_written : (program : Program) → Formed program → written_in program.methods ≤ 4096
few_written program formed = few _ (and_parts _ _ (and_parts _ _ (and_parts _ _ formed.1).1).1).0
