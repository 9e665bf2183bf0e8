-- The program that is found of bytes can be verified by a certificate.
use Rattle.ix_core.specs.declared.program.Program.{Program}
use Rattle.ix_core.specs.Formed.{Formed}
use Rattle.ix_core.specs.Ready.{CanCheck}
use Rattle.ix_certify.proofs.Ready.{ready, upper_in_range}
use Rattle.ix_certify.specs.Verdicts.{CanVerify}

pub can_verify : (program : Program) → Formed program → CanCheck program → CanVerify program
can_verify program formed can = record {
  audit = record { few = can.methods; small = ready program formed can.few; upper = λ number within. upper_in_range program formed number within };
  apart = can.apart;
}
