use Rattle.std.proofs.Common.{take}
use Rattle.ix_cert.specs.Reading.{Lacks}
use Rattle.ix_cert.proofs.cut.cut.Given as goal

abbrev pub invariant-loop-at : goal.invariant-loop-at
invariant-loop-at l = Lacks l.byte (take l.at l.text)
