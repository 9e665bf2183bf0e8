use Rattle.std.proofs.Common.{map}
use Rattle.ix_store.specs.StoredFacts.{stored}
use Rattle.ix_verify.proofs.Programs.{IsSoFar}
use Rattle.ix_verify.proofs.audited.audit.Given as goal

abbrev pub invariant-loop-number : goal.invariant-loop-number
invariant-loop-number l = IsSoFar l.program l.profile (map (map stored) l.labels) l.number l.found.items
