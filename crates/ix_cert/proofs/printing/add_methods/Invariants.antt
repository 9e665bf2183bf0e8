use Rattle.std.proofs.Common.{map}
use Rattle.std.specs.Prelude.{string_bytes}
use Rattle.ix_store.specs.StoredFacts.{stored}
use Rattle.ix_cert.proofs.Parts.{MethodsSoFar}
use Rattle.ix_cert.proofs.printing.add_methods.Given as goal

abbrev pub invariant-loop-number : goal.invariant-loop-number
invariant-loop-number l = MethodsSoFar l.methods (map (map stored) l.labels) l.number (string_bytes l.fn.text) (string_bytes l.text)
