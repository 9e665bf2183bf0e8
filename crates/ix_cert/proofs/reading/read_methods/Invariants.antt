use Rattle.std.proofs.Common.{map}
use Rattle.ix_store.specs.StoredFacts.{stored}
use Rattle.ix_cert.proofs.Parts.{MethodsRead}
use Rattle.ix_cert.proofs.reading.read_methods.Given as goal

abbrev pub invariant-loop-number : goal.invariant-loop-number
invariant-loop-number l = MethodsRead l.fields l.methods l.text l.number (map (map stored) l.labels) l.rest
