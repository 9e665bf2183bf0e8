use Rattle.std.proofs.Common.{map}
use Rattle.std.specs.Prelude.{string_bytes}
use Rattle.ix_store.specs.StoredFacts.{stored}
use Rattle.ix_cert.proofs.Parts.{LabelsSoFar}
use Rattle.ix_cert.proofs.printing.add_labels.Given as goal

abbrev pub invariant-loop-number : goal.invariant-loop-number
invariant-loop-number l = LabelsSoFar (map stored l.stores) l.number (string_bytes l.fn.text) (string_bytes l.text)
