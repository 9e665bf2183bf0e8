use Rattle.std.proofs.Common.{◌≡◌, ◌+◌, length, map, drop}
use Rattle.ix_verify.specs.Verdicts as spec
use Rattle.ix_verify.proofs.verifying.count_labels.Given as goal

abbrev pub invariant-loop-number : goal.invariant-loop-number
invariant-loop-number l = l.count + spec.labels_beside (drop l.number l.methods) (map length (drop l.number l.labels)) ≡ spec.labels_beside l.methods (map length l.labels)
