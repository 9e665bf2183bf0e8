use Rattle.std.proofs.Common.{◌≡◌, length}
use Rattle.ix_annot.specs.Arguments as spec
use Rattle.ix_annot.proofs.arguments.all_written.Given as goal

abbrev pub invariant-loop-entries : goal.invariant-loop-entries
invariant-loop-entries l = spec.preceded_by l.all (spec.all_written l.says l.entries l.offsets) ≡ spec.all_written l.says l.initial.entries l.initial.offsets

abbrev pub decreases-loop-entries : goal.decreases-loop-entries
decreases-loop-entries l = length l.entries
