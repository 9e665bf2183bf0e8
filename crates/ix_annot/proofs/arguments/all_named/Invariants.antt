use Rattle.std.proofs.Common.{◌≡◌, length}
use Rattle.ix_annot.specs.Arguments as spec
use Rattle.ix_annot.proofs.arguments.all_named.Given as goal

abbrev pub invariant-loop-entries : goal.invariant-loop-entries
invariant-loop-entries l = spec.preceded_by l.all (spec.all_named l.entries) ≡ spec.all_named l.initial.entries

abbrev pub decreases-loop-entries : goal.decreases-loop-entries
decreases-loop-entries l = length l.entries
