use Rattle.std.proofs.Common.{◌≡◌, length}
use Rattle.ix_annot.specs.Arguments as spec
use Rattle.ix_annot.proofs.arguments.are_taken.Given as goal

abbrev pub invariant-loop-args : goal.invariant-loop-args
invariant-loop-args l = spec.are_taken l.says l.args ≡ spec.are_taken l.says l.initial.args

abbrev pub decreases-loop-args : goal.decreases-loop-args
decreases-loop-args l = length l.args
