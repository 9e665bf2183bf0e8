use Rattle.std.proofs.Common.{◌≡◌, drop, slice_get}
use Rattle.ix_meaning.specs.Limits as spec
use Rattle.ix_names.proofs.counts.methods_passed.Given as goal

abbrev pub invariant-loop-class : goal.invariant-loop-class
invariant-loop-class l = slice_get (spec.all_methods (drop l.class-index l.classes)) l.left ≡ slice_get (spec.all_methods l.classes) spec.most_methods
