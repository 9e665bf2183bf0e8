use Rattle.std.proofs.Common.{◌≡◌, drop}
use Rattle.ix_annot.specs.Named as spec
use Rattle.ix_annot.proofs.naming.param_named.Given as goal

abbrev pub invariant-loop-k : goal.invariant-loop-k
invariant-loop-k l = spec.param_named l.k (drop l.k l.params) l.name ≡ spec.param_named 0 l.params l.name
