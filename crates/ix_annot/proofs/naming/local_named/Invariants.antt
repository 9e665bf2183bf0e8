use Rattle.std.proofs.Common.{◌≡◌, drop}
use Rattle.ix_annot.specs.Named as spec
use Rattle.ix_annot.proofs.naming.local_named.Given as goal

abbrev pub invariant-loop-local : goal.invariant-loop-local
invariant-loop-local l = spec.local_named (drop l.local-index l.locals) l.name ≡ spec.local_named l.locals l.name
