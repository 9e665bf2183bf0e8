use Rattle.std.proofs.Common.{◌≡◌, drop}
use Rattle.ix_annot.specs.Named as spec
use Rattle.ix_annot.proofs.naming.has_local.Given as goal

abbrev pub invariant-loop-local : goal.invariant-loop-local
invariant-loop-local l = spec.has_local (drop l.local-index l.locals) l.number l.name ≡ spec.has_local l.locals l.number l.name
