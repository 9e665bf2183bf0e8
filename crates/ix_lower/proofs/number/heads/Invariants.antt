use Rattle.std.proofs.Common.{◌≡◌, drop}
use Rattle.ix_plain.specs.Members as spec
use Rattle.ix_lower.proofs.number.heads.Given as goal

abbrev pub invariant-loop-decl : goal.invariant-loop-decl
invariant-loop-decl l = spec.heads l.decls ≡ spec.heads_from l.heads l.class (drop l.decl-index l.decls)
