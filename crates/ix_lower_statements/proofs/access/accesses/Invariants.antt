use Rattle.std.proofs.Common.{◌≡◌, drop}
use Rattle.ix_plain.specs.Counts as spec
use Rattle.ix_lower_statements.proofs.access.accesses.Given as goal

abbrev pub invariant-loop-decl : goal.invariant-loop-decl
invariant-loop-decl l = spec.accesses l.decls 0 ≡ spec.accesses (drop l.decl-index l.decls) l.count
