use Rattle.std.proofs.Common.{◌≡◌, drop}
use Rattle.ix_plain.specs.Members as spec
use Rattle.ix_lower.proofs.number.written_methods.Given as goal

abbrev pub invariant-loop-decl : goal.invariant-loop-decl
invariant-loop-decl l = spec.written_methods 0 l.decls ≡ spec.written_methods l.count (drop l.decl-index l.decls)
