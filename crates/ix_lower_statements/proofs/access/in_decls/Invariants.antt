use Rattle.std.proofs.Common.{◌≡◌, drop}
use Rattle.ix_plain.specs.Counts as spec
use Rattle.ix_lower_statements.proofs.access.in_decls.Given as goal

abbrev pub invariant-loop-decl : goal.invariant-loop-decl
invariant-loop-decl l = spec.all_of spec.decl_accesses l.decls l.initial.count ≡ spec.all_of spec.decl_accesses (drop l.decl-index l.decls) l.count
