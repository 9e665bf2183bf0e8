use Rattle.std.proofs.Common.{◌≡◌, drop}
use Rattle.ix_plain.specs.Counts as spec
use Rattle.ix_lower_statements.proofs.access.+statements.Given as goal

abbrev pub invariant-in_stmts-loop-stmt : goal.invariant-in_stmts-loop-stmt
invariant-in_stmts-loop-stmt l = spec.all_of spec.stmt_accesses l.statements l.initial.count ≡ spec.all_of spec.stmt_accesses (drop l.stmt-index l.statements) l.count
