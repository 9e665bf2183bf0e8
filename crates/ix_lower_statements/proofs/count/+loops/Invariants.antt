use Rattle.std.proofs.Common.{◌≡◌, drop}
use Rattle.ix_plain.specs.Counts as spec
use Rattle.ix_lower_statements.proofs.count.+loops.Given as goal

abbrev pub invariant-loops-loop-stmt : goal.invariant-loops-loop-stmt
invariant-loops-loop-stmt l = spec.loops l.statements l.initial.count ≡ spec.loops (drop l.stmt-index l.statements) l.count
