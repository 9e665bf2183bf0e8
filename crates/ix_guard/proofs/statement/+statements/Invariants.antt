use Rattle.std.proofs.Common.{◌≡◌, ◌++◌, drop}
use Rattle.ix_guard.specs.Guards as spec
use Rattle.ix_guard.specs.Shown.{site_of}
use Rattle.ix_guard.proofs.statement.+statements.Given as goal

abbrev pub invariant-add_listed-loop-stmt : goal.invariant-add_listed-loop-stmt
invariant-add_listed-loop-stmt l =
    l.out.items ++ spec.listed (site_of l.site) (drop l.stmt-index l.statements) ≡ l.initial.out.items ++ spec.listed (site_of l.site) l.statements
