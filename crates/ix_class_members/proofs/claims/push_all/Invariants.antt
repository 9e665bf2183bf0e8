use Rattle.std.proofs.Common.{◌≡◌, ◌++◌, drop}
use Rattle.ix_class_members.proofs.claims.push_all.Given as goal

abbrev pub invariant-loop-each : goal.invariant-loop-each
invariant-loop-each g l = l.list ++ drop l.each-index l.more ≡ l.fn.list ++ l.more
