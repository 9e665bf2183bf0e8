use Rattle.std.proofs.Common.{◌≡◌, ◌++◌, drop}
use Rattle.ix_parse_base.proofs.copies.copy_args.Given as goal

abbrev pub invariant-loop-arg : goal.invariant-loop-arg
invariant-loop-arg l = l.copy ++ drop l.arg-index l.args ≡ l.args
