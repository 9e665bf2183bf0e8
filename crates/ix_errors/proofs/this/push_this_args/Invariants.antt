use Rattle.std.proofs.Common.{◌≡◌, ◌++◌, drop}
use Rattle.ix_sign.specs.RuleErrors.{this_args}
use Rattle.ix_errors.specs.Escapes.{errors_at}
use Rattle.ix_errors.proofs.this.push_this_args.Given as goal

abbrev pub invariant-loop-arg : goal.invariant-loop-arg
invariant-loop-arg l = l.out.items ++ errors_at (this_args (drop l.arg-index l.args)) ≡ l.fn.out.items ++ errors_at (this_args l.args)
