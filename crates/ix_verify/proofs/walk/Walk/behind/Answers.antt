use Rattle.std.proofs.Common.{ap}
use Rattle.ix_verify.proofs.walk.Walk.behind.Goals as goal

pub returns-clause-found : goal.returns-clause-found
returns-clause-found c = ap (λ s. record c.args.found.now { breaks = s; failed = c.judge.new.failed }) c.replace-out.ensures.after
