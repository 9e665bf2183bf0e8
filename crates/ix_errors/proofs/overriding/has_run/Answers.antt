use Rattle.ix_store.specs.StoredFacts.{stored}
use Rattle.ix_errors.proofs.OverridesRefused.{has_run_least}
use Rattle.ix_errors.proofs.overriding.has_run.Goals as goal

pub returns : goal.returns
returns c = record { least = has_run_least c.args.program.now c.args.method.now c.args.upper.now (stored c.in_ok-before.before) c.behind_run.result c.in_ok-before.ensures c.behind_run.ensures }
