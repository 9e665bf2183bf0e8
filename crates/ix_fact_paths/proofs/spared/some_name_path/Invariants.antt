use Rattle.std.proofs.Common.{◌≡◌, drop}
use Rattle.ix_facts.specs.Forget.{of_path}
use Rattle.ix_fact_paths.specs.Spared.{some_named}
use Rattle.ix_fact_paths.proofs.spared.some_name_path.Given as goal

abbrev pub invariant-loop-fact : goal.invariant-loop-fact
invariant-loop-fact l = some_named (of_path l.path) (drop l.fact-index l.facts) ≡ some_named (of_path l.path) l.facts
