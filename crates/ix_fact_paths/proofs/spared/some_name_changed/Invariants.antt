use Rattle.std.proofs.Common.{◌≡◌, drop}
use Rattle.ix_facts.specs.After.{of_target}
use Rattle.ix_fact_paths.specs.Spared.{some_named}
use Rattle.ix_fact_paths.proofs.spared.some_name_changed.Given as goal

abbrev pub invariant-loop-fact : goal.invariant-loop-fact
invariant-loop-fact l = some_named (of_target l.kind) (drop l.fact-index l.facts) ≡ some_named (of_target l.kind) l.facts
