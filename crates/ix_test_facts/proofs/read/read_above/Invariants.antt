use Rattle.std.proofs.Common.{◌≡◌, ◌++◌, drop}
use Rattle.std.specs.Prelude.{filter}
use Rattle.ix_test_facts.specs.OverGroups.{is_read_above}
use Rattle.ix_test_facts.proofs.read.read_above.Given as goal

abbrev pub invariant-loop-fact : goal.invariant-loop-fact
invariant-loop-fact l = l.read.items ++ filter (is_read_above l.q) (drop l.fact-index l.on_q) ≡ filter (is_read_above l.q) l.on_q
