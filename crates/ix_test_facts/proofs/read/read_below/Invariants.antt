use Rattle.std.proofs.Common.{◌≡◌, ◌++◌, drop}
use Rattle.std.specs.Prelude.{filter}
use Rattle.ix_test_facts.specs.OverGroups.{is_read_below}
use Rattle.ix_test_facts.proofs.read.read_below.Given as goal

abbrev pub invariant-loop-fact : goal.invariant-loop-fact
invariant-loop-fact l = l.read.items ++ filter (is_read_below l.p) (drop l.fact-index l.on_p) ≡ filter (is_read_below l.p) l.on_p
