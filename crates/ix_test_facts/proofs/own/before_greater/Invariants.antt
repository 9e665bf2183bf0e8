use Rattle.std.proofs.Common.{◌≡◌}
use Rattle.ix_test_facts.specs.OverGroups.{is_of_greater}
use Rattle.ix_test_facts.proofs.OwnPut.{ArePassed}
use Rattle.ix_test_facts.proofs.own.before_greater.Given as goal

abbrev pub invariant-loop-fact : goal.invariant-loop-fact
invariant-loop-fact l = record {
  counted : l.count ≡ l.fact-index;
  passed : ArePassed (is_of_greater l.p) l.on_p l.fact-index;
}
