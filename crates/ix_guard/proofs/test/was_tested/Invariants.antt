use Rattle.std.proofs.Common.{◌≡◌, drop}
use Rattle.std.specs.List.{list_any}
use Rattle.ix_guard.specs.Tests as spec
use Rattle.ix_guard.proofs.test.was_tested.Given as goal

abbrev pub invariant-loop-other : goal.invariant-loop-other
invariant-loop-other l = list_any (spec.same_pair l.pair) l.pairs ≡ list_any (spec.same_pair l.pair) (drop l.other-index l.pairs)
