use Rattle.std.proofs.Common.{rules}
use Rattle.ix_outside.proofs.FilesHeld.{held-at}
use Rattle.ix_outside.proofs.memory_source.place_of.Goals as goal

pub returns-then-eq : goal.returns-then-eq
returns-then-eq c = (c.loop-i-test.true, held-at _ _ c.index-files-i.result _ c.loop-i-test.true c.index-files-i.is (search rules) c.loop-i.invariant)
