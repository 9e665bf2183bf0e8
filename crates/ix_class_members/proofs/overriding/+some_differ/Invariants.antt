use Rattle.std.proofs.Common.{length}
use Rattle.ix_class_members.proofs.overriding.+some_differ.Given as goal

abbrev pub decreases-some_differ : goal.decreases-some_differ
decreases-some_differ l = length l.a.now
