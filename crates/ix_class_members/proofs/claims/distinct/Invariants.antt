use Rattle.std.proofs.Common.{◌≡◌, ◌++◌, drop}
use Rattle.ix_core.specs.SameClaims.{distinct}
use Rattle.ix_class_members.specs.Seen.{unseen}
use Rattle.ix_class_members.proofs.claims.distinct.Given as goal

abbrev pub invariant-loop-claim : goal.invariant-loop-claim
invariant-loop-claim l = l.each ++ unseen l.each (distinct (drop l.claim-index l.claims)) ≡ distinct l.claims
