use Rattle.std.proofs.Common.{◌≡◌, drop}
use Rattle.ix_class_members.specs.Seen.{seen}
use Rattle.ix_class_members.proofs.claims.is_among.Given as goal

abbrev pub invariant-loop-other : goal.invariant-loop-other
invariant-loop-other l = seen (drop l.other-index l.claims) l.claim ≡ seen l.claims l.claim
