use Rattle.std.proofs.Common.{length}
use Rattle.ix_symbols.proofs.types.+same_claims.Given as goal

abbrev pub decreases-same_claims : goal.decreases-same_claims
decreases-same_claims l = length l.a.now
