use Rattle.std.proofs.Common.{ap}
use Rattle.std.specs.Prelude.{not}
use Rattle.ix_store.specs.StoredFacts.{stored}
use Rattle.ix_errors.proofs.Refused.{proved_is}
use Rattle.ix_errors.proofs.unproved.refuses.Goals as goal

pub returns : goal.returns
returns c = ap not (proved_is c.args.claim.now c.args.at.now (stored c.args.store.now) c.proves.result c.proves.ensures.proved)
