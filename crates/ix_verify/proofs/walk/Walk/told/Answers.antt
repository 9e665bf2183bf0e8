use Rattle.std.specs.Prelude.{option_map}
use Rattle.std.proofs.Common.{true, false}
use Rattle.ix_store.specs.StoredFacts.{stored}
use Rattle.ix_verify.proofs.Stores.{told_least_of}
use Rattle.ix_verify.proofs.walk.Walk.told.Goals as goal

pub returns-clause-holds : goal.returns-clause-holds
returns-clause-holds c =
    let walk = c.args.self.now in
    told_least_of walk.program.now walk.within.now walk.profile true (option_map (λ op. op.now) c.args.last) c.args.slot (stored c.args.behind.now) (stored c.in_ok-holds.holds) c.in_ok-holds.ensures.least

pub returns-clause-fails : goal.returns-clause-fails
returns-clause-fails c =
    let walk = c.args.self.now in
    told_least_of walk.program.now walk.within.now walk.profile false (option_map (λ op. op.now) c.args.last) c.args.slot (stored c.args.behind.now) (stored c.in_ok-fails.fails) c.in_ok-fails.ensures.least
