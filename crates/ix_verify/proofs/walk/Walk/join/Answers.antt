use Rattle.ix_verify.proofs.Results.{if_ok_both}
use Rattle.ix_verify.proofs.Stores.{joins}
use Rattle.ix_verify.proofs.walk.Walk.join.Goals as goal

pub returns : goal.returns
returns c =
    let walk = c.args.self.now in
    if_ok_both c.join.result _ _ _ (λ joined is said. joins walk.program.now walk.within.now walk.profile c.args.one.now c.args.other.now joined is said) c.join.ensures.least_above c.join.ensures.joined
