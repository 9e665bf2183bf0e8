use Rattle.ix_errors.proofs.Refused.{ok_both}
use Rattle.ix_errors.proofs.field_errors.push_refused.Goals as goal

pub returns : goal.returns
returns c =
    let own = rw c.claims_of-claims.ensures at c.in_ok-push_unproved.ensures in
    ok_both c.args.out.now.items c.push_unproved.new.out.items c.push_dependents.new.out.items _ _ c.push_dependents.result own c.push_dependents.ensures
