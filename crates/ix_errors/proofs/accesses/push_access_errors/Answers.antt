use Rattle.ix_store.specs.StoredFacts.{stored}
use Rattle.ix_sign.specs.RuleErrors.{AccessLow, AccessHigh}
use Rattle.ix_errors.proofs.Refused.{adds_both}
use Rattle.ix_text.proofs.Chained.{both_ok}
use Rattle.ix_errors.proofs.accesses.push_access_errors.Goals as goal

pub returns : goal.returns
returns c =
    let store = stored c.args.store.now in
    record {
      errors = both_ok c.push_low_error.result c.push_high_error.result c.and.result _ _ _ c.and.ensures c.push_low_error.ensures c.push_high_error.ensures
          (λ one two. adds_both (AccessLow c.args.index c.args.place store) (AccessHigh c.args.array c.args.index c.args.place store) c.args.out.now.items c.push_low_error.new.out.items c.push_high_error.new.out.items one two);
    }
