use Rattle.ix_store.specs.StoredFacts.{stored}
use Rattle.ix_sign.specs.RuleErrors.{LengthNegative, FreshElement}
use Rattle.ix_errors.proofs.Refused.{adds_both}
use Rattle.ix_text.proofs.Chained.{both_ok}
use Rattle.ix_errors.proofs.accesses.push_new_array_errors.Goals as goal

pub returns : goal.returns
returns c =
    let store = stored c.args.store.now in
    record {
      errors = both_ok c.push_length_error.result c.push_fresh_errors.result c.and.result _ _ _ c.and.ensures c.push_length_error.ensures c.push_fresh_errors.ensures
          (λ one two. adds_both (LengthNegative c.args.size c.args.place store) (FreshElement c.args.ty.now c.args.size c.args.place store) c.args.out.now.items c.push_length_error.new.out.items c.push_fresh_errors.new.out.items one two);
    }
