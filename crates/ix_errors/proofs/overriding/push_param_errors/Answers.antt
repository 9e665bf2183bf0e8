use Rattle.ix_store.specs.StoredFacts.{stored}
use Rattle.ix_errors.specs.Refusals.{param_refusals}
use Rattle.ix_signatures.specs.SignErrors.{OverrideParameter}
use Rattle.ix_errors.proofs.OverridesRefused.{params_are}
use Rattle.ix_errors.proofs.Refused.{ok_adds}
use Rattle.ix_errors.proofs.overriding.push_param_errors.Goals as goal

pub returns : goal.returns
returns c =
    let method = c.args.method.now in
    let upper = c.args.upper.now in
    let s = stored c.in_ok-store.store in
    record {
      errors = ok_adds (OverrideParameter method upper c.args.own) c.args.out.now.items c.push_params_of.new.out.items (param_refusals s method c.args.own 0 method.params) c.push_params_of.result c.push_params_of.ensures
          (params_are method upper c.args.own s c.in_ok-store.ensures);
    }
