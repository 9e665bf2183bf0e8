use Rattle.ix_store.specs.StoredFacts.{stored}
use Rattle.ix_errors.proofs.Refused.{ok_adds}
use Rattle.ix_errors.specs.Lists.{element_refusals}
use Rattle.ix_sign.specs.RuleErrors.{ElementClaim}
use Rattle.ix_errors.proofs.Listed.{elements_are}
use Rattle.ix_errors.proofs.accesses.push_element_errors.Goals as goal

pub returns : goal.returns
returns c =
    let store = stored c.args.store.now in
    let ty = c.args.ty.now in
    record {
      errors = ok_adds (ElementClaim ty c.args.value c.args.place store) c.args.out.now.items c.push_of_element.new.out.items (element_refusals store ty c.args.value c.args.place)
          c.push_of_element.result c.push_of_element.ensures (elements_are store ty c.args.value c.args.place);
    }
