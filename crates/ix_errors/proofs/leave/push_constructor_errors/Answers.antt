use Rattle.std.proofs.Common.{◌≡◌, ◌++◌, subst, ◌∙◌}
use Rattle.std.specs.Prelude.{OnOk}
use Rattle.ix_core.specs.Tables.{all_fields}
use Rattle.ix_store.specs.StoredFacts.{stored}
use Rattle.ix_errors.specs.Refusals.{field_refusals}
use Rattle.ix_signatures.specs.SignErrors.{ConstructorClaim}
use Rattle.ix_errors.proofs.Refused.{ok_adds, constructors_are}
use Rattle.ix_errors.proofs.leave.push_constructor_errors.Goals as goal

pub returns : goal.returns
returns c =
    let program = c.args.program.now in
    let method = c.args.method.now in
    let store = stored c.args.store.now in
    let fields = all_fields program method.class in
    let old = c.args.out.now.items in
    let new = c.push_fields_of_this.new.out.items in
    record {
      errors = ok_adds (ConstructorClaim program method store) old new (field_refusals program store method.span fields) c.push_fields_of_this.result
          (subst (λ l. OnOk c.push_fields_of_this.result (new ≡ old ++ field_refusals program store method.span l)) (c.deref.ensures.value ∙ c.in_ok-fields.ensures) c.push_fields_of_this.ensures)
          (constructors_are program method store c.if-not-method.false);
    }
