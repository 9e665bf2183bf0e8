use Rattle.std.proofs.Common.{refl}
use Rattle.ix_store.specs.StoredFacts.{stored}
use Rattle.ix_errors.specs.Refusals.{field_refusals}
use Rattle.ix_text.proofs.Walked.{next_or, none_left}
use Rattle.ix_errors.proofs.leave.push_fields_of_this.Goals as goal

pub loop-field-preserved : goal.loop-field-preserved
loop-field-preserved c =
    next_or (λ number rest. field_refusals c.args.program.now (stored c.args.store.now) c.args.span rest) c.args.fields.now c.loop-field.field-index 0 _ _ _ _
    c.loop-field-test.true (λ rest. refl) c.in_ok-push_field_of_this.ensures c.loop-field.invariant

pub returns : goal.returns
returns c =
    none_left (λ number rest. field_refusals c.args.program.now (stored c.args.store.now) c.args.span rest) c.args.fields.now c.loop-field.field-index _ _
    c.loop-field-test.false refl c.loop-field.invariant
