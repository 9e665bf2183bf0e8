use Rattle.std.proofs.Common.{refl}
use Rattle.ix_text.proofs.Walked.{next_or, none_left}
use Rattle.ix_signatures.specs.Signs.{fields_facts}
use Rattle.ix_signatures.proofs.facts.push_fields.Goals as goal

pub loop-field-preserved : goal.loop-field-preserved
loop-field-preserved c =
    next_or (λ _. fields_facts c.args.program.now) c.args.fields.now c.loop-field.field-index 0 _ _ _ _ c.loop-field-test.true (λ rest. refl) c.in_ok-push_field.ensures c.loop-field.invariant

pub returns : goal.returns
returns c = none_left (λ _. fields_facts c.args.program.now) c.args.fields.now c.loop-field.field-index _ _ c.loop-field-test.false refl c.loop-field.invariant
