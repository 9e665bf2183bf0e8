use Rattle.std.proofs.Common.{refl}
use Rattle.ix_core.specs.declared.fact.Path.TheVariants.{Slot}
use Rattle.ix_text.proofs.Walked.{next_or, none_left}
use Rattle.ix_fact_table.specs.Listed.{over_class}
use Rattle.ix_fact_table.proofs.labels.push_over_class.Goals as goal

pub loop-label-preserved : goal.loop-label-preserved
loop-label-preserved c =
    next_or (λ _. over_class c.args.root.now c.args.fact.now) c.args.labels.now c.loop-label.label-index (Slot 0, Slot 0) _ _ _ _ c.loop-label-test.true (λ rest. refl) c.in_ok-push_said.ensures c.loop-label.invariant

pub returns : goal.returns
returns c = none_left (λ _. over_class c.args.root.now c.args.fact.now) c.args.labels.now c.loop-label.label-index _ _ c.loop-label-test.false refl c.loop-label.invariant
