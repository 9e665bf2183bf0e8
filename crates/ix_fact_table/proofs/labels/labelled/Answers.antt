use Rattle.std.proofs.Common.{[], ◌∷◌, ◌++◌, get_or, refl, arith, ap, ◌∙◌}
use Rattle.ix_core.specs.declared.fact.Path.TheVariants.{Slot}
use Rattle.ix_text.proofs.Walked.{next_or, none_left}
use Rattle.ix_fact_table.specs.Listed.{labels_of}
use Rattle.ix_fact_table.proofs.labels.labelled.Goals as goal

pub loop-a-preserved : goal.loop-a-preserved
loop-a-preserved c =
    let a = get_or c.args.arrays.now c.loop-a.a-index (Slot 0) in
    record {
      labels = next_or (λ _. labels_of c.args.classes.now) c.args.arrays.now c.loop-a.a-index (Slot 0) _ _ _ _ c.loop-a-test.true (λ rest. refl)
          (c.push_reserved.ensures.items ∙ ap (λ root. c.loop-a.labels.items ++ (a, root) ∷ []) c.root.ensures) c.loop-a.invariant.labels;
      short = omega (arith, c.push_reserved.ensures.len, c.loop-a.invariant.short);
      room = omega (arith, c.push_reserved.ensures.capacity, c.loop-a.invariant.room);
    }

pub returns : goal.returns
returns c = none_left (λ _. labels_of c.args.classes.now) c.args.arrays.now c.loop-a.a-index _ _ c.loop-a-test.false refl c.loop-a.invariant.labels
