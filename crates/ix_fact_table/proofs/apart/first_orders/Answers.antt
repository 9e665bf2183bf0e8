use Rattle.std.specs.Prelude.{pos}
use Rattle.std.proofs.Common.{[], ◌∷◌, ◌++◌, map, refl, arith, ap, ◌∙◌}
use Rattle.ix_text.proofs.Walked.{next_or, none_left}
use Rattle.ix_core.specs.declared.fact.Path.TheVariants.{Slot}
use Rattle.ix_core.specs.declared.fact.Fact.TheVariants.{Rng}
use Rattle.ix_fact_table.specs.Entries.{in_first_order}
use Rattle.ix_fact_table.proofs.apart.first_orders.Goals as goal

pub loop-fact-preserved : goal.loop-fact-preserved
loop-fact-preserved c = record {
  keys = next_or (λ _. map in_first_order) c.args.facts.now c.loop-fact.fact-index (Rng (Slot 0) (pos 0) (pos 0)) _ _ _ _ c.loop-fact-test.true (λ rest. refl)
      (c.push_reserved.ensures.items ∙ ap (λ fact. c.loop-fact.keys.items ++ fact ∷ []) c.in_first_order.ensures) c.loop-fact.invariant.keys;
  short = omega (arith, c.push_reserved.ensures.len, c.loop-fact.invariant.short);
  room = omega (arith, c.push_reserved.ensures.capacity, c.loop-fact.invariant.room);
}

pub returns : goal.returns
returns c = none_left (λ _. map in_first_order) c.args.facts.now c.loop-fact.fact-index _ _ c.loop-fact-test.false refl c.loop-fact.invariant.keys
