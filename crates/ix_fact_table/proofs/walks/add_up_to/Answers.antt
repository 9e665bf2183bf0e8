use Rattle.std.proofs.Common.{arith, ◌∷◌, refl, sym, ◌∙◌}
use Rattle.ix_fact_table.proofs.WalksAlongBoth.{none_left, merging_left, merging_right, merging_both, merging_alone}
use Rattle.ix_fact_table.proofs.walks.add_up_to.Goals as goal

pub loop-fact-preserved : goal.loop-fact-preserved
loop-fact-preserved c = record {
  merging = λ first second rest now.
      rw c.push_reserved.ensures.items (merging_left first second c.loop-fact.rest.now (c.args.other.now ∷ rest) c.in-Some.fact.now c.in-Some.more.now c.args.other.now rest c.in-Some.ensures.cases.0 refl c.loop-fact.all.items (sym c.compare_facts.ensures ∙ c.in-Less.is) (c.loop-fact.invariant.merging first second rest now));
  len = omega (arith, c.loop-fact.invariant.len, c.in-Some.ensures.cases.1, c.push_reserved.ensures.len);
  capacity = c.push_reserved.ensures.capacity ∙ c.loop-fact.invariant.capacity;
}

pub returns-in-Greater-clause-merging : goal.returns-in-Greater-clause-merging
returns-in-Greater-clause-merging c =
    λ first second rest now.
    rw c.push_reserved-in-Greater.ensures.items (merging_right first second c.loop-fact.rest.now (c.args.other.now ∷ rest) c.in-Some.fact.now c.in-Some.more.now c.args.other.now rest c.in-Some.ensures.cases.0 refl c.loop-fact.all.items (sym c.compare_facts.ensures ∙ c.in-Greater.is) (c.loop-fact.invariant.merging first second rest now))

pub returns-in-Equal-clause-merging : goal.returns-in-Equal-clause-merging
returns-in-Equal-clause-merging c =
    λ first second rest now.
    rw (c.push_reserved-in-Equal.ensures.items, c.met.ensures) (merging_both first second c.loop-fact.rest.now (c.args.other.now ∷ rest) c.in-Some.fact.now c.in-Some.more.now c.args.other.now rest c.in-Some.ensures.cases.0 refl c.loop-fact.all.items (sym c.compare_facts.ensures ∙ c.in-Equal.is) (c.loop-fact.invariant.merging first second rest now))

pub returns-clause-merging : goal.returns-clause-merging
returns-clause-merging c =
    λ first second rest now.
    rw c.push_reserved-2.ensures.items (merging_alone first second c.loop-fact.rest.now c.args.other.now rest c.loop-fact.all.items (none_left c.loop-fact.rest.now c.in_default.ensures.cases) (c.loop-fact.invariant.merging first second rest now))
