use Rattle.std.proofs.Common.{◌∷◌, refl, sym, ◌∙◌}
use Rattle.ix_fact_table.proofs.WalksAlongBoth.{none_left, sharing_left, sharing_right, sharing_both, sharing_alone}
use Rattle.ix_fact_table.proofs.walks.add_shared.Goals as goal

pub loop-fact-preserved : goal.loop-fact-preserved
loop-fact-preserved c =
    λ first second rest now.
    sharing_left first second c.loop-fact.rest.now (c.args.other.now ∷ rest) c.in-Some.fact.now c.in-Some.more.now c.args.other.now rest c.in-Some.ensures.cases.0 refl c.loop-fact.shared.items (sym c.compare_facts.ensures ∙ c.in-Less.is) (c.loop-fact.invariant first second rest now)

pub returns-in-Greater : goal.returns-in-Greater
returns-in-Greater c = record {
  sharing = λ first second rest now.
      sharing_right first second c.loop-fact.rest.now (c.args.other.now ∷ rest) c.in-Some.fact.now c.in-Some.more.now c.args.other.now rest c.in-Some.ensures.cases.0 refl c.loop-fact.shared.items (sym c.compare_facts.ensures ∙ c.in-Greater.is) (c.loop-fact.invariant first second rest now);
}

pub returns-in-Equal : goal.returns-in-Equal
returns-in-Equal c = record {
  sharing = λ first second rest now.
      rw (c.in_ok-push_shared-in-Equal.ensures, c.common.ensures) (sharing_both first second c.loop-fact.rest.now (c.args.other.now ∷ rest) c.in-Some.fact.now c.in-Some.more.now c.args.other.now rest c.in-Some.ensures.cases.0 refl c.loop-fact.shared.items (sym c.compare_facts.ensures ∙ c.in-Equal.is) (c.loop-fact.invariant first second rest now));
}

pub returns : goal.returns
returns c = record {
  sharing = λ first second rest now.
      sharing_alone first second c.loop-fact.rest.now c.args.other.now rest c.loop-fact.shared.items (none_left c.loop-fact.rest.now c.in_default.ensures.cases) (c.loop-fact.invariant first second rest now);
}
