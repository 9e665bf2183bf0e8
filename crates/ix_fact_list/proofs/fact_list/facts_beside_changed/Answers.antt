use Rattle.std.proofs.Common.{◌≤◌, length, refl, subst}
use Rattle.ix_text.proofs.Walked.{none_left}
use Rattle.ix_facts.specs.Forget.{without}
use Rattle.ix_facts.specs.After.{of_target}
use Rattle.ix_fact_list.proofs.KnownFacts.{next_without, next_small}
use Rattle.ix_fact_list.proofs.fact_list.facts_beside_changed.Goals as goal

pub loop-k-preserved : goal.loop-k-preserved
loop-k-preserved g c =
    let known = g.K.Know.known c.args.know.now in
    let is = of_target c.args.kind.now in
    record {
      facts = next_without is c.loop-k.facts.items c.push_beside_changed.new.facts.items (without is known) known c.loop-k.k c.fact.result c.fact.ensures.fact c.in_ok-push_beside_changed.ensures c.loop-k.invariant.facts;
      small = next_small is c.loop-k.facts.items c.push_beside_changed.new.facts.items c.fact.result c.fact.ensures.small c.in_ok-push_beside_changed.ensures c.loop-k.invariant.small;
    }

pub returns : goal.returns
returns g c =
    let known = g.K.Know.known c.args.know.now in
    let past : length known ≤ c.loop-k.k = subst (λ n. n ≤ c.loop-k.k) c.facts-k-end.ensures.count c.loop-k-test.false in
    record {
      facts = none_left (λ _. without (of_target c.args.kind.now)) known c.loop-k.k c.loop-k.facts.items _ past refl c.loop-k.invariant.facts;
      small = c.loop-k.invariant.small;
    }
