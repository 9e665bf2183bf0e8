use Rattle.ix_systems.proofs.KnownClasses.{next_known, next_small}
use Rattle.ix_systems.proofs.known.all_known.Goals as goal

pub loop-k-preserved : goal.loop-k-preserved
loop-k-preserved g c = record {
  facts = next_known c.loop-k.facts.items c.push.new.self.items (g.K.Know.known c.args.know.now) c.loop-k.k c.fact.result c.fact.ensures.fact c.in_ok-push.ensures.items c.loop-k.invariant.facts;
  small = next_small c.loop-k.facts.items c.push.new.self.items c.fact.result c.fact.ensures.small c.in_ok-push.ensures.items c.loop-k.invariant.small;
}
