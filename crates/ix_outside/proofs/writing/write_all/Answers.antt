use Rattle.std.proofs.Common.{rules}
use Rattle.ix_outside.proofs.PrefixesTaken.{took-rest}
use Rattle.ix_outside.proofs.writing.write_all.Goals as goal

pub loop-at-preserved : goal.loop-at-preserved
loop-at-preserved g c = record {
  within = search rules;
  taken = took-rest _ _ _ c.loop-at.at c.in_ok-n.n c.args.text.now c.loop-at.invariant.taken c.in_ok-n.ensures.taken;
  refused = search rules;
  faults = search rules;
}
