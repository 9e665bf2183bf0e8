use Rattle.std.proofs.Common.{arith}
use Rattle.ix_report.specs.Reports.{start}
use Rattle.ix_report.proofs.EarlierStarts.{earlier_moved}
use Rattle.ix_report.proofs.once.moved.Goals as goal

pub returns-then-was-from : goal.returns-then-was-from
returns-then-was-from c = record {
  earlier = earlier_moved start c.args.told.now c.args.was.earlier c.args.was.last c.args.from c.requires c.if-was-from.true;
  within = omega arith;
}
