use Rattle.std.proofs.Common.{arith}
use Rattle.ix_facts.specs.Finish as rule
use Rattle.ix_facts.specs.Facts.{in_orders}
use Rattle.ix_intervals.specs.KeptLaws.{all_paths, next_path}
use Rattle.ix_transfer.proofs.beside.push_beside_lengths.Goals as goal

pub loop-r-preserved : goal.loop-r-preserved
loop-r-preserved g c =
    next_path (rule.beside_length (in_orders (g.K.Know.known c.args.know.now)) c.args.new.now c.args.t.now) c.args.ints.now c.loop-r.r-index _ (omega (arith, c.loop-r-test.true)) c.loop-r.out.items c.push_beside_length.new.out.items _ c.in_ok-push_beside_length.ensures c.loop-r.invariant

pub returns : goal.returns
returns g c = all_paths (rule.beside_length (in_orders (g.K.Know.known c.args.know.now)) c.args.new.now c.args.t.now) c.args.ints.now c.loop-r.r-index (omega (arith, c.loop-r-test.false)) c.loop-r.out.items _ c.loop-r.invariant
