use Rattle.std.proofs.Common.{◌≡◌, ◌++◌, drop}
use Rattle.ix_facts.specs.Closure.{kept}
use Rattle.ix_facts.specs.Finish as rule
use Rattle.ix_facts.specs.Facts.{in_orders}
use Rattle.ix_facts.specs.Exact.{each_path}
use Rattle.ix_transfer.proofs.beside.push_beside_arrays.Given as goal

abbrev pub invariant-loop-a : goal.invariant-loop-a
invariant-loop-a g l = l.out.items ++ kept (each_path (rule.beside_array (in_orders (g.K.Know.known l.know)) l.new l.t) (drop l.a-index l.arrays)) ≡ l.fn.out.items ++ kept (each_path (rule.beside_array (in_orders (g.K.Know.known l.know)) l.new l.t) l.arrays)
