use Rattle.std.proofs.Common.{◌≡◌, ◌++◌, drop}
use Rattle.ix_facts.specs.Closure.{kept}
use Rattle.ix_facts.specs.AfterOperation as after
use Rattle.ix_facts.specs.Facts.{in_orders}
use Rattle.ix_facts.specs.Exact.{each_path}
use Rattle.ix_transfer_rules.proofs.lengths.push_flip_arrays.Given as goal

abbrev pub invariant-loop-a : goal.invariant-loop-a
invariant-loop-a g l = l.out.items ++ kept (each_path (after.flip_array (in_orders (g.K.Know.known l.know)) l.t l.y) (drop l.a-index l.arrays)) ≡ l.fn.out.items ++ kept (each_path (after.flip_array (in_orders (g.K.Know.known l.know)) l.t l.y) l.arrays)
