use Rattle.std.proofs.Common.{◌≡◌, ◌++◌, drop}
use Rattle.ix_facts.specs.Closure.{kept}
use Rattle.ix_transfer.specs.OverNamed as over
use Rattle.ix_facts.specs.Exact.{each}
use Rattle.ix_transfer.proofs.along.push_along.Given as goal

abbrev pub invariant-loop-fact : goal.invariant-loop-fact
invariant-loop-fact g l = l.out.items ++ kept (each (over.along_by (g.K.Indexed.on_path l.know) l.t) (drop l.fact-index l.new)) ≡ l.fn.out.items ++ kept (each (over.along_by (g.K.Indexed.on_path l.know) l.t) l.new)
