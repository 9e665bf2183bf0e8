use Rattle.std.proofs.Common.{◌≡◌, ◌++◌, drop}
use Rattle.ix_facts.specs.Exact.{each_path}
use Rattle.ix_core.specs.declared.fact.Fact.TheVariants.{Same}
use Rattle.ix_fact_table.specs.Saturated.{of_class}
use Rattle.ix_fact_table.proofs.labels.push_pairs.Given as goal

abbrev pub invariant-loop-a : goal.invariant-loop-a
invariant-loop-a l = l.out.items ++ each_path (λ a. of_class l.classes l.arrays (Same a) a) (drop l.a-index l.firsts) ≡ l.fn.out.items ++ each_path (λ a. of_class l.classes l.arrays (Same a) a) l.firsts
