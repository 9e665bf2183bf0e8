use Rattle.std.proofs.Common.{◌≡◌, take, List}
use Rattle.ix_core.specs.declared.fact.Path.{Path}
use Rattle.ix_core.specs.declared.fact.Fact.{Fact}
use Rattle.ix_core.specs.declared.fact.Fact.TheVariants.{Same}
use Rattle.ix_facts.specs.Facts.{IsIn}
use Rattle.ix_facts.specs.Closure.{Follows}
use Rattle.ix_fact_table.specs.Classes.{root_of, AreRoots, AreSound, Coarser}
use Rattle.ix_fact_table.proofs.classes.by_same.Given as goal

abbrev pub invariant-loop-link : goal.invariant-loop-link
invariant-loop-link l = record {
  roots_are : AreRoots l.roots.items;
  coarser : Coarser l.initial.roots.items l.roots.items;
  sound : (facts : List Fact) → ((f : Fact) → IsIn f l.links → Follows facts f) → AreSound facts l.initial.roots.items → AreSound facts l.roots.items;
  same : (a b : Path) → IsIn (Same a b) (take l.link-index l.links) → root_of l.roots.items a ≡ root_of l.roots.items b;
}
