use Rattle.std.proofs.Common.{sym, subst}
use Rattle.ix_core.specs.declared.fact.Fact.TheVariants.{Search}
use Rattle.ix_facts.specs.Facts.{IsIn}
use Rattle.ix_fact_table.proofs.fact_table.FactTable.searches.Goals as goal

pub returns-clause-all : goal.returns-clause-all
returns-clause-all c p a i = c.from_searches.ensures.all p a (subst (IsIn (Search p a)) (sym c.as_slice.ensures) i)

pub returns-clause-only : goal.returns-clause-only
returns-clause-only c fact i = subst (IsIn fact) c.as_slice.ensures (c.from_searches.ensures.only fact i)
