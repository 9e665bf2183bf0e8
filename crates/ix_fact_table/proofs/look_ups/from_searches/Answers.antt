use Rattle.std.proofs.Common.{rules, sym, subst}
use Rattle.std.proofs.lemmas.Fn.{always_returns_same}
use Rattle.ix_core.specs.declared.fact.Fact.TheVariants.{Search}
use Rattle.ix_facts.specs.Facts.{IsIn}
use Rattle.ix_fact_table.specs.FactOrder.{comes_before}
use Rattle.ix_fact_table.proofs.MergedTables.{in_drop}
use Rattle.ix_fact_table.proofs.KeySearches.{searches_are}
use Rattle.ix_fact_table.proofs.look_ups.from_searches.Goals as goal

pub returns-clause-all : goal.returns-clause-all
returns-clause-all c p a i =
    subst (IsIn (Search p a)) (sym c.split_at.ensures.back)
    (searches_are c.args.facts.now c.partition_point-start.result c.requires.rises c.partition_point-start.ensures.bound
    (c.partition_point-start.ensures.partitioned (comes_before 4) (always_returns_same _ _ _ (λ a r next called. search rules))) p a i)

pub returns-clause-only : goal.returns-clause-only
returns-clause-only c fact i = in_drop c.partition_point-start.result c.args.facts.now fact (subst (IsIn fact) c.split_at.ensures.back i)
