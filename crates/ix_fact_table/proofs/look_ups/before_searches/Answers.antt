use Rattle.std.proofs.Common.{rules, sym, ap, subst, ◌++◌, ◌∙◌, drop}
use Rattle.std.proofs.lemmas.Fn.{always_returns_same}
use Rattle.ix_facts.specs.Facts.{IsIn}
use Rattle.ix_fact_table.specs.FactOrder.{comes_before}
use Rattle.ix_fact_table.proofs.KeySearches.{front_is, whole_is}
use Rattle.ix_fact_table.proofs.look_ups.before_searches.Goals as goal

pub returns-clause-whole : goal.returns-clause-whole
returns-clause-whole c = whole_is c.args.facts.now c.partition_point-start.result ∙ (ap (λ l. l ++ drop c.partition_point-start.result c.args.facts.now) (sym c.split_at.ensures.front) ∙ ap (λ l. c.split_at.result.0.now ++ l) (sym c.split_at.ensures.back))

pub returns-clause-front : goal.returns-clause-front
returns-clause-front c fact i =
    front_is 4 c.args.facts.now c.partition_point-start.result c.requires.rises c.partition_point-start.ensures.bound
    (c.partition_point-start.ensures.partitioned (comes_before 4) (always_returns_same _ _ _ (λ a r next called. search rules))) fact (subst (IsIn fact) c.split_at.ensures.front i)
