use Rattle.std.proofs.Common.{rules, sym, ap, subst, ◌≡◌, ◌++◌, ◌∙◌, true, drop}
use Rattle.std.proofs.lemmas.Fn.{always_returns_same}
use Rattle.ix_facts.specs.Facts.{IsIn}
use Rattle.ix_fact_table.specs.FactOrder.{comes_before}
use Rattle.ix_fact_table.specs.Rising.{rises}
use Rattle.ix_fact_table.proofs.KeySearches.{back_is, whole_is, rest_rises}
use Rattle.ix_fact_table.proofs.look_ups.before_differences.Goals as goal

pub returns-clause-whole : goal.returns-clause-whole
returns-clause-whole c = whole_is c.args.facts.now c.partition_point-start.result ∙ (ap (λ l. l ++ drop c.partition_point-start.result c.args.facts.now) (sym c.split_at.ensures.front) ∙ ap (λ l. c.split_at.result.0.now ++ l) (sym c.split_at.ensures.back))

pub returns-clause-behind : goal.returns-clause-behind
returns-clause-behind c fact i =
    back_is 3 c.args.facts.now c.partition_point-start.result c.requires.rises c.partition_point-start.ensures.bound
    (c.partition_point-start.ensures.partitioned (comes_before 3) (always_returns_same _ _ _ (λ a r next called. search rules))) fact (subst (IsIn fact) c.split_at.ensures.back i)

pub returns-clause-rises : goal.returns-clause-rises
returns-clause-rises c = subst (λ l. rises l ≡ true) (sym c.split_at.ensures.back) (rest_rises c.args.facts.now c.partition_point-start.result c.requires.rises)
