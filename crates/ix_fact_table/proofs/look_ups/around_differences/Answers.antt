use Rattle.std.proofs.Common.{sym, ap, subst, ◌++◌, ◌∙◌}
use Rattle.ix_facts.specs.Facts.{IsIn}
use Rattle.ix_facts.proofs.FactLists.{in_left}
use Rattle.ix_fact_table.proofs.KeySearches.{difference_is}
use Rattle.ix_fact_table.proofs.look_ups.around_differences.Goals as goal

pub returns-clause-whole : goal.returns-clause-whole
returns-clause-whole c = c.before_differences.ensures.whole ∙ ap (λ l. c.before_differences.result.0.now ++ l) c.before_searches.ensures.whole

pub returns-clause-differences : goal.returns-clause-differences
returns-clause-differences c fact i = difference_is fact (c.before_differences.ensures.behind fact (subst (IsIn fact) (sym c.before_searches.ensures.whole) (in_left fact _ _ i))) (c.before_searches.ensures.front fact i)

pub returns-clause-behind : goal.returns-clause-behind
returns-clause-behind c fact i = c.before_differences.ensures.behind fact (subst (IsIn fact) (sym c.before_searches.ensures.whole) i)
