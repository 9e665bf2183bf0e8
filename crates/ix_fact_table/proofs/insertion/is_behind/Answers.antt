use Rattle.std.proofs.Common.{sym, ◌∙◌}
use Rattle.ix_fact_table.proofs.KeySearches.{behind_last, behind_none}
use Rattle.ix_fact_table.proofs.insertion.is_behind.Goals as goal

pub returns-in-Some : goal.returns-in-Some
returns-in-Some c = record { behind = λ t. behind_last c.args.facts.now c.args.fact.now c.in-Some.last.now c.requires.rises (sym c.in-Some.ensures.value) (sym c.is_before.ensures ∙ t) }

pub returns-in-None : goal.returns-in-None
returns-in-None c = record { behind = λ t. behind_none c.args.facts.now c.args.fact.now (sym c.in-None.ensures.value) }
