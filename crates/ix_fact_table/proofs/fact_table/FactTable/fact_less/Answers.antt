use Rattle.std.proofs.Common.{sym, ◌∙◌}
use Rattle.ix_fact_table.specs.FactTables.{facts_of, table_kind}
use Rattle.ix_fact_table.specs.RisingLaws.{table_rises}
use Rattle.ix_fact_table.proofs.LessFacts.{less_found, no_less}
use Rattle.ix_fact_table.proofs.fact_table.FactTable.fact_less.Goals as goal

pub returns-in-Some-clause-bound : goal.returns-in-Some-clause-bound
returns-in-Some-clause-bound c =
    let table = c.args.self.now in
    let found = c.in-Some.ensures.found in
    c.less_constant.ensures.constant ∙ less_found c.args.p.now c.args.q.now (facts_of table) (table_rises (table_kind table) (facts_of table) table.form) c.in-Some.fact found.0 found.1

pub returns-in-None-clause-bound : goal.returns-in-None-clause-bound
returns-in-None-clause-bound c = sym (no_less c.args.p.now c.args.q.now (facts_of c.args.self.now) c.in-None.ensures.none)
