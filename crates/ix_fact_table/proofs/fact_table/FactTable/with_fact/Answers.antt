use Rattle.std.proofs.Common.{subst}
use Rattle.std.specs.Result.{IfOk}
use Rattle.ix_facts.specs.Systems.{IsTable}
use Rattle.ix_fact_table.specs.FactTables.{facts_of, table_kind}
use Rattle.ix_fact_table.proofs.TableForms.{added_is}
use Rattle.ix_fact_table.proofs.fact_table.FactTable.with_fact.Goals as goal

pub returns-clause-table : goal.returns-clause-table
returns-clause-table c =
    let table = c.args.self.now in
    subst (λ l. IfOk c.with_facts.result (λ more. IsTable l (facts_of more))) (added_is (table_kind table) (facts_of table) c.args.fact.now c.int_of-number.ensures.int) c.with_facts.ensures.table
