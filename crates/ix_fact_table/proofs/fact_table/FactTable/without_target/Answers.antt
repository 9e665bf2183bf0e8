use Rattle.ix_facts.specs.After.{of_target}
use Rattle.ix_fact_table.specs.FactTables.{facts_of}
use Rattle.ix_fact_table.proofs.TableForms.{without_form, without_table}
use Rattle.ix_fact_table.proofs.fact_table.FactTable.without_target.Goals as goal

pub invariant_of-result : goal.invariant_of-result
invariant_of-result c =
    let table = c.args.self.now in
    rw (c.of.ensures, c.in_ok-facts.ensures.facts, c.as_slice.ensures) (record { form = without_form table.kind (of_target c.args.kind.now) (facts_of table) table.form })

pub returns-clause-table : goal.returns-clause-table
returns-clause-table c =
    let table = c.args.self.now in
    rw (c.of.ensures, c.in_ok-facts.ensures.facts, c.as_slice.ensures) (without_table table.kind (of_target c.args.kind.now) (facts_of table) table.form)
