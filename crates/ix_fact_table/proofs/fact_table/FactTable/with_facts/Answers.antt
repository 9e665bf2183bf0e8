use Rattle.ix_fact_table.specs.FactTables.{facts_of}
use Rattle.ix_fact_table.proofs.TableForms.{with_form, with_table}
use Rattle.ix_fact_table.proofs.fact_table.FactTable.with_facts.Goals as goal

pub invariant_of-result : goal.invariant_of-result
invariant_of-result c =
    let table = c.args.self.now in
    let has = rw (c.as_slice.ensures, c.deref.ensures.value) at c.in_ok-facts.ensures.both in
    rw c.of.ensures (record { form = with_form table.kind (facts_of table) c.in_ok-more.more.items c.in_ok-facts.facts.items table.form c.in_ok-more.ensures.form has c.in_ok-facts.ensures.rises })

pub returns-clause-table : goal.returns-clause-table
returns-clause-table c =
    let table = c.args.self.now in
    let has = rw (c.as_slice.ensures, c.deref.ensures.value) at c.in_ok-facts.ensures.both in
    rw c.of.ensures (with_table table.kind (facts_of table) c.args.new.now c.in_ok-more.more.items c.in_ok-facts.facts.items table.form c.in_ok-more.ensures.form c.in_ok-more.ensures.table has c.in_ok-facts.ensures.rises)
