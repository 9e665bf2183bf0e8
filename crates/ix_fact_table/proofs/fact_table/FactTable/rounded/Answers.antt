use Rattle.std.proofs.Common.{subst}
use Rattle.ix_facts.specs.Systems.{IsTable}
use Rattle.ix_fact_table.specs.FactTables.{facts_of}
use Rattle.ix_fact_table.proofs.TableForms.{rounded_classes, rounded_own}
use Rattle.ix_fact_table.proofs.fact_table.FactTable.rounded.Goals as goal

pub sorted-requires : goal.sorted-requires
sorted-requires c =
    let table = c.args.self.now in
    rw (c.deref.ensures.value, c.in_ok-moved.ensures.facts, c.as_slice.ensures, c.as_slice-2.ensures) (record { classes = rounded_classes table.kind c.args.marks.now.ints (facts_of table) table.form })

pub returns-clause-table : goal.returns-clause-table
returns-clause-table c =
    let table = c.args.self.now in
    let here = rw (c.deref.ensures.value, c.in_ok-moved.ensures.facts, c.as_slice.ensures, c.as_slice-2.ensures) at c.in_ok-facts.ensures.table in
    rw c.of.ensures (subst (λ l. IsTable l c.in_ok-facts.facts.items) (rounded_own table.kind c.args.marks.now.ints (facts_of table) table.form) here)
