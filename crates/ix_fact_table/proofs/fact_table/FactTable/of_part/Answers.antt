use Rattle.ix_fact_table.specs.FactTables.{facts_of}
use Rattle.ix_fact_table.proofs.TableForms.{without_form}
use Rattle.ix_fact_table.proofs.fact_table.FactTable.of_part.Goals as goal

pub invariant_of-result : goal.invariant_of-result
invariant_of-result c =
    let table = c.args.self.now in
    let part = c.requires.part in
    rw (c.of.ensures, part.1) (record { form = without_form table.kind part.0 (facts_of table) table.form })
