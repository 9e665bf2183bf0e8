use Rattle.ix_fact_table.specs.FactTables.{facts_of}
use Rattle.ix_fact_table.proofs.TableForms.{covered_says}
use Rattle.ix_fact_table.proofs.fact_table.FactTable.says_all.Goals as goal

pub returns : goal.returns
returns c =
    let mine = c.args.self.now in
    let theirs = c.args.other.now in
    let here = rw (c.as_slice.ensures, c.as_slice-2.ensures) at c.covers_all.ensures.covered in
    let says = covered_says mine.kind theirs.kind (facts_of mine) (facts_of theirs) mine.form theirs.form in
    record { below = (λ t. says.0 (here.0 t), λ s. here.1 (says.1 s)) }
