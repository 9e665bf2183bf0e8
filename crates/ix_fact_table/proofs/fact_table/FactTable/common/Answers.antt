use Rattle.ix_fact_table.specs.FactTables.{facts_of}
use Rattle.ix_fact_table.proofs.TableForms.{shared_form, shared_common}
use Rattle.ix_fact_table.proofs.fact_table.FactTable.common.Goals as goal

pub invariant_of-result : goal.invariant_of-result
invariant_of-result c =
    let mine = c.args.self.now in
    let theirs = c.args.other.now in
    let has = rw (c.as_slice.ensures, c.as_slice-2.ensures) at c.in_ok-facts.ensures.shared in
    rw c.of.ensures (record { form = shared_form mine.kind theirs.kind (facts_of mine) (facts_of theirs) c.in_ok-facts.facts.items mine.form theirs.form has c.in_ok-facts.ensures.rises })

pub returns-clause-common : goal.returns-clause-common
returns-clause-common c =
    let mine = c.args.self.now in
    let theirs = c.args.other.now in
    let has = rw (c.as_slice.ensures, c.as_slice-2.ensures) at c.in_ok-facts.ensures.shared in
    rw c.of.ensures (shared_common mine.kind theirs.kind (facts_of mine) (facts_of theirs) c.in_ok-facts.facts.items mine.form theirs.form has)
