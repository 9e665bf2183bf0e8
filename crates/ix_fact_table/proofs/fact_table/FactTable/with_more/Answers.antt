use Rattle.std.specs.Prelude.{refl}
use Rattle.std.proofs.Common.{sym, ◌∙◌}
use Rattle.std.proofs.lemmas.Bool.{false≢true}
use Rattle.ix_facts.specs.Kinds.{of_kind}
use Rattle.ix_fact_table.specs.FactTables.{facts_of}
use Rattle.ix_fact_table.proofs.SaidAlready.{covers_new, already_table}
use Rattle.ix_fact_table.proofs.TableForms.{with_form, with_table}
use Rattle.ix_fact_table.proofs.fact_table.FactTable.with_more.Goals as goal

pub returns-then-covers_all-clause-none : goal.returns-then-covers_all-clause-none
returns-then-covers_all-clause-none c =
    let table = c.args.self.now in
    let covered = rw (c.as_slice.ensures, c.deref.ensures.value) at c.covers_all.ensures.covered in
    let says = covers_new table.kind (facts_of table) table.form (of_kind table.kind c.args.new.now) c.in_ok-more.more.items c.in_ok-more.ensures.form c.in_ok-more.ensures.table in
    (λ _. says.0 (covered.0 c.if-covers_all.true), λ _. refl)

pub returns-then-covers_all-clause-same : goal.returns-then-covers_all-clause-same
returns-then-covers_all-clause-same c =
    let table = c.args.self.now in
    let new = of_kind table.kind c.args.new.now in
    let covered = rw (c.as_slice.ensures, c.deref.ensures.value) at c.covers_all.ensures.covered in
    let says = covers_new table.kind (facts_of table) table.form new c.in_ok-more.more.items c.in_ok-more.ensures.form c.in_ok-more.ensures.table in
    already_table table.kind (facts_of table) table.form new (says.0 (covered.0 c.if-covers_all.true))

pub invariant_of-result : goal.invariant_of-result
invariant_of-result c =
    let table = c.args.self.now in
    let has = rw (c.as_slice-2.ensures, c.deref-2.ensures.value) at c.in_ok-facts.ensures.both in
    rw c.of.ensures (record { form = with_form table.kind (facts_of table) c.in_ok-more.more.items c.in_ok-facts.facts.items table.form c.in_ok-more.ensures.form has c.in_ok-facts.ensures.rises })

pub returns-clause-none : goal.returns-clause-none
returns-clause-none c =
    let table = c.args.self.now in
    let covered = rw (c.as_slice.ensures, c.deref.ensures.value) at c.covers_all.ensures.covered in
    let says = covers_new table.kind (facts_of table) table.form (of_kind table.kind c.args.new.now) c.in_ok-more.more.items c.in_ok-more.ensures.form c.in_ok-more.ensures.table in
    (λ t. absurd (false≢true (sym t)), λ all. absurd (false≢true (sym c.if-covers_all.false ∙ covered.1 (says.1 all))))

pub returns-clause-table : goal.returns-clause-table
returns-clause-table c =
    let table = c.args.self.now in
    let has = rw (c.as_slice-2.ensures, c.deref-2.ensures.value) at c.in_ok-facts.ensures.both in
    rw c.of.ensures (with_table table.kind (facts_of table) c.args.new.now c.in_ok-more.more.items c.in_ok-facts.facts.items table.form c.in_ok-more.ensures.form c.in_ok-more.ensures.table has c.in_ok-facts.ensures.rises)
