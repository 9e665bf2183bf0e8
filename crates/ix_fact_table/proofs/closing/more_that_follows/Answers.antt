use Rattle.std.proofs.Common.{sym, subst}
use Rattle.std.proofs.lemmas.Result.{IfOk-weaker}
use Rattle.ix_facts.specs.declared.kind.Kind.TheVariants as kind
use Rattle.ix_facts.specs.Kinds.{of_kind}
use Rattle.ix_facts.specs.Systems.{HaveClasses, IsTable}
use Rattle.ix_fact_table.specs.Saturated.{IsSaturated, AreListed}
use Rattle.ix_fact_table.proofs.Only.{is_saturated}
use Rattle.ix_fact_table.proofs.OverBoth.{classes_behind}
use Rattle.ix_fact_table.proofs.ClassesOfInts.{have_classes}
use Rattle.ix_fact_table.proofs.closing.more_that_follows.Goals as goal

pub returns-clause-saturated : goal.returns-clause-saturated
returns-clause-saturated c =
    let facts = c.args.facts.now in
    let roots = c.in_ok-classes.classes in
    let arrays = c.deref.result.now in
    let ranges = c.as_slice.result.now in
    let lists : AreListed facts arrays = subst (AreListed facts) (sym c.deref.ensures.value) c.in_ok-arrays.ensures in
    let table : IsTable (of_kind kind.Range facts) ranges = subst (IsTable (of_kind kind.Range facts)) (sym c.as_slice.ensures.facts) c.in_ok-ranges.ensures.table in
    IfOk-weaker c.all_more.result _ _ (λ more is. subst (IsSaturated facts) (sym is) (is_saturated facts roots arrays ranges c.in_ok-classes.ensures.classes lists table)) c.all_more.ensures

pub returns-clause-classes : goal.returns-clause-classes
returns-clause-classes c =
    let facts = c.args.facts.now in
    let all = have_classes facts c.in_ok-classes.classes c.deref.result.now c.as_slice.result.now c.requires.classes in
    IfOk-weaker c.all_more.result _ _ (λ more is. classes_behind facts more.items (subst HaveClasses (sym is) all)) c.all_more.ensures
