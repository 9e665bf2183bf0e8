use Rattle.std.proofs.Common.{◌++◌, ap, sym, ◌∙◌, subst}
use Rattle.ix_text.proofs.Chained.{both_ok, ok_then}
use Rattle.ix_facts.specs.declared.kind.Kind.TheVariants as kind
use Rattle.ix_facts.specs.Kinds.{of_kind}
use Rattle.ix_facts.specs.Systems.{HaveClasses}
use Rattle.ix_fact_table.specs.Saturated.{IsSaturated}
use Rattle.ix_fact_table.proofs.BesideClosed.{beside_saturated, beside_classes, beside_made, beside_no_range}
use Rattle.ix_fact_table.proofs.beside.more_beside.Goals as goal

pub returns-clause-saturated : goal.returns-clause-saturated
returns-clause-saturated c =
    let new = c.args.new.now in
    let ranges = c.args.ranges.now in
    let searches = c.args.searches.now in
    ok_then c.and.result c.push_new_classes.new.out c.and-2.result _ _ c.and-2.ensures
    (both_ok c.push_negatives.result c.push_new_classes.result c.and.result _ _ _ c.and.ensures c.push_negatives.ensures c.push_new_classes.ensures
    (λ one two. beside_made new ranges searches c.in_ok-more.more.items c.push_negatives.new.out.items c.push_new_classes.new.out.items c.in_ok-more.ensures.items one two))
    (λ made known are. subst (λ more. IsSaturated (known ++ new) (known ++ (new ++ more))) (sym made) (beside_saturated known new ranges searches are))

pub returns-clause-classes : goal.returns-clause-classes
returns-clause-classes c =
    let new = c.args.new.now in
    let ranges = c.args.ranges.now in
    let searches = c.args.searches.now in
    ok_then c.and.result c.push_new_classes.new.out c.and-2.result _ _ c.and-2.ensures
    (both_ok c.push_negatives.result c.push_new_classes.result c.and.result _ _ _ c.and.ensures c.push_negatives.ensures c.push_new_classes.ensures
    (λ one two. beside_made new ranges searches c.in_ok-more.more.items c.push_negatives.new.out.items c.push_new_classes.new.out.items c.in_ok-more.ensures.items one two))
    (λ made. subst HaveClasses (sym made) (beside_classes new ranges searches))

pub returns-clause-ranges : goal.returns-clause-ranges
returns-clause-ranges c =
    let new = c.args.new.now in
    let ranges = c.args.ranges.now in
    let searches = c.args.searches.now in
    ok_then c.and.result c.push_new_classes.new.out c.and-2.result _ _ c.and-2.ensures
    (both_ok c.push_negatives.result c.push_new_classes.result c.and.result _ _ _ c.and.ensures c.push_negatives.ensures c.push_new_classes.ensures
    (λ one two. beside_made new ranges searches c.in_ok-more.more.items c.push_negatives.new.out.items c.push_new_classes.new.out.items c.in_ok-more.ensures.items one two))
    (λ made. ap (of_kind kind.Range) made ∙ beside_no_range new ranges searches)
