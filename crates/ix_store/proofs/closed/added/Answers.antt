use Rattle.std.proofs.Common.{◌≡◌, ◌++◌, sym, subst, ap, ◌∙◌}
use Rattle.std.proofs.lemmas.List.{append_assoc}
use Rattle.ix_text.proofs.Chained.{ok_then, where_ok}
use Rattle.ix_facts.specs.Systems.{HaveClasses}
use Rattle.ix_fact_table.specs.FactTables.{facts_of}
use Rattle.ix_fact_table.specs.Saturated.{IsSaturated}
use Rattle.ix_facts.proofs.ClassesStay.{app_have}
use Rattle.ix_store.proofs.SmallNumbers.{all_classes}
use Rattle.ix_store.proofs.closed.added.Goals as goal

pub more_that_follows-requires : goal.more_that_follows-requires
more_that_follows-requires c =
    let known = facts_of c.args.table.now in
    record { classes = subst HaveClasses (sym (c.deref-2.ensures.value ∙ (c.in_ok-facts.ensures ∙ ap (λ l. known ++ l) c.deref.ensures.value))) (app_have known c.args.new.items (all_classes c.args.table.now) c.requires.classes) }

pub returns-clause-saturated : goal.returns-clause-saturated
returns-clause-saturated c =
    let known = facts_of c.args.table.now in
    let new = c.args.new.items in
    let more = c.in_ok-more.more.items in
    let facts : c.deref-2.result.now ≡ known ++ new = c.deref-2.ensures.value ∙ (c.in_ok-facts.ensures ∙ ap (λ l. known ++ l) c.deref.ensures.value) in
    ok_then c.extend_from_slice.result c.extend_from_slice.new.self c.and.result _ _ c.and.ensures (where_ok c.extend_from_slice.result _ _ _ c.extend_from_slice.ensures.items)
    (λ is.
    subst (IsSaturated (known ++ new)) (append_assoc known new more ∙ ap (λ l. known ++ l) (sym (is ∙ ap (λ l. new ++ l) c.deref-3.ensures.value))) (subst (λ l. IsSaturated l (l ++ more)) facts c.in_ok-more.ensures.saturated))

pub returns-clause-classes : goal.returns-clause-classes
returns-clause-classes c =
    let new = c.args.new.items in
    ok_then c.extend_from_slice.result c.extend_from_slice.new.self c.and.result _ _ c.and.ensures (where_ok c.extend_from_slice.result _ _ _ c.extend_from_slice.ensures.items)
    (λ is. subst HaveClasses (sym (is ∙ ap (λ l. new ++ l) c.deref-3.ensures.value)) (app_have new c.in_ok-more.more.items c.requires.classes c.in_ok-more.ensures.classes))
