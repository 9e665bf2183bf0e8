use Rattle.std.proofs.Common.{rules, ◌++◌, ap, sym, ◌∙◌}
use Rattle.std.proofs.lemmas.List.{drop_all}
use Rattle.ix_guard.specs.Guards as spec
use Rattle.ix_guard.proofs.Inserted.{one_text}
use Rattle.ix_guard.proofs.guards.with_texts.Goals as goal

pub loop-insertion-preserved : goal.loop-insertion-preserved
loop-insertion-preserved c =
    one_text c.loop-insertion.rest.now _ _ c.loop-insertion.at c.saturating_sub.result c.args.insertions.now c.loop-insertion.insertion-index c.insertion-item.result _ _ _ _ (search rules) (search rules)
    c.saturating_sub.ensures c.cut.ensures.first c.cut.ensures.rest c.in_ok-extend_from_slice.ensures.items (search rules) c.loop-insertion.invariant

pub returns : goal.returns
returns c =
    c.in_ok-extend_from_slice-3.ensures.items
    ∙ (ap (λ left. c.loop-insertion.out.items ++ spec.with_texts c.loop-insertion.at c.loop-insertion.rest.now left) (sym (drop_all c.loop-insertion.insertion-index c.args.insertions.now c.loop-insertion-test.false)) ∙ c.loop-insertion.invariant)
