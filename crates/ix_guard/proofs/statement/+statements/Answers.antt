use Rattle.std.proofs.Common.{rules, refl, true, ◌∙◌}
use Rattle.ix_guard.specs.Guards as spec
use Rattle.ix_guard.specs.Shown.{site_of}
use Rattle.ix_guard.proofs.Inside.{joined}
use Rattle.ix_text.proofs.Chained.{both_ok}
use Rattle.ix_guard.proofs.Branches.{if_parts}
use Rattle.ix_guard.proofs.Sums.{one_more, none_left}
use Rattle.ix_guard.proofs.statement.+statements.Goals as goal

pub add_listed-loop-stmt-preserved : goal.add_listed-loop-stmt-preserved
add_listed-loop-stmt-preserved t c =
    let site = site_of c.args.site.now in
    one_more (spec.listed site) (λ s. spec.inserting site s true) (λ _ _. refl) c.args.statements.now c.loop-stmt.stmt-index c.stmt-item.result _ _ _ (search rules) (search rules) c.in_ok-add_statement.ensures c.loop-stmt.invariant

pub add_listed-returns : goal.add_listed-returns
add_listed-returns t c = none_left (spec.listed (site_of c.args.site.now)) refl c.args.statements.now c.loop-stmt.stmt-index _ _ (search rules) c.loop-stmt.invariant

pub add_statement-returns-in_ok-tests-in-If : goal.add_statement-returns-in_ok-tests-in-If
add_statement-returns-in_ok-tests-in-If t c =
    both_ok c.add_first.result c.add_second.result c.and.result _ _ _ c.and.ensures c.add_first.ensures c.add_second.ensures
    (λ one two. joined _ _ _ _ _ _ one two
    (if_parts (site_of c.args.site.now) c.args.stmt.now c.args.listed c.in-If.condition c.in-If.first _ c.in-If.second _ _ c.in-If.is (c.deref.ensures ∙ c.in_ok-tests-in-If.ensures) (c.deref-in-If.ensures ∙ c.in_ok-tests-in-If.ensures) c.get.ensures))
