use Rattle.std.proofs.Common.{◌∙◌}
use Rattle.ix_guard.proofs.Branches.{around_parts}
use Rattle.ix_guard.proofs.Inside.{joined}
use Rattle.ix_text.proofs.Chained.{both_ok}
use Rattle.ix_guard.proofs.statement.add_around.Goals as goal

pub returns : goal.returns
returns c =
    both_ok c.insert_opening.result c.insert_closing.result c.and.result _ _ _ c.and.ensures c.insert_opening.ensures c.insert_closing.ensures
    (λ one two. joined _ _ _ _ _ _ one two (around_parts c.args.span _ _ _ (c.deref.ensures ∙ c.in_ok-tests.ensures) (c.deref-2.ensures ∙ c.in_ok-tests.ensures)))
