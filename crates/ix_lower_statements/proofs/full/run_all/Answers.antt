use Rattle.std.proofs.Common.{refl, rules}
use Rattle.ix_plain.specs.Statements.{ran, all_ran}
use Rattle.ix_lower_expressions.specs.Shown.{shown_site}
use Rattle.ix_lower_expressions.proofs.HandedOn.{same_error, not_made}
use Rattle.ix_lower_statements.proofs.OneByOne.{next, refused, none_left}
use Rattle.ix_lower_statements.proofs.full.run_all.Goals as goal

pub loop-expr-preserved : goal.loop-expr-preserved
loop-expr-preserved c =
    next (λ expr. ran (shown_site c.args.site.now) expr) (λ exprs. all_ran exprs (shown_site c.args.site.now)) (λ made. refl) (λ expr rest made. refl)
    c.args.exprs.now c.loop-expr.expr-index (all_ran c.args.exprs.now (shown_site c.args.site.now) c.args.body.now)
    c.expr-item.result c.loop-expr.body c.run.new.body c.loop-expr-test.true c.expr-item.is c.in_ok-run.ensures.body c.loop-expr.invariant

pub returns : goal.returns
returns c = record {
  limit = search rules;
  body = none_left (λ expr. ran (shown_site c.args.site.now) expr) (λ exprs. all_ran exprs (shown_site c.args.site.now)) (λ made. refl) (λ expr rest made. refl)
      c.args.exprs.now c.loop-expr.expr-index (all_ran c.args.exprs.now (shown_site c.args.site.now) c.args.body.now) c.loop-expr.body c.loop-expr-test.false c.loop-expr.invariant;
}

pub returns-in_err-run : goal.returns-in_err-run
returns-in_err-run c = record {
  limit = λ which is.
      refused (λ expr. ran (shown_site c.args.site.now) expr) (λ exprs. all_ran exprs (shown_site c.args.site.now)) (λ made. refl) (λ expr rest made. refl)
      c.args.exprs.now c.loop-expr.expr-index (all_ran c.args.exprs.now (shown_site c.args.site.now) c.args.body.now)
      c.expr-item.result c.loop-expr.body which c.loop-expr-test.true c.expr-item.is c.loop-expr.invariant (c.in_err-run.ensures.limit which (same_error c.from_residual.result c.from_residual.ensures.1 is));
  body = not_made c.from_residual.result _ c.from_residual.ensures.0;
}
