use Rattle.std.proofs.Common.{refl, rules}
use Rattle.ix_plain.specs.Statements.{declaration, declarations}
use Rattle.ix_lower_expressions.specs.Shown.{shown_site}
use Rattle.ix_lower_expressions.proofs.HandedOn.{same_error, not_made}
use Rattle.ix_lower_statements.proofs.OneByOne.{next, refused, none_left}
use Rattle.ix_lower_statements.proofs.declare.declarations.Goals as goal

pub loop-decl-preserved : goal.loop-decl-preserved
loop-decl-preserved c =
    next (λ decl. declaration decl (shown_site c.args.site.now) c.args.end) (λ decls. declarations decls (shown_site c.args.site.now) c.args.end) (λ made. refl) (λ decl rest made. refl)
    c.args.decls.now c.loop-decl.decl-index (declarations c.args.decls.now (shown_site c.args.site.now) c.args.end c.args.body.now)
    c.decl-item.result c.loop-decl.body c.declaration.new.body c.loop-decl-test.true c.decl-item.is c.in_ok-declaration.ensures.body c.loop-decl.invariant

pub returns : goal.returns
returns c = record {
  limit = search rules;
  body = none_left (λ decl. declaration decl (shown_site c.args.site.now) c.args.end) (λ decls. declarations decls (shown_site c.args.site.now) c.args.end) (λ made. refl) (λ decl rest made. refl)
      c.args.decls.now c.loop-decl.decl-index (declarations c.args.decls.now (shown_site c.args.site.now) c.args.end c.args.body.now) c.loop-decl.body c.loop-decl-test.false c.loop-decl.invariant;
}

pub returns-in_err-declaration : goal.returns-in_err-declaration
returns-in_err-declaration c = record {
  limit = λ which is.
      refused (λ decl. declaration decl (shown_site c.args.site.now) c.args.end) (λ decls. declarations decls (shown_site c.args.site.now) c.args.end) (λ made. refl) (λ decl rest made. refl)
      c.args.decls.now c.loop-decl.decl-index (declarations c.args.decls.now (shown_site c.args.site.now) c.args.end c.args.body.now)
      c.decl-item.result c.loop-decl.body which c.loop-decl-test.true c.decl-item.is c.loop-decl.invariant (c.in_err-declaration.ensures.limit which (same_error c.from_residual.result c.from_residual.ensures.1 is));
  body = not_made c.from_residual.result _ c.from_residual.ensures.0;
}
