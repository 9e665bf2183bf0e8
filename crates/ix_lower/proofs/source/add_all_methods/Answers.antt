use Rattle.std.proofs.Common.{◌+◌, ◌∙◌, Ok, Err, ap, drop, sym}
use Rattle.ix_plain.specs.Program.{methods_from}
use Rattle.ix_lower.specs.Homes.{shown_tables, shown_home}
use Rattle.ix_lower_expressions.proofs.HandedOn.{same_error, not_made}
use Rattle.ix_lower.proofs.OneByOne.{class_written}
use Rattle.ix_lower.proofs.source.add_all_methods.Goals as goal

pub loop-decl-preserved : goal.loop-decl-preserved
loop-decl-preserved c =
    class_written (shown_tables c.args.tables.now) c.args.decls.now c.loop-decl.decl-index c.decl-item.result c.loop-decl.next (shown_home c.home-home.result) c.loop-decl.methods (Ok c.add_methods.new.methods)
    (methods_from (shown_tables c.args.tables.now) c.args.first c.args.decls.now c.args.methods.now) c.loop-decl-test.true c.decl-item.is c.home-home.ensures c.in_ok-add_methods.ensures.methods c.loop-decl.invariant
    ∙ ap (λ next. methods_from (shown_tables c.args.tables.now) next (drop (c.loop-decl.decl-index + 1) c.args.decls.now) c.add_methods.new.methods) (sym c.next_behind-next.ensures)

pub returns-in_err-add_methods : goal.returns-in_err-add_methods
returns-in_err-add_methods c = record {
  limit = λ which place is.
      class_written (shown_tables c.args.tables.now) c.args.decls.now c.loop-decl.decl-index c.decl-item.result c.loop-decl.next (shown_home c.home-home.result) c.loop-decl.methods (Err (record { which = which; place = place }))
      (methods_from (shown_tables c.args.tables.now) c.args.first c.args.decls.now c.args.methods.now) c.loop-decl-test.true c.decl-item.is c.home-home.ensures (c.in_err-add_methods.ensures.limit which place (same_error c.from_residual.result c.from_residual.ensures.1 is)) c.loop-decl.invariant;
  methods = not_made c.from_residual.result _ c.from_residual.ensures.0;
}
