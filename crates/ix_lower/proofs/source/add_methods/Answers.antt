use Rattle.std.proofs.Common.{Err, rules}
use Rattle.ix_plain.specs.Program.{methods_in}
use Rattle.ix_lower.specs.Homes.{shown_tables, shown_home}
use Rattle.ix_lower_expressions.proofs.HandedOn.{same_error, not_made}
use Rattle.ix_lower.proofs.OneByOne.{method_placed, methods_done}
use Rattle.ix_lower.proofs.source.add_methods.Goals as goal

pub returns-in_err-method : goal.returns-in_err-method
returns-in_err-method c = record {
  limit = λ which place is.
      method_placed c.args.home.now.members.now c.loop-member.member-index c.member-item.result c.loop-member-test.true c.member-item.is (shown_tables c.args.tables.now) (shown_home c.args.home.now) c.in-Method.decl c.loop-member.methods
      (Err (record { which = which; place = place })) (methods_in (shown_tables c.args.tables.now) (shown_home c.args.home.now) c.args.home.now.members.now c.args.methods.now) c.in-Method.is (c.in_err-method.ensures.limit which place (same_error c.from_residual.result c.from_residual.ensures.1 is)) c.loop-member.invariant;
  methods = not_made c.from_residual.result _ c.from_residual.ensures.0;
}

pub returns : goal.returns
returns c = record {
  limit = search rules;
  methods = methods_done c.args.home.now.members.now c.loop-member.member-index (shown_tables c.args.tables.now) (shown_home c.args.home.now) c.loop-member.methods (methods_in (shown_tables c.args.tables.now) (shown_home c.args.home.now) c.args.home.now.members.now c.args.methods.now) c.loop-member-test.false c.loop-member.invariant;
}
