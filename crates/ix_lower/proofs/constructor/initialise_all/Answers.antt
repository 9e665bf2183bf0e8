use Rattle.std.proofs.Common.{Err, rules}
use Rattle.ix_plain.specs.Program.{fields_initialised}
use Rattle.ix_lower_expressions.specs.Shown.{shown_site}
use Rattle.ix_lower_expressions.proofs.HandedOn.{same_error, not_made}
use Rattle.ix_lower.proofs.OneByOne.{field_initialised, fields_done}
use Rattle.ix_lower.proofs.constructor.initialise_all.Goals as goal

pub returns-in_err-initialise_member : goal.returns-in_err-initialise_member
returns-in_err-initialise_member c = record {
  limit = λ which is.
      field_initialised c.args.members.now c.loop-member.member-index c.member-item.result c.loop-member-test.true c.member-item.is (shown_site c.args.site.now) c.loop-member.field c.in-Field.decl c.loop-member.body
      (Err which) (fields_initialised (shown_site c.args.site.now) c.args.first c.args.members.now c.args.body.now) c.in-Field.is (c.in_err-initialise_member.ensures.limit which (same_error c.from_residual.result c.from_residual.ensures.1 is)) c.loop-member.invariant;
  body = not_made c.from_residual.result _ c.from_residual.ensures.0;
}

pub returns : goal.returns
returns c = record {
  limit = search rules;
  body =
      fields_done c.args.members.now c.loop-member.member-index (shown_site c.args.site.now) c.loop-member.field c.loop-member.body (fields_initialised (shown_site c.args.site.now) c.args.first c.args.members.now c.args.body.now)
      c.loop-member-test.false c.loop-member.invariant;
}
