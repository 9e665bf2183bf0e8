use Rattle.std.proofs.Common.{◌≡◌, ◌++◌, drop}
use Rattle.ix_store.specs.StoredFacts.{stored}
use Rattle.ix_errors.specs.Refusals.{field_refusals}
use Rattle.ix_errors.proofs.leave.push_fields_of_this.Given as goal

abbrev pub invariant-loop-field : goal.invariant-loop-field
invariant-loop-field l =
    l.out.items ++ field_refusals l.program (stored l.store) l.span (drop l.field-index l.fields) ≡ l.fn.out.items ++ field_refusals l.program (stored l.store) l.span l.fields
