use Rattle.std.proofs.Common.{◌≡◌, ◌++◌, drop}
use Rattle.ix_signatures.specs.Signs.{zero_fields}
use Rattle.ix_signatures.proofs.facts.push_zero_fields.Given as goal

abbrev pub invariant-loop-field : goal.invariant-loop-field
invariant-loop-field l = l.out.items ++ zero_fields l.program (drop l.field-index l.fields) ≡ l.fn.out.items ++ zero_fields l.program l.fields
