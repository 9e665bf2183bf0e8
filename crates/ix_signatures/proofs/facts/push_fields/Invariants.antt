use Rattle.std.proofs.Common.{◌≡◌, ◌++◌, drop}
use Rattle.ix_signatures.specs.Signs.{fields_facts}
use Rattle.ix_signatures.proofs.facts.push_fields.Given as goal

abbrev pub invariant-loop-field : goal.invariant-loop-field
invariant-loop-field l = l.out.items ++ fields_facts l.program (drop l.field-index l.fields) ≡ l.fn.out.items ++ fields_facts l.program l.fields
