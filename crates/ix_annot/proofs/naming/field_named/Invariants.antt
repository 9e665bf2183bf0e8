use Rattle.std.proofs.Common.{◌≡◌, drop}
use Rattle.ix_annot.specs.Named as spec
use Rattle.ix_annot.proofs.naming.field_named.Given as goal

abbrev pub invariant-loop-field : goal.invariant-loop-field
invariant-loop-field l = spec.field_named (drop l.field-index l.fields) l.name ≡ spec.field_named l.fields l.name
