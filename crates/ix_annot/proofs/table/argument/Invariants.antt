use Rattle.std.proofs.Common.{◌≡◌, drop}
use Rattle.ix_annot.specs.Table as spec
use Rattle.ix_annot.proofs.table.argument.Given as goal

abbrev pub invariant-loop-arg : goal.invariant-loop-arg
invariant-loop-arg l = spec.argument l.name (drop l.arg-index l.args) ≡ spec.argument l.name l.args
