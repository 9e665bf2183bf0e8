use Rattle.std.proofs.Common.{◌≡◌, drop}
use Rattle.ix_class_members.specs.Overriding as parts
use Rattle.ix_class_members.proofs.overriding.some_clashes.Given as goal

abbrev pub invariant-loop-other : goal.invariant-loop-other
invariant-loop-other l = parts.some_clashes (drop l.other-index l.all) l.m l.classes ≡ parts.some_clashes l.all l.m l.classes
