use Rattle.std.proofs.Common.{◌≡◌, drop}
use Rattle.ix_outside.specs.Outside.{held}
use Rattle.ix_outside.proofs.memory_source.place_of.Given as goal

abbrev pub invariant-loop-i : goal.invariant-loop-i
invariant-loop-i l = held l.files l.name ≡ held (drop l.i l.files) l.name
