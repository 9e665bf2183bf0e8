use Rattle.std.proofs.Common.{◌≡◌, drop}
use Rattle.ix_meaning.specs.Classes as spec
use Rattle.ix_symbols.proofs.classes.is_among.Given as goal

abbrev pub invariant-loop-other : goal.invariant-loop-other
invariant-loop-other l = spec.is_among l.class (drop l.other-index l.classes) ≡ spec.is_among l.class l.classes
