use Rattle.std.proofs.Common.{◌≡◌, drop}
use Rattle.ix_meaning.specs.Classes as spec
use Rattle.ix_symbols.proofs.classes.is_cyclic.Given as goal

abbrev pub invariant-loop-turn : goal.invariant-loop-turn
invariant-loop-turn l = spec.is_among l.class (spec.way_up l.parents (drop l.turn-index l.parents) l.here) ≡ spec.is_cyclic l.parents l.class
