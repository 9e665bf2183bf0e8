use Rattle.std.proofs.Common.{◌≡◌, ◌++◌, ◌∷◌, drop}
use Rattle.ix_meaning.specs.Classes as spec
use Rattle.ix_symbols.proofs.classes.supers.Given as goal

abbrev pub invariant-loop-turn : goal.invariant-loop-turn
invariant-loop-turn l = l.supers ++ spec.unseen (l.class ∷ l.supers) (spec.way_up l.parents (drop l.turn-index l.parents) l.here) ≡ spec.supers l.parents l.class
