use Rattle.std.proofs.Common.{◌≡◌, length}
use Rattle.ix_class_members.specs.World as spec
use Rattle.ix_class_members.proofs.world.class_worlds.Given as goal

abbrev pub invariant-loop-c : goal.invariant-loop-c
invariant-loop-c l = record {
  each : spec.AreClasses l.parents l.fields l.methods l.decls 0 l.worlds;
  all : length l.worlds ≡ l.c;
}
