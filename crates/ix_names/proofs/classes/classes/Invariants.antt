use Rattle.std.proofs.Common.{◌≡◌, ◌++◌, ◌+◌, ◌≤◌, drop}
use Rattle.ix_meaning.specs.Source as spec
use Rattle.ix_class_members.specs.World.{shown}
use Rattle.ix_names.proofs.classes.classes.Given as goal

abbrev pub invariant-loop-i : goal.invariant-loop-i
invariant-loop-i l = record {
  few : l.next + spec.members_in (drop l.i l.classes) ≤ spec.members_in l.classes;
  notes :
      l.notes ++ spec.notes_from (shown l.world) l.parents l.world.methods l.i l.next (drop l.i l.classes)
      ≡ l.fn.notes ++ spec.notes_from (shown l.world) l.parents l.world.methods 0 0 l.classes;
}
