use Rattle.std.proofs.Common.{◌≡◌, drop}
use Rattle.ix_meaning.specs.Members.{nearest}
use Rattle.ix_class_members.specs.World.{shown}
use Rattle.ix_class_members.specs.Overriding as parts
use Rattle.ix_class_members.proofs.overriding.nearest_instance.Given as goal

abbrev pub invariant-loop-class : goal.invariant-loop-class
invariant-loop-class l = nearest (parts.instances_named (shown l.world) l.name) (drop l.class-index l.classes) ≡ nearest (parts.instances_named (shown l.world) l.name) l.classes
