use Rattle.std.proofs.Common.{◌≡◌, drop}
use Rattle.ix_class_members.specs.World as spec
use Rattle.ix_meaning.specs.Members as members
use Rattle.ix_class_members.proofs.world.World.nearest_field.Given as goal

abbrev pub invariant-loop-class : goal.invariant-loop-class
invariant-loop-class l =
    members.nearest (λ a. (spec.shown l.self).field a l.name) (drop l.class-index l.classes) ≡ members.nearest (λ a. (spec.shown l.self).field a l.name) l.classes
