use Rattle.std.proofs.Common.{◌≡◌, drop}
use Rattle.ix_plain.specs.Program as spec
use Rattle.ix_class_members.specs.World.{shown as shown_world}
use Rattle.ix_meaning.specs.Inheritance.{if_instance}
use Rattle.ix_meaning.specs.Members.{nearest}
use Rattle.ix_lower.proofs.method.nearest_instance.Given as goal

abbrev pub invariant-loop-class : goal.invariant-loop-class
invariant-loop-class l = spec.number_of (nearest (λ class. if_instance ((shown_world l.world).method class l.name)) l.classes) ≡ spec.number_of (nearest (λ class. if_instance ((shown_world l.world).method class l.name)) (drop l.class-index l.classes))
