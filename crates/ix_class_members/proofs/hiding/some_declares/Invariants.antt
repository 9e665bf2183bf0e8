use Rattle.std.proofs.Common.{◌≡◌, drop, is_some}
use Rattle.ix_meaning.specs.Members.{nearest}
use Rattle.ix_class_members.specs.World.{shown}
use Rattle.ix_class_members.proofs.hiding.some_declares.Given as goal

abbrev pub invariant-loop-class : goal.invariant-loop-class
invariant-loop-class l = is_some (nearest (λ class. (shown l.world).field class l.name) (drop l.class-index l.classes)) ≡ is_some (nearest (λ class. (shown l.world).field class l.name) l.classes)
