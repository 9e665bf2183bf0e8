use Rattle.std.proofs.Common.{◌≡◌, drop}
use Rattle.ix_meaning.specs.Members.{nearest}
use Rattle.ix_meaning.specs.Scope as scope
use Rattle.ix_class_members.specs.World.{shown}
use Rattle.ix_expression_types.proofs.naming.nearest_field.Given as goal

abbrev pub invariant-loop-declaring : goal.invariant-loop-declaring
invariant-loop-declaring l =
    nearest (λ a. scope.instance_field_in l.class ((shown l.world).field a l.name)) (drop l.declaring-index l.classes)
    ≡ nearest (λ a. scope.instance_field_in l.class ((shown l.world).field a l.name)) l.classes
