use Rattle.std.proofs.Common.{◌≡◌, drop, []}
use Rattle.ix_plain.specs.Members as spec
use Rattle.ix_class_members.specs.World.{shown as shown_world}
use Rattle.ix_lower.proofs.member.classes.Given as goal

abbrev pub invariant-loop-decl : goal.invariant-loop-decl
invariant-loop-decl l = spec.classes_from [] l.fn.first (shown_world l.world).parent l.decls ≡ spec.classes_from l.classes l.next (shown_world l.world).parent (drop l.decl-index l.decls)
