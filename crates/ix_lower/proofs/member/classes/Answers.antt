use Rattle.std.proofs.Common.{◌∙◌, [], ap}
use Rattle.ix_plain.specs.Members.{class_of, classes_from}
use Rattle.ix_class_members.specs.World.{shown as shown_world}
use Rattle.ix_lower.proofs.OneByOne.{class_added}
use Rattle.ix_lower.proofs.member.classes.Goals as goal

pub loop-decl-preserved : goal.loop-decl-preserved
loop-decl-preserved c =
    class_added c.args.decls.now c.loop-decl.decl-index c.decl-item.result c.loop-decl-test.true c.decl-item.is (shown_world c.args.world.now).parent c.loop-decl.classes c.push.new.self c.loop-decl.next c.next_behind-next.result
    c.in_ok-class_of.field-0 (classes_from [] c.args.first (shown_world c.args.world.now).parent c.args.decls.now) (c.in_ok-class_of.ensures ∙ ap (λ parent. class_of c.loop-decl.next parent c.decl-item.result) c.parent.ensures)
    c.in_ok-push.ensures.added c.next_behind-next.ensures c.loop-decl.invariant
