use Rattle.std.proofs.Common.{◌-◌, ◌++◌, arith, sym, subst, ◌≡◌}
use Rattle.ix_core.specs.Tables.{class_at, ancestors, way_up}
use Rattle.ix_core.proofs.Ways.{up_next}
use Rattle.ix_core.proofs.classes.way_up.Goals as goal

pub loop-left-preserved : goal.loop-left-preserved
loop-left-preserved c =
    subst (λ at. c.push.new.self.items ++ way_up (λ below. (class_at c.args.program.now below).parent) (c.loop-left.left - 1) at ≡ ancestors c.args.program.now c.args.class) (sym c.parent_of-above.ensures)
    (up_next (λ below. (class_at c.args.program.now below).parent) c.loop-left.left c.loop-left.above c.in-Some.number c.loop-left.classes.items c.push.new.self.items _ c.in-Some.is (omega arith) c.in_ok-push.ensures.items c.loop-left.invariant)
