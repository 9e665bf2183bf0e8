use Rattle.ix_machine.proofs.FieldRows.{rows_next}
use Rattle.ix_machine.proofs.rows.Rows.new.Goals as goal

pub loop-class-preserved : goal.loop-class-preserved
loop-class-preserved c = rows_next c.args.program.now c.loop-class.fields.items c.push.new.self.items _ c.loop-class.class c.in_ok-push.ensures.items c.in_ok-instance_fields.ensures c.loop-class.invariant
