use Rattle.std.proofs.Common.{arith, length, ap, sym, ◌∙◌}
use Rattle.ix_core.specs.Machine.{lacks_cells, with_limits}
use Rattle.ix_core.specs.Tables.{tables_of}
use Rattle.ix_machine.specs.Kinds.{kind_of}
use Rattle.ix_machine.proofs.CallStops.{heap_full, frame_full}
use Rattle.ix_machine.proofs.call.method_of.Goals as goal

pub returns-then-lacks_cells-clause-stopped : goal.returns-then-lacks_cells-clause-stopped
returns-then-lacks_cells-clause-stopped c = λ left state heap below.
    heap_full c.args.heap.now.most c.args.pool.now.most (tables_of c.args.rows.now.program.now) (kind_of c.args.call.kind) c.args.call.op.now c.args.place left state _ c.in-Some.method c.in-Some.ensures
    (ap (lacks_cells (with_limits c.args.heap.now.most c.args.pool.now.most) (tables_of c.args.rows.now.program.now) (kind_of c.args.call.kind)) heap
    ∙ (sym (c.lacks_cells.ensures c.args.pool.now.most) ∙ c.if-lacks_cells.true))

pub returns-then-is_full-clause-stopped : goal.returns-then-is_full-clause-stopped
returns-then-is_full-clause-stopped c = λ left state heap below.
    frame_full c.args.heap.now.most c.args.pool.now.most (tables_of c.args.rows.now.program.now) (kind_of c.args.call.kind) c.args.call.op.now c.args.place left state _ c.in-Some.method c.in-Some.ensures
    (ap (lacks_cells (with_limits c.args.heap.now.most c.args.pool.now.most) (tables_of c.args.rows.now.program.now) (kind_of c.args.call.kind)) heap
    ∙ (sym (c.lacks_cells.ensures c.args.pool.now.most) ∙ c.if-lacks_cells.false))
    (omega (arith, c.is_full.ensures.0 c.if-is_full.true, ap length below))
