use Rattle.std.proofs.Common.{sym, ap, length, ◌∙◌}
use Rattle.ix_core.specs.Code.{items_code}
use Rattle.ix_core.specs.Machine.{Go, with_limits}
use Rattle.ix_core.specs.Tables.{tables_of}
use Rattle.ix_machine_state.specs.View.{heap_of}
use Rattle.ix_machine_state.specs.Frames.{slots_of}
use Rattle.ix_machine_state.specs.Places.{outer, tasks_open}
use Rattle.ix_machine.proofs.Items.{free_for, free_for_at, if_code, loop_code, loop_free, ran_if, ran_loop}
use Rattle.ix_machine.proofs.task.run_item.Goals as goal

pub choose-requires : goal.choose-requires
choose-requires c = free_for_at (free_for c.requires.free (if_code (items_code c.args.items.now) c.args.item.now _ _ _ (items_code c.args.rest.now) c.requires.first c.in-If.is)) c.close.ensures.room (ap length c.close.ensures.items)

pub begin_loop-requires : goal.begin_loop-requires
begin_loop-requires c = free_for_at (loop_free (free_for c.requires.free (loop_code (items_code c.args.items.now) c.args.item.now _ _ _ _ _ _ (items_code c.args.rest.now) c.requires.first c.in-Loop.is))) c.close-in-Loop.ensures.room (ap length c.close-in-Loop.ensures.items)

pub returns-in-If-clause-moved : goal.returns-in-If-clause-moved
returns-in-If-clause-moved c = λ frames.
    ran_if (with_limits c.args.heap.now.most frames) (tables_of c.args.rows.now.program.now) (slots_of c.args.frame.now) (heap_of c.args.heap.now) (items_code c.args.items.now) _ _ _ (items_code c.args.rest.now) (tasks_open (outer c.args.frame.now.stack.places.items)) _
    (if_code (items_code c.args.items.now) c.args.item.now _ _ _ (items_code c.args.rest.now) c.requires.first c.in-If.is) (rw c.close.ensures.items at c.choose.ensures.tasks)
    ∙ ap (λ slots. Go (tasks_open c.choose.new.frame.stack.places.items) slots (heap_of c.args.heap.now)) (sym c.choose.ensures.slots)

pub returns-in-Loop-clause-moved : goal.returns-in-Loop-clause-moved
returns-in-Loop-clause-moved c = λ frames.
    ran_loop (with_limits c.args.heap.now.most frames) (tables_of c.args.rows.now.program.now) (slots_of c.args.frame.now) (heap_of c.args.heap.now) (items_code c.args.items.now) _ _ _ _ _ _ (items_code c.args.rest.now) (tasks_open (outer c.args.frame.now.stack.places.items)) _
    (loop_code (items_code c.args.items.now) c.args.item.now _ _ _ _ _ _ (items_code c.args.rest.now) c.requires.first c.in-Loop.is) (rw c.close-in-Loop.ensures.items at c.begin_loop.ensures.tasks)
    ∙ ap (λ slots. Go (tasks_open c.begin_loop.new.frame.stack.places.items) slots (heap_of c.args.heap.now)) (sym c.begin_loop.ensures.slots)

pub returns-in-If-clause-back : goal.returns-in-If-clause-back
returns-in-If-clause-back c = λ is. absurd is

pub returns-in-If-clause-values : goal.returns-in-If-clause-values
returns-in-If-clause-values c = λ is. absurd is

pub returns-in-Loop-clause-back : goal.returns-in-Loop-clause-back
returns-in-Loop-clause-back c = λ is. absurd is

pub returns-in-Loop-clause-values : goal.returns-in-Loop-clause-values
returns-in-Loop-clause-values c = λ is. absurd is

pub returns-in-Break-clause-back : goal.returns-in-Break-clause-back
returns-in-Break-clause-back c = λ is. absurd is

pub returns-in-Break-clause-values : goal.returns-in-Break-clause-values
returns-in-Break-clause-values c = λ is. absurd is

pub returns-in-Continue-clause-back : goal.returns-in-Continue-clause-back
returns-in-Continue-clause-back c = λ is. absurd is

pub returns-in-Continue-clause-values : goal.returns-in-Continue-clause-values
returns-in-Continue-clause-values c = λ is. absurd is
