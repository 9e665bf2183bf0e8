use Rattle.std.proofs.Common.{rules, refl, arith, length, ◌∙◌}
use Rattle.ix_core.specs.Code.{items_code}
use Rattle.ix_core.specs.Tables.{tables_of}
use Rattle.ix_machine_state.specs.View.{heap_of}
use Rattle.ix_machine_state.specs.Frames.{slots_of}
use Rattle.ix_machine_state.specs.Places.{outer}
use Rattle.ix_machine.proofs.Leading.{op_leads, free_behind}
use Rattle.ix_machine.proofs.straight.do_row.Goals as goal

pub loop-made-preserved : goal.loop-made-preserved
loop-made-preserved c =
    let inv = c.loop-made.invariant in
    let went = c.if-not-goes_on.ensures in
    record {
      steps = λ frames tasks below.
          op_leads c.args.heap.now.most c.loop-made.heap.most frames (tables_of c.args.rows.now.program.now) c.loop-made.made _ c.args.frame.now.method c.loop-made.frame.method
          (items_code c.loop-made.rest.now) _ _ tasks (slots_of c.loop-made.frame) (slots_of c.goes_on.new.frame) (heap_of c.loop-made.heap) (heap_of c.goes_on.new.heap) below
          c.loop-made.wrapped c.goes_on.new.wrapped inv.most inv.method c.in-Some.ensures (inv.steps frames tasks below) (went.step refl frames _ tasks below);
      made = search rules;
      free = free_behind (length (outer c.args.frame.now.stack.places.items)) c.args.frame.now.stack.room (items_code c.loop-made.rest.now) _ _ c.in-Some.ensures inv.free;
      method = went.method ∙ inv.method;
      stack = went.stack ∙ inv.stack;
      most = went.most ∙ inv.most;
    }

pub overflow_add-made : goal.overflow_add-made
overflow_add-made c = omega (arith, c.loop-made-test.true, c.ranges.most)
