use Rattle.std.proofs.Common.{refl, ap, sym, ◌∙◌, length, map}
use Rattle.ix_core.specs.Machine.{operate, allocate, with_limits}
use Rattle.ix_core.specs.Heap.{value_at}
use Rattle.ix_core.specs.Tables.{tables_of}
use Rattle.ix_machine_state.specs.View.{heap_of}
use Rattle.ix_machine_state.specs.Frames.{slots_of}
use Rattle.ix_machine.proofs.operations.operate.Goals as goal

pub returns-in-Num-clause-done : goal.returns-in-Num-clause-done
returns-in-Num-clause-done c = λ frames. ap (operate (with_limits c.args.heap.now.most frames) (tables_of c.args.rows.now.program.now) c.args.op.now.span.from (slots_of c.args.frame.now) (heap_of c.args.heap.now)) c.in-Num.is ∙ c.num.ensures.done (with_limits c.args.heap.now.most frames) (tables_of c.args.rows.now.program.now) (heap_of c.args.heap.now)

pub returns-in-Unary-clause-done : goal.returns-in-Unary-clause-done
returns-in-Unary-clause-done c = λ frames. ap (operate (with_limits c.args.heap.now.most frames) (tables_of c.args.rows.now.program.now) c.args.op.now.span.from (slots_of c.args.frame.now) (heap_of c.args.heap.now)) c.in-Unary.is ∙ c.unary.ensures.done (with_limits c.args.heap.now.most frames) (tables_of c.args.rows.now.program.now) c.args.op.now.span.from (heap_of c.args.heap.now)

pub returns-in-Length-clause-done : goal.returns-in-Length-clause-done
returns-in-Length-clause-done c = λ frames. ap (operate (with_limits c.args.heap.now.most frames) (tables_of c.args.rows.now.program.now) c.args.op.now.span.from (slots_of c.args.frame.now) (heap_of c.args.heap.now)) c.in-Length.is ∙ c.array_length.ensures.done (with_limits c.args.heap.now.most frames) (tables_of c.args.rows.now.program.now)

pub returns-in-NewArray-clause-done : goal.returns-in-NewArray-clause-done
returns-in-NewArray-clause-done c = λ frames. ap (operate (with_limits c.args.heap.now.most frames) (tables_of c.args.rows.now.program.now) c.args.op.now.span.from (slots_of c.args.frame.now) (heap_of c.args.heap.now)) c.in-NewArray.is ∙ c.new_array.ensures.done frames (tables_of c.args.rows.now.program.now)

pub returns-in-Fill-clause-done : goal.returns-in-Fill-clause-done
returns-in-Fill-clause-done c = λ frames. ap (operate (with_limits c.args.heap.now.most frames) (tables_of c.args.rows.now.program.now) c.args.op.now.span.from (slots_of c.args.frame.now) (heap_of c.args.heap.now)) c.in-Fill.is ∙ (ap (λ es. allocate (with_limits c.args.heap.now.most frames) (tables_of c.args.rows.now.program.now) c.args.op.now.span.from (slots_of c.args.frame.now) (heap_of c.args.heap.now) c.in-Fill.target c.in-Fill.ty (length es) (map (value_at (slots_of c.args.frame.now)) es)) (sym c.as_slice.ensures) ∙ c.fill.ensures.done frames (tables_of c.args.rows.now.program.now))

pub returns-in-Load-clause-done : goal.returns-in-Load-clause-done
returns-in-Load-clause-done c = λ frames. ap (operate (with_limits c.args.heap.now.most frames) (tables_of c.args.rows.now.program.now) c.args.op.now.span.from (slots_of c.args.frame.now) (heap_of c.args.heap.now)) c.in-Load.is ∙ c.load.ensures.done (with_limits c.args.heap.now.most frames) (tables_of c.args.rows.now.program.now)

pub returns-in-Store-clause-done : goal.returns-in-Store-clause-done
returns-in-Store-clause-done c = λ frames. ap (operate (with_limits c.args.heap.now.most frames) (tables_of c.args.rows.now.program.now) c.args.op.now.span.from (slots_of c.args.frame.now) (heap_of c.args.heap.now)) c.in-Store.is ∙ c.store.ensures.done (with_limits c.args.heap.now.most frames) (tables_of c.args.rows.now.program.now)

pub returns-in-ReadField-clause-done : goal.returns-in-ReadField-clause-done
returns-in-ReadField-clause-done c = λ frames. ap (operate (with_limits c.args.heap.now.most frames) (tables_of c.args.rows.now.program.now) c.args.op.now.span.from (slots_of c.args.frame.now) (heap_of c.args.heap.now)) c.in-ReadField.is ∙ c.read_field.ensures.done (with_limits c.args.heap.now.most frames)

pub returns-in-WriteField-clause-done : goal.returns-in-WriteField-clause-done
returns-in-WriteField-clause-done c = λ frames. ap (operate (with_limits c.args.heap.now.most frames) (tables_of c.args.rows.now.program.now) c.args.op.now.span.from (slots_of c.args.frame.now) (heap_of c.args.heap.now)) c.in-WriteField.is ∙ c.write_field.ensures.done (with_limits c.args.heap.now.most frames)

pub returns-in-Num-clause-printed : goal.returns-in-Num-clause-printed
returns-in-Num-clause-printed c = λ is. absurd (c.num.ensures.printed is)

pub returns-in-Num-clause-stopped : goal.returns-in-Num-clause-stopped
returns-in-Num-clause-stopped c = λ is. (c.num.ensures.stopped is, refl)

pub returns-in-Num-clause-method : goal.returns-in-Num-clause-method
returns-in-Num-clause-method c = c.num.ensures.method

pub returns-in-Num-clause-stack : goal.returns-in-Num-clause-stack
returns-in-Num-clause-stack c = c.num.ensures.stack

pub returns-in-Unary-clause-printed : goal.returns-in-Unary-clause-printed
returns-in-Unary-clause-printed c = λ is. absurd (c.unary.ensures.printed is)

pub returns-in-Unary-clause-stopped : goal.returns-in-Unary-clause-stopped
returns-in-Unary-clause-stopped c = λ is. (c.unary.ensures.stopped is, refl)

pub returns-in-Unary-clause-method : goal.returns-in-Unary-clause-method
returns-in-Unary-clause-method c = c.unary.ensures.method

pub returns-in-Unary-clause-stack : goal.returns-in-Unary-clause-stack
returns-in-Unary-clause-stack c = c.unary.ensures.stack

pub returns-in-Length-clause-printed : goal.returns-in-Length-clause-printed
returns-in-Length-clause-printed c = λ is. absurd (c.array_length.ensures.printed is)

pub returns-in-Length-clause-stopped : goal.returns-in-Length-clause-stopped
returns-in-Length-clause-stopped c = λ is. (c.array_length.ensures.stopped is, refl)

pub returns-in-Length-clause-method : goal.returns-in-Length-clause-method
returns-in-Length-clause-method c = c.array_length.ensures.method

pub returns-in-Length-clause-stack : goal.returns-in-Length-clause-stack
returns-in-Length-clause-stack c = c.array_length.ensures.stack

pub returns-in-NewArray-clause-printed : goal.returns-in-NewArray-clause-printed
returns-in-NewArray-clause-printed c = λ is. absurd (c.new_array.ensures.printed is)

pub returns-in-NewArray-clause-stopped : goal.returns-in-NewArray-clause-stopped
returns-in-NewArray-clause-stopped c = λ is. (c.new_array.ensures.stopped is, c.new_array.ensures.unmade is)

pub returns-in-NewArray-clause-method : goal.returns-in-NewArray-clause-method
returns-in-NewArray-clause-method c = c.new_array.ensures.method

pub returns-in-NewArray-clause-stack : goal.returns-in-NewArray-clause-stack
returns-in-NewArray-clause-stack c = c.new_array.ensures.stack

pub returns-in-NewArray-clause-most : goal.returns-in-NewArray-clause-most
returns-in-NewArray-clause-most c = c.new_array.ensures.most

pub returns-in-Fill-clause-printed : goal.returns-in-Fill-clause-printed
returns-in-Fill-clause-printed c = λ is. absurd (c.fill.ensures.printed is)

pub returns-in-Fill-clause-stopped : goal.returns-in-Fill-clause-stopped
returns-in-Fill-clause-stopped c = λ is. (c.fill.ensures.stopped is, c.fill.ensures.unmade is)

pub returns-in-Fill-clause-method : goal.returns-in-Fill-clause-method
returns-in-Fill-clause-method c = c.fill.ensures.method

pub returns-in-Fill-clause-stack : goal.returns-in-Fill-clause-stack
returns-in-Fill-clause-stack c = c.fill.ensures.stack

pub returns-in-Fill-clause-most : goal.returns-in-Fill-clause-most
returns-in-Fill-clause-most c = c.fill.ensures.most

pub returns-in-Load-clause-printed : goal.returns-in-Load-clause-printed
returns-in-Load-clause-printed c = λ is. absurd (c.load.ensures.printed is)

pub returns-in-Load-clause-stopped : goal.returns-in-Load-clause-stopped
returns-in-Load-clause-stopped c = λ is. (c.load.ensures.stopped is, refl)

pub returns-in-Load-clause-method : goal.returns-in-Load-clause-method
returns-in-Load-clause-method c = c.load.ensures.method

pub returns-in-Load-clause-stack : goal.returns-in-Load-clause-stack
returns-in-Load-clause-stack c = c.load.ensures.stack

pub returns-in-ReadField-clause-printed : goal.returns-in-ReadField-clause-printed
returns-in-ReadField-clause-printed c = λ is. absurd (c.read_field.ensures.printed is)

pub returns-in-ReadField-clause-stopped : goal.returns-in-ReadField-clause-stopped
returns-in-ReadField-clause-stopped c = λ is. (c.read_field.ensures.stopped is, refl)

pub returns-in-ReadField-clause-method : goal.returns-in-ReadField-clause-method
returns-in-ReadField-clause-method c = c.read_field.ensures.method

pub returns-in-ReadField-clause-stack : goal.returns-in-ReadField-clause-stack
returns-in-ReadField-clause-stack c = c.read_field.ensures.stack

pub returns-in-Store-clause-printed : goal.returns-in-Store-clause-printed
returns-in-Store-clause-printed c = λ is. absurd (c.store.ensures.printed is)

pub returns-in-Store-clause-stopped : goal.returns-in-Store-clause-stopped
returns-in-Store-clause-stopped c = λ is. (refl, c.store.ensures.stopped is)

pub returns-in-Store-clause-most : goal.returns-in-Store-clause-most
returns-in-Store-clause-most c = c.store.ensures.most

pub returns-in-WriteField-clause-printed : goal.returns-in-WriteField-clause-printed
returns-in-WriteField-clause-printed c = λ is. absurd (c.write_field.ensures.printed is)

pub returns-in-WriteField-clause-stopped : goal.returns-in-WriteField-clause-stopped
returns-in-WriteField-clause-stopped c = λ is. (refl, c.write_field.ensures.stopped is)

pub returns-in-WriteField-clause-most : goal.returns-in-WriteField-clause-most
returns-in-WriteField-clause-most c = c.write_field.ensures.most

pub returns-in-Const-clause-printed : goal.returns-in-Const-clause-printed
returns-in-Const-clause-printed c = λ is. absurd is

pub returns-in-Const-clause-stopped : goal.returns-in-Const-clause-stopped
returns-in-Const-clause-stopped c = λ is. absurd is

pub returns-in-Copy-clause-printed : goal.returns-in-Copy-clause-printed
returns-in-Copy-clause-printed c = λ is. absurd is

pub returns-in-Copy-clause-stopped : goal.returns-in-Copy-clause-stopped
returns-in-Copy-clause-stopped c = λ is. absurd is
