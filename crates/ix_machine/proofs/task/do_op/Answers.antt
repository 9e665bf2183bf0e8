use Rattle.ix_machine_state.specs.Frames.{slots_of}
use Rattle.ix_machine_state.specs.View.{heap_of}
use Rattle.ix_core.specs.Tasks.{code_then}
use Rattle.ix_core.specs.Machine.{Go, Wrap, effect_then}
use Rattle.ix_core.specs.Code.{items_code}
use Rattle.ix_machine_state.specs.Places.{outer, tasks_open}
use Rattle.ix_machine_state.specs.Fits.{IsFree}
use Rattle.ix_machine_state.specs.declared.places.Place.TheVariants as place
use Rattle.ix_machine_state.specs.declared.stack.Stack.{Stack}
use Rattle.std.proofs.Common.{◌<◌, length, ap, sym, subst, ◌∙◌}
use Rattle.ix_machine.proofs.task.do_op.Goals as goal

pub go_on-requires-clause-free : goal.go_on-requires-clause-free
go_on-requires-clause-free c = subst (λ (stack : Stack). IsFree (length (outer stack.places.items)) stack.room (place.Rest c.args.rest)) (sym c.operate.ensures.stack) c.requires.left

pub go_on-requires-clause-some : goal.go_on-requires-clause-some
go_on-requires-clause-some c = subst (λ (stack : Stack). 0 < length stack.places.items) (sym c.operate.ensures.stack) c.requires.open

pub go_on-requires-in-Wrapped-clause-free : goal.go_on-requires-in-Wrapped-clause-free
go_on-requires-in-Wrapped-clause-free c = subst (λ (stack : Stack). IsFree (length (outer stack.places.items)) stack.room (place.Rest c.args.rest)) (sym c.operate.ensures.stack) c.requires.left

pub go_on-requires-in-Wrapped-clause-some : goal.go_on-requires-in-Wrapped-clause-some
go_on-requires-in-Wrapped-clause-some c = subst (λ (stack : Stack). 0 < length stack.places.items) (sym c.operate.ensures.stack) c.requires.open

pub go_on-requires-in-Printed-clause-free : goal.go_on-requires-in-Printed-clause-free
go_on-requires-in-Printed-clause-free c = subst (λ (stack : Stack). IsFree (length (outer stack.places.items)) stack.room (place.Rest c.args.rest)) (sym c.operate.ensures.stack) c.requires.left

pub go_on-requires-in-Printed-clause-some : goal.go_on-requires-in-Printed-clause-some
go_on-requires-in-Printed-clause-some c = subst (λ (stack : Stack). 0 < length stack.places.items) (sym c.operate.ensures.stack) c.requires.open

pub go_on-requires-in-Stopped-clause-free : goal.go_on-requires-in-Stopped-clause-free
go_on-requires-in-Stopped-clause-free c = subst (λ (stack : Stack). IsFree (length (outer stack.places.items)) stack.room (place.Rest c.args.items)) (sym c.operate.ensures.stack) c.requires.free

pub go_on-requires-in-Stopped-clause-some : goal.go_on-requires-in-Stopped-clause-some
go_on-requires-in-Stopped-clause-some c = subst (λ (stack : Stack). 0 < length stack.places.items) (sym c.operate.ensures.stack) c.requires.open

pub returns-in-Done-clause-back : goal.returns-in-Done-clause-back
returns-in-Done-clause-back c = λ is. absurd is

pub returns-in-Wrapped-clause-back : goal.returns-in-Wrapped-clause-back
returns-in-Wrapped-clause-back c = λ is. absurd is

pub returns-in-Printed-clause-back : goal.returns-in-Printed-clause-back
returns-in-Printed-clause-back c = λ is. absurd is

pub returns-in-Some-clause-back : goal.returns-in-Some-clause-back
returns-in-Some-clause-back c = λ is. absurd is

pub returns-in-Done-clause-values : goal.returns-in-Done-clause-values
returns-in-Done-clause-values c = λ is. absurd is

pub returns-in-Wrapped-clause-values : goal.returns-in-Wrapped-clause-values
returns-in-Wrapped-clause-values c = λ is. absurd is

pub returns-in-Done-clause-moved : goal.returns-in-Done-clause-moved
returns-in-Done-clause-moved c = λ frames.
    ap (λ effect. effect_then effect c.args.op.now.span.from (code_then (items_code c.args.rest.now) (tasks_open (outer c.args.frame.now.stack.places.items)))) (c.in-Done.ensures.done frames)
    ∙ ap (λ tasks. Go tasks (slots_of c.operate.new.frame) (heap_of c.operate.new.heap)) (sym (c.go_on.ensures.tasks ∙ ap (λ (stack : Stack). code_then (items_code c.args.rest.now) (tasks_open (outer stack.places.items))) c.operate.ensures.stack))

pub returns-in-Wrapped-clause-moved : goal.returns-in-Wrapped-clause-moved
returns-in-Wrapped-clause-moved c = λ frames.
    ap (λ effect. effect_then effect c.args.op.now.span.from (code_then (items_code c.args.rest.now) (tasks_open (outer c.args.frame.now.stack.places.items)))) (c.in-Wrapped.ensures.done frames)
    ∙ ap (λ tasks. Wrap tasks (slots_of c.operate.new.frame) (heap_of c.operate.new.heap)) (sym (c.go_on-in-Wrapped.ensures.tasks ∙ ap (λ (stack : Stack). code_then (items_code c.args.rest.now) (tasks_open (outer stack.places.items))) c.operate.ensures.stack))
