use Rattle.std.proofs.Common.{refl, ◌∙◌, arith}
use Rattle.ix_machine_state.proofs.Reach.{shorter}
use Rattle.ix_machine_state.proofs.Free.{free_same, free_above}
use Rattle.ix_machine_state.proofs.Opened.{after_answer-branch, after_answer-enter, after_answer-not, after_answer-both, after_answer-either, after_answer-both-asked, after_answer-either-asked, after_answer-out}
use Rattle.ix_machine_state.proofs.stack.Stack.decided.Goals as goal
use Rattle.ix_machine_state.proofs.stack.Stack.decided.Goals.{then-now-2, else-now-2}

pub returns-in-Branch-clause-tasks : goal.returns-in-Branch-clause-tasks
returns-in-Branch-clause-tasks c =
    after_answer-branch c.loop-place.now c.loop-place.self.places.items c.pop.new.self.places.items _ c.in-Branch.first c.in-Branch.second c.if-now-2.put
    (rw c.in-Branch.is at c.in-Some.ensures.items) c.put-in-Branch.ensures.items
    (elim c.if-now-2.branch [ then-now-2 w ↦ rw w.if-now-2.true w.put-is | else-now-2 w ↦ rw w.if-now-2.false w.put-is ])
    ∙ c.loop-place.invariant.tasks

pub returns-then-now-3-clause-tasks : goal.returns-then-now-3-clause-tasks
returns-then-now-3-clause-tasks c =
    after_answer-enter c.loop-place.now c.loop-place.self.places.items c.pop.new.self.places.items _ _ c.in-Enter.turn c.if-now-3.true
    (rw c.in-Enter.is at c.in-Some.ensures.items) refl c.put_two.ensures.items
    ∙ c.loop-place.invariant.tasks

pub put_two-requires : goal.put_two-requires
put_two-requires c =
    let free = rw c.in-Enter.is at c.in-Some.ensures.free in
    record { outer = free_same free refl (omega arith) (omega arith); inner = free_above free refl refl (omega arith) (omega arith) }

pub loop-place-smaller : goal.loop-place-smaller
loop-place-smaller c = shorter _ _ _ c.in-Some.ensures.items

pub loop-place-smaller-else-now : goal.loop-place-smaller-else-now
loop-place-smaller-else-now c = shorter _ _ _ c.in-Some.ensures.items

pub loop-place-smaller-in-Not : goal.loop-place-smaller-in-Not
loop-place-smaller-in-Not c = shorter _ _ _ c.in-Some.ensures.items

pub loop-place-preserved : goal.loop-place-preserved
loop-place-preserved c = record { tasks = after_answer-either c.loop-place.now _ _ c.in-EitherLeft.cond c.if-not-now.false (rw c.in-EitherLeft.is at c.in-Some.ensures.items) ∙ c.loop-place.invariant.tasks; room = c.pop.ensures.room ∙ c.loop-place.invariant.room }

pub loop-place-preserved-else-now : goal.loop-place-preserved-else-now
loop-place-preserved-else-now c = record { tasks = after_answer-both c.loop-place.now _ _ c.in-BothLeft.cond c.if-now.false (rw c.in-BothLeft.is at c.in-Some.ensures.items) ∙ c.loop-place.invariant.tasks; room = c.pop.ensures.room ∙ c.loop-place.invariant.room }

pub loop-place-preserved-in-Not : goal.loop-place-preserved-in-Not
loop-place-preserved-in-Not c = record { tasks = after_answer-not c.loop-place.now _ _ (rw c.in-Not.is at c.in-Some.ensures.items) ∙ c.loop-place.invariant.tasks; room = c.pop.ensures.room ∙ c.loop-place.invariant.room }

pub returns-then-not-now-clause-tasks : goal.returns-then-not-now-clause-tasks
returns-then-not-now-clause-tasks c = after_answer-either-asked c.loop-place.now _ c.pop.new.self.places.items _ c.in-EitherLeft.cond c.if-not-now.true (rw c.in-EitherLeft.is at c.in-Some.ensures.items) c.put-then-not-now.ensures.items ∙ c.loop-place.invariant.tasks

pub returns-then-now-clause-tasks : goal.returns-then-now-clause-tasks
returns-then-now-clause-tasks c = after_answer-both-asked c.loop-place.now _ c.pop.new.self.places.items _ c.in-BothLeft.cond c.if-now.true (rw c.in-BothLeft.is at c.in-Some.ensures.items) c.put.ensures.items ∙ c.loop-place.invariant.tasks

pub returns-else-now-3-clause-tasks : goal.returns-else-now-3-clause-tasks
returns-else-now-3-clause-tasks c = after_answer-out c.loop-place.now _ _ c.in-Enter.turn c.if-now-3.false (rw c.in-Enter.is at c.in-Some.ensures.items) ∙ c.loop-place.invariant.tasks
