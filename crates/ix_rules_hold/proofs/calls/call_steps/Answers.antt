use Rattle.std.specs.Prelude.{◌||◌}
use Rattle.ix_core.specs.Machine.{set_target, target_of, run}
use Rattle.ix_core.specs.Numbers.{numbers_of}
use Rattle.ix_core.specs.World.{tables_in}
use Rattle.ix_facts.specs.FieldSteps.{of_called}
use Rattle.ix_facts.specs.Forget.{of_this, of_call}
use Rattle.ix_facts.proofs.StoresHold.{forgotten_meets}
use Rattle.ix_rules_hold.specs.CallEffects.{spared_in}
use Rattle.ix_rules_hold.proofs.calls.call_steps.Goals as goal
use Rattle.ix_rules_hold.proofs.ReturnedCalls.{called_step, super_step, since_entered, since_later, returned_call, returned_super}

pub returns-clause-called : goal.returns-clause-called
returns-clause-called c = λ world caller callee kind call slots began heap value before behind plain all since. called_step world caller callee kind slots began heap before all since call value behind plain

pub returns-clause-called_facts : goal.returns-clause-called_facts
returns-clause-called_facts c = λ world caller callee kind call slots began heap value before behind known told plain all since forgotten meets.
    forgotten_meets (of_called call.target world.is_final (spared_in caller callee)) (numbers_of world.place slots began before)
    (numbers_of world.place (set_target (target_of (tables_in world) kind call) value slots) heap behind)
    (called_step world caller callee kind slots began heap before all since call value behind plain) known told forgotten meets

pub returns-clause-super_called : goal.returns-clause-super_called
returns-clause-super_called c = λ world caller callee kind slots began heap before behind all since. super_step world caller callee kind slots began heap before all since behind

pub returns-clause-super_facts : goal.returns-clause-super_facts
returns-clause-super_facts c = λ world caller callee kind slots began heap before behind known told all since forgotten meets.
    forgotten_meets (λ p. of_this p || of_call world.is_final (spared_in caller callee) p) (numbers_of world.place slots began before) (numbers_of world.place slots heap behind)
    (super_step world caller callee kind slots began heap before all since behind) known told forgotten meets

pub returns-clause-began : goal.returns-clause-began
returns-clause-began c = since_entered

pub returns-clause-goes_on : goal.returns-clause-goes_on
returns-clause-goes_on c = since_later

pub returns-clause-returned : goal.returns-clause-returned
returns-clause-returned c = λ limits world state call place tasks method steps before behind all running has kind plain next found since.
    returned_call limits world state running call place tasks method steps before behind all kind next found has plain since

pub returns-clause-returned_facts : goal.returns-clause-returned_facts
returns-clause-returned_facts c = λ limits world state call place tasks method steps before behind all running has kind known told plain next found since forgotten meets.
    let last = run limits (tables_in world) steps state in
    forgotten_meets (of_called call.target world.is_final (spared_in (world.methods state.now.method) (world.methods method)))
    (numbers_of world.place state.now.slots state.heap before) (numbers_of world.place last.now.slots last.heap behind)
    (returned_call limits world state running call place tasks method steps before behind all kind next found has plain since) known told forgotten meets

pub returns-clause-super_returned : goal.returns-clause-super_returned
returns-clause-super_returned c = λ limits world state call place tasks method steps before behind all running has next found since.
    returned_super limits world state running call place tasks method steps before behind all next found has since
