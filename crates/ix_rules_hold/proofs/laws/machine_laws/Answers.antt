use Rattle.std.specs.Prelude.{◌≡◌, true}
use Rattle.ix_rules_hold.proofs.laws.machine_laws.Goals as goal
use Rattle.ix_core.specs.Tables.{method_at}
use Rattle.ix_core.specs.declared.fact.Profile.TheVariants.{Int32}
use Rattle.ix_core.specs.Numbers.{numbers_of}
use Rattle.ix_facts.proofs.AfterLaws.{after_hold}
use Rattle.ix_rules_hold.proofs.MachineSteps.{done_step, wrapped_step, printed_stays, state_does}
use Rattle.ix_core.proofs.Kept.{done_keeps, wrapped_keeps, has_ints, start_keeps, all_on}
use Rattle.ix_rules_hold.proofs.MachineLoads.{loads_met}

pub returns-clause-steps : goal.returns-clause-steps
returns-clause-steps c = done_step

pub returns-clause-wrapped : goal.returns-clause-wrapped
returns-clause-wrapped c = wrapped_step

pub returns-clause-printed : goal.returns-clause-printed
returns-clause-printed c = printed_stays

pub returns-clause-ints : goal.returns-clause-ints
returns-clause-ints c = done_keeps

pub returns-clause-wrapped_ints : goal.returns-clause-wrapped_ints
returns-clause-wrapped_ints c = wrapped_keeps

pub returns-clause-numbers : goal.returns-clause-numbers
returns-clause-numbers c = has_ints

pub returns-clause-references : goal.returns-clause-references
returns-clause-references c = λ world is_building. all_on world (λ object. is_building object ≡ true)

pub returns-clause-loads : goal.returns-clause-loads
returns-clause-loads c = λ world is_building. loads_met world (λ object. is_building object ≡ true)

pub returns-clause-facts : goal.returns-clause-facts
returns-clause-facts c = λ profile limits tables at slots heap later after before behind kind facts target met on apart did holds.
    after_hold profile kind facts (numbers_of tables.place slots heap before) (numbers_of tables.place later after behind) apart
    (done_step profile limits tables at slots heap later after before behind kind target met on did) holds

pub returns-clause-wrapped_facts : goal.returns-clause-wrapped_facts
returns-clause-wrapped_facts c = λ limits tables at slots heap later after before behind kind facts target apart did holds.
    after_hold Int32 kind facts (numbers_of tables.place slots heap before) (numbers_of tables.place later after behind) apart
    (wrapped_step limits tables at slots heap later after before behind kind target did) holds

pub returns-clause-does : goal.returns-clause-does
returns-clause-does c = state_does

pub returns-clause-begins : goal.returns-clause-begins
returns-clause-begins c = λ program method inputs. start_keeps (method_at program method).slots inputs (method_at program method).param_types
