use Rattle.std.specs.Prelude.{◌≡◌, true}
use Rattle.ix_core.specs.Numbers.{numbers_of}
use Rattle.ix_core.specs.World.{tables_in}
use Rattle.ix_facts.proofs.StoresHold.{read_meets, written_meets}
use Rattle.ix_rules_hold.specs.FieldAccess.{spared_by}
use Rattle.ix_rules_hold.proofs.fields.field_steps.Goals as goal
use Rattle.ix_rules_hold.proofs.FieldReads.{read_step}
use Rattle.ix_rules_hold.proofs.FieldWrites.{write_step, alone_spares, spares_alone, spares_none, this_spares_none, kept_cells, kept_alone}

pub returns-clause-read : goal.returns-clause-read
returns-clause-read c = read_step

pub returns-clause-read_facts : goal.returns-clause-read_facts
returns-clause-read_facts c = λ limits tables at slots heap later after before behind ty target object field known told within apart did copied meets.
    read_meets ty target object field (numbers_of tables.place slots heap before) (numbers_of tables.place later after behind) apart
    (read_step limits tables at slots heap later after before behind target object field within did) known told copied meets

pub returns-clause-written : goal.returns-clause-written
returns-clause-written c = write_step

pub returns-clause-this_is_spared : goal.returns-clause-this_is_spared
returns-clause-this_is_spared c = alone_spares

pub returns-clause-only_so : goal.returns-clause-only_so
returns-clause-only_so c = spares_alone

pub returns-clause-methods_spare_none : goal.returns-clause-methods_spare_none
returns-clause-methods_spare_none c = spares_none

pub returns-clause-through_this_spares_none : goal.returns-clause-through_this_spares_none
returns-clause-through_this_spares_none c = this_spares_none

pub returns-clause-cells : goal.returns-clause-cells
returns-clause-cells c = λ world tables is_building. kept_cells world tables (λ object. is_building object ≡ true)

pub returns-clause-alone : goal.returns-clause-alone
returns-clause-alone c = λ is_building. kept_alone (λ object. is_building object ≡ true)

pub returns-clause-written_by_rule : goal.returns-clause-written_by_rule
returns-clause-written_by_rule c = λ limits world at method slots heap later after before behind cells alone through field value did.
    write_step limits (tables_in world) at slots heap later after before behind cells through field value (spared_by method through) (alone_spares method slots alone through) did

pub returns-clause-written_facts : goal.returns-clause-written_facts
returns-clause-written_facts c = λ limits world at method slots heap later after before behind cells alone ty through field value known between told did forgotten copied meets.
    written_meets ty through field value (spared_by method through) (numbers_of world.place slots heap before) (numbers_of world.place later after behind)
    (write_step limits (tables_in world) at slots heap later after before behind cells through field value (spared_by method through) (alone_spares method slots alone through) did)
    known between told forgotten copied meets
