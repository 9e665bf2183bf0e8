use Rattle.ix_facts.proofs.laws.system_laws.Goals as goal
use Rattle.ix_facts.proofs.SystemLaws.{covers_kind, order_kind, table_holds, system_sound, system_copy_sound, system_add_sound}
use Rattle.ix_facts.proofs.SaidLaws.{without_says}
use Rattle.ix_facts.proofs.SaidTables.{table_says, system_says, system_copy_says, system_round_says, system_round_weaker, system_add_says}
use Rattle.ix_facts.specs.Forget.{of_path}
use Rattle.ix_facts.specs.Systems.{system_rounded}
use Rattle.ix_facts.proofs.FactLists.{stronger_hold}
use Rattle.ix_facts.proofs.Frame.{without_holds, without_stays}
use Rattle.ix_facts.proofs.RoundLaws.{each_weaker}

pub returns-clause-key : goal.returns-clause-key
returns-clause-key c = covers_kind

pub returns-clause-order : goal.returns-clause-order
returns-clause-order c = order_kind

pub returns-clause-table_sound : goal.returns-clause-table_sound
returns-clause-table_sound c = table_holds

pub returns-clause-table_monotone : goal.returns-clause-table_monotone
returns-clause-table_monotone c = table_says

pub returns-clause-after_sound : goal.returns-clause-after_sound
returns-clause-after_sound c = system_sound

pub returns-clause-after_monotone : goal.returns-clause-after_monotone
returns-clause-after_monotone c = system_says

pub returns-clause-copy_sound : goal.returns-clause-copy_sound
returns-clause-copy_sound c = system_copy_sound

pub returns-clause-copy_monotone : goal.returns-clause-copy_monotone
returns-clause-copy_monotone c = system_copy_says

pub returns-clause-round_sound : goal.returns-clause-round_sound
returns-clause-round_sound c = λ marks table v h. stronger_hold v table (system_rounded marks table) (each_weaker marks table) h

pub returns-clause-round_monotone : goal.returns-clause-round_monotone
returns-clause-round_monotone c = system_round_says

pub returns-clause-round_weaker : goal.returns-clause-round_weaker
returns-clause-round_weaker c = system_round_weaker

pub returns-clause-forget_sound : goal.returns-clause-forget_sound
returns-clause-forget_sound c = λ p table v w same h. without_stays (of_path p) v w same table (without_holds (of_path p) v table h)

pub returns-clause-forget_monotone : goal.returns-clause-forget_monotone
returns-clause-forget_monotone c = λ p. without_says (of_path p)

pub returns-clause-add_sound : goal.returns-clause-add_sound
returns-clause-add_sound c = system_add_sound

pub returns-clause-add_monotone : goal.returns-clause-add_monotone
returns-clause-add_monotone c = system_add_says
