use Rattle.ix_facts.proofs.stores.rule_laws.Goals as goal
use Rattle.ix_facts.specs.Forget.{without}
use Rattle.ix_facts.specs.Round.{rounded}
use Rattle.ix_facts.specs.Stores.{operated, with_copy}
use Rattle.ix_facts.proofs.SaidRules.{operated_mono, with_copy_mono, without_mono, rounded_mono, rounded_above}
use Rattle.ix_facts.proofs.SaidTables.{without_weaker}
use Rattle.ix_facts.proofs.SplitLaws.{after_meets, proved_mono, told_meets, told_mono}
use Rattle.ix_facts.proofs.StepLaws.{gives_step, gives_meets, given_gives, given_least, outcomes_step, outcomes_meet, told_give, told_least}
use Rattle.ix_facts.proofs.StoreLaws.{given_closed, given_mono, given_meets, given_above}
use Rattle.ix_facts.proofs.StoresHold.{copied_meets, forgotten_meets, rounded_meets, added_meets, added_two, added_below, assumed_meets, proved_meets, entry_meets, entry_mono}

pub returns-clause-closed : goal.returns-clause-closed
returns-clause-closed c = given_closed

pub returns-clause-sound : goal.returns-clause-sound
returns-clause-sound c = given_meets

pub returns-clause-monotone : goal.returns-clause-monotone
returns-clause-monotone c = given_mono

pub returns-clause-above : goal.returns-clause-above
returns-clause-above c = given_gives

pub returns-clause-least : goal.returns-clause-least
returns-clause-least c = given_least

pub returns-clause-above_sound : goal.returns-clause-above_sound
returns-clause-above_sound c = gives_meets

pub returns-clause-step : goal.returns-clause-step
returns-clause-step c = gives_step

pub returns-clause-after_sound : goal.returns-clause-after_sound
returns-clause-after_sound c = after_meets

pub returns-clause-after_monotone : goal.returns-clause-after_monotone
returns-clause-after_monotone c = λ profile kind. given_mono (operated profile kind) (operated_mono profile kind)

pub returns-clause-copied_sound : goal.returns-clause-copied_sound
returns-clause-copied_sound c = copied_meets

pub returns-clause-copied_monotone : goal.returns-clause-copied_monotone
returns-clause-copied_monotone c = λ ty p q. given_mono (with_copy ty p q) (with_copy_mono ty p q)

pub returns-clause-forgotten_sound : goal.returns-clause-forgotten_sound
returns-clause-forgotten_sound c = forgotten_meets

pub returns-clause-forgotten_monotone : goal.returns-clause-forgotten_monotone
returns-clause-forgotten_monotone c = λ is. given_mono (without is) (without_mono is)

pub returns-clause-forgotten_above : goal.returns-clause-forgotten_above
returns-clause-forgotten_above c = λ is. given_above (without is) (without_weaker is)

pub returns-clause-rounded_sound : goal.returns-clause-rounded_sound
returns-clause-rounded_sound c = rounded_meets

pub returns-clause-rounded_monotone : goal.returns-clause-rounded_monotone
returns-clause-rounded_monotone c = λ marks scope. given_mono (rounded marks scope) (rounded_mono marks scope)

pub returns-clause-rounded_above : goal.returns-clause-rounded_above
returns-clause-rounded_above c = λ marks scope. given_above (rounded marks scope) (rounded_above marks scope)

pub returns-clause-added_sound : goal.returns-clause-added_sound
returns-clause-added_sound c = added_meets

pub returns-clause-added_monotone : goal.returns-clause-added_monotone
returns-clause-added_monotone c = added_two

pub returns-clause-added_below : goal.returns-clause-added_below
returns-clause-added_below c = added_below

pub returns-clause-assumed_sound : goal.returns-clause-assumed_sound
returns-clause-assumed_sound c = assumed_meets

pub returns-clause-proved_sound : goal.returns-clause-proved_sound
returns-clause-proved_sound c = proved_meets

pub returns-clause-proved_monotone : goal.returns-clause-proved_monotone
returns-clause-proved_monotone c = proved_mono

pub returns-clause-told_sound : goal.returns-clause-told_sound
returns-clause-told_sound c = told_meets

pub returns-clause-told_monotone : goal.returns-clause-told_monotone
returns-clause-told_monotone c = told_mono

pub returns-clause-told_above : goal.returns-clause-told_above
returns-clause-told_above c = told_give

pub returns-clause-told_least : goal.returns-clause-told_least
returns-clause-told_least c = told_least

pub returns-clause-outcomes_sound : goal.returns-clause-outcomes_sound
returns-clause-outcomes_sound c = outcomes_meet

pub returns-clause-outcomes_step : goal.returns-clause-outcomes_step
returns-clause-outcomes_step c = outcomes_step

pub returns-clause-entry_sound : goal.returns-clause-entry_sound
returns-clause-entry_sound c = entry_meets

pub returns-clause-entry_monotone : goal.returns-clause-entry_monotone
returns-clause-entry_monotone c = entry_mono
