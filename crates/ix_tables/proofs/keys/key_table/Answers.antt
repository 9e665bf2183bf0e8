use Rattle.std.proofs.Common.{refl}
use Rattle.ix_tables.proofs.keys.key_table.Goals as goal

pub returns-clause-rows : goal.returns-clause-rows
returns-clause-rows c = refl

pub returns-clause-numbers : goal.returns-clause-numbers
returns-clause-numbers c = refl

pub returns-clause-keys : goal.returns-clause-keys
returns-clause-keys c = refl
