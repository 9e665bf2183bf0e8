-- What is known beside a target says what a table that is among it says beside the target.
use Rattle.std.specs.Prelude.{◌≡◌, Bool, List, ◌++◌}
use Rattle.ix_core.specs.declared.fact.Path.{Path}
use Rattle.ix_core.specs.declared.fact.Fact.{Fact}
use Rattle.ix_facts.specs.Closure.{SaysAll}
use Rattle.ix_facts.specs.Forget.{without}
use Rattle.ix_facts.proofs.SaidLaws.{says_more, without_says}
use Rattle.ix_facts.proofs.SaidTables.{without_twice}

pub says_own : (is : Path → Bool) (table others list know : List Fact) → list ≡ table ++ others → know ≡ without is list → SaysAll know (without is table)
says_own is table others list know made kept = rw (kept, made) (without_says is (table ++ others) table (says_more table others table (λ f s. s)))

pub names_none : (is : Path → Bool) (list know : List Fact) → know ≡ without is list → without is know ≡ know
names_none is list know kept = rw kept (without_twice is list)
