-- Lists with the same facts: no rule and no table tells them apart.
use Rattle.std.specs.Prelude.{List}
use Rattle.ix_core.specs.declared.fact.Fact.{Fact}
use Rattle.ix_facts.specs.Facts.{IsIn}

-- The second list has each fact of the first.
abbrev pub HasAll : List Fact → List Fact → Type 0
HasAll facts more = (f : Fact) → IsIn f facts → IsIn f more

pub record AreSame (facts others : List Fact) : Type 0 where
  pub there : HasAll facts others
  pub back : HasAll others facts
