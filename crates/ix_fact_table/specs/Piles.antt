-- Two tables as piles: each new fact goes into one of them.
use Rattle.std.specs.Prelude.{◌≡◌, ◌⊎◌, true, List, [], ◌∷◌}
use Rattle.ix_core.specs.declared.fact.Fact.{Fact}
use Rattle.ix_facts.specs.declared.kind.Kind.{Kind}
use Rattle.ix_facts.specs.Facts.{IsIn}
use Rattle.ix_facts.specs.Kinds.{of_kind}
use Rattle.ix_facts.specs.Systems.{IsTable}
use Rattle.ix_fact_table.specs.Rising.{rises, is_table_of}
use Rattle.ix_fact_table.specs.Walks.{HasBoth}

-- the fact has been put into a list that rises
pub record IsPut (facts : List Fact) (f : Fact) (all : List Fact) : Type 0 where
  pub both : HasBoth facts (f ∷ []) all
  pub rise : rises all ≡ true

-- the fact has been put into one of the two lists, and the other has stayed
abbrev pub IsPiled : List Fact → List Fact → Fact → List Fact → List Fact → Type 0
IsPiled first second f more others = (IsPut first f more × (others ≡ second)) ⊎ (IsPut second f others × (more ≡ first))

-- The two tables are those of parts of the facts, and each fact is in a part.
pub record ArePiles (own : Kind) (facts first second : List Fact) : Type 0 where
  pub mine : List Fact
  pub theirs : List Fact
  pub first_form : is_table_of own first ≡ true
  pub second_form : is_table_of own second ≡ true
  pub first_table : IsTable (of_kind own mine) first
  pub second_table : IsTable (of_kind own theirs) second
  pub mine_in : (f : Fact) → IsIn f mine → IsIn f facts
  pub theirs_in : (f : Fact) → IsIn f theirs → IsIn f facts
  pub each : (f : Fact) → IsIn f facts → IsIn f mine ⊎ IsIn f theirs
