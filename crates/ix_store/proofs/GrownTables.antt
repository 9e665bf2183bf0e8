-- A table that gets all that follows from it and some facts is the closed list of both.
use Rattle.std.specs.Prelude.{◌≡◌, List, Option, Some, None, IfSome, IfNone}
use Rattle.std.proofs.Common.{subst}
use Rattle.ix_core.specs.declared.fact.Fact.{Fact}
use Rattle.ix_facts.specs.Closure.{IsClosedOf}
use Rattle.ix_fact_table.specs.declared.fact_table.FactTable.{FactTable}
use Rattle.ix_fact_table.specs.FactTables.{facts_of}
use Rattle.ix_fact_table.specs.Saturated.{IsSaturated}

-- of the facts from which all that is said follows
module _ (facts saturated : List Fact) (whole : IsSaturated facts saturated) where
  pub none_at : (more : Option FactTable) (known : List Fact) → IfNone more ((all : List Fact) → IsSaturated all saturated → IsClosedOf all known) → IfNone more (IsClosedOf facts known)
  none_at None known made = made facts whole
  none_at (Some more) known made = tt

  pub some_at : (more : Option FactTable) → IfSome more (λ more. (all : List Fact) → IsSaturated all saturated → IsClosedOf all (facts_of more)) → IfSome more (λ more. IsClosedOf facts (facts_of more))
  some_at None made = tt
  some_at (Some more) made = made facts whole

-- ---- what a call answered

module _ {A : Type 0} where
  pub at_none : (more : Option A) (P : Type 0) → more ≡ None → IfNone more P → P
  at_none None P is p = p
  at_none (Some one) P is p = absurd cc

  pub at_some : (more : Option A) (one : A) (P : A → Type 0) → more ≡ Some one → IfSome more P → P one
  at_some None one P is p = absurd cc
  at_some (Some other) one P is p = let same : other ≡ one = cc in subst P same p
