-- The least store that one step behind another gives is the least of the second behind the least of the first.
use Rattle.std.specs.Prelude.{List}
use Rattle.ix_core.specs.declared.fact.Fact.{Fact}
use Rattle.ix_core.specs.declared.fact.Path.{Path}
use Rattle.ix_core.specs.declared.fact.PathClaim.{PathClaim}
use Rattle.ix_facts.specs.Stores.{Stored, IsBelow, IsGiven, Gives, Then, IsStep}
use Rattle.ix_facts.proofs.SplitLaws.{proved_mono}
use Rattle.ix_facts.proofs.StepLaws.{given_gives, given_least}
use Rattle.ix_facts.proofs.StoreLaws.{below_itself}
use Rattle.ix_signatures.specs.Signs.{IsLeastOf}
use Rattle.ix_signatures.specs.SignErrors.{Refuses, AllRefuse}

-- the store that a rule gives is the least that is above
pub least_given : (rule : List Fact → List Fact) (s t : Stored) → IsGiven rule s t → IsLeastOf (Gives rule) s t
least_given rule s t given = record { above = given_gives rule s t given; least = λ u gives. given_least rule s t u given gives }

pub least_then : (First Second : Stored → Stored → Type 0) → IsStep Second → (s between t : Stored) → IsLeastOf First s between → IsLeastOf Second between t → IsLeastOf (Then First Second) s t
least_then First Second second s between t first later = record {
  above = (between, first.above, later.above);
  least = λ u gives. later.least u (second between gives.0 u u (first.least gives.0 gives.1) gives.2 (below_itself u));
}

-- ---- a claim that the least store refuses is refused by all, and the other way round

pub all_refuse : (Allowed : Stored → Type 0) (t : Stored) (claim : PathClaim) (p : Path) → ((u : Stored) → Allowed u → IsBelow t u) → Refuses t claim p → AllRefuse Allowed claim p
all_refuse Allowed t claim p least refused u allowed proved = refused (proved_mono claim p t u (least u allowed) proved)

pub refuse_least : (Allowed : Stored → Type 0) (t : Stored) (claim : PathClaim) (p : Path) → Allowed t → AllRefuse Allowed claim p → Refuses t claim p
refuse_least Allowed t claim p allowed all = all t allowed
