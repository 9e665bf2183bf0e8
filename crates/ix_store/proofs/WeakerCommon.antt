-- Of two lists of which one says all that the other says, what both say is what the other says.
use Rattle.std.specs.Prelude.{List}
use Rattle.ix_core.specs.declared.fact.Fact.{Fact}
use Rattle.ix_facts.specs.Closure.{SaysAll, AllTell, IsCommon}
use Rattle.ix_facts.proofs.SaidLaws.{said_itself}

pub second_common : (first second : List Fact) → SaysAll first second → AllTell second → IsCommon first second second
second_common first second says tells = record {
  both = λ f s t. t;
  left = λ f i. says f (said_itself second f i);
  right = λ f i. said_itself second f i;
  tells = tells;
}

pub first_common : (first second : List Fact) → SaysAll second first → AllTell first → IsCommon first second first
first_common first second says tells = record {
  both = λ f s t. s;
  left = λ f i. said_itself first f i;
  right = λ f i. says f (said_itself first f i);
  tells = tells;
}
